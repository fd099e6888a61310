-- Three laws for teaching (document 02, W-207). None of them asks that the parameters and the list be legal.
-- Assumes nothing.
use Prim.Native.Nat.{ℕ, ◌*◌, ◌/◌, ◌%◌, ◌<◌}
use mathlib.Core.Path.{◌≡◌, refl, sym, ◌∙◌}
use mathlib.Core.Bool.{Bool, true, false, cond}
use mathlib.Core.List.{List}
use native.Mathlib.Omega.{arith}
use lib.ListN.{length, get_or}
use lib.Bits.{bit_xor}
use lib.Seq.{ext_get_or}
use Rattle.symbology.specs.declared.Params.{Params}
use Rattle.symbology.specs.declared.Sizes.{Sizes}
use Rattle.symbology.specs.Bits.{AllBits, bitwise_sum}
use Rattle.symbology.specs.Sides.{columns, rows}
use Rattle.symbology.specs.Shuffle.{shuffled}
use Rattle.symbology.specs.Placement.{is_data, cell_at, mask_at, masked}
use Rattle.symbology.specs.Capacity.{sizes_for}
use Rattle.symbology.specs.Code.{matrix_for, codeword_for}
use Rattle.laws.proofs.Masks.{mask_twice}
use Rattle.laws.proofs.Placement.{length_masked, get_or_masked}
use Rattle.laws.proofs.BitwiseSum.{length_sum, first_sum, codeword_sum}

-- The codeword of the sum of two net strings of Pn bits is the sum of their codewords.
pub codeword_of_sum : (p : Params) (list x y : List ℕ)
    → let s = sizes_for p list in
    AllBits x
    → AllBits y
    → length x ≡ s.net
    → length y ≡ s.net
    → codeword_for s (bitwise_sum x y) ≡ bitwise_sum (codeword_for s x) (codeword_for s y)
unfolding codeword_for
codeword_of_sum p list x y u v e f =
    let s : Sizes = sizes_for p list in
    codeword_sum s.checks s.gross (matrix_for s) x y u v (e ∙ sym f)

-- The interleaving of the sum of two words of one length is the sum of their interleavings, whatever the length and the seed.
pub interleaving_of_sum : (seed : ℕ) (x y : List ℕ)
    → length x ≡ length y
    → shuffled 0 seed (bitwise_sum x y) ≡ bitwise_sum (shuffled 0 seed x) (shuffled 0 seed y)
unfolding shuffled
interleaving_of_sum seed x y e = rw (length_sum x y, ← e) (first_sum (length x) seed x y e)

-- A matrix of the symbol's length, whatever its bytes, masked twice with one mask is the matrix that was there.
pub masking_twice : (p : Params) (list matrix : List ℕ) (mask : ℕ)
    → length matrix ≡ rows p * columns p
    → masked p list mask (masked p list mask matrix) ≡ matrix
masking_twice p list matrix mask e =
    let once : List ℕ = masked p list mask matrix in
    let whole : length (masked p list mask once) ≡ rows p * columns p = length_masked p list mask once in
    ext_get_or 0 (masked p list mask once) matrix (whole ∙ sym e) (λ i h.
    let inside : i < rows p * columns p = omega arith in
    let masks : Bool = is_data (cell_at p list (i % columns p) (i / columns p)) in
    let index : ℕ = mask_at mask p.colours (i % columns p) (i / columns p) in
    get_or_masked p list mask once i inside ∙ rw (get_or_masked p list mask matrix i inside) (again masks (get_or matrix i 0) index))
  where
    again : (b : Bool) (v m : ℕ) → cond b (bit_xor (cond b (bit_xor v m) v) m) (cond b (bit_xor v m) v) ≡ v
    again true v m = mask_twice v m
    again false v m = refl
