-- Items of one byte each are the bytes of the buffer.
-- Assumes nothing.
use Prim.Native.Nat.{ℕ, zero, suc, ◌+◌, ◌*◌}
use mathlib.Core.Path.{◌≡◌, refl, ap, ap₂, ◌∙◌}
use mathlib.Core.List.{List}
use native.Mathlib.Omega.{arith}
use lib.ListN.{length}
use Rattle.symbology.specs.Generator.{next_state}
use Rattle.symbology.specs.Shuffle.{drawn_place, exchanged, shuffled_first, shuffled}
use Rattle.shuffle.specs.Items.{exchanged_first, exchanged_items, permuted_items}

bytes_exchanged : (i j : ℕ) (xs : List ℕ) → exchanged_items 1 0 i j xs ≡ exchanged 0 i j xs
unfolding exchanged_first
bytes_exchanged i j xs =
    let first : 0 + 1 * i + 0 ≡ i = omega arith in
    let second : 0 + 1 * j + 0 ≡ j = omega arith in
    ap₂ (λ (p q : ℕ). exchanged 0 p q xs) first second

first_permuted : (n s : ℕ) (xs : List ℕ) → permuted_items 1 0 n s xs ≡ shuffled_first 0 n s xs
unfolding permuted_items shuffled_first
first_permuted zero s xs = refl
first_permuted (suc n) s xs =
    let p : ℕ = drawn_place (next_state s) (suc n) in
    first_permuted n (next_state s) (exchanged_items 1 0 p n xs) ∙ ap (shuffled_first 0 n (next_state s)) (bytes_exchanged p n xs)

pub bytes_permuted : (s : ℕ) (xs : List ℕ) → permuted_items 1 0 (length xs) s xs ≡ shuffled 0 s xs
unfolding shuffled
bytes_permuted s xs = first_permuted (length xs) s xs
