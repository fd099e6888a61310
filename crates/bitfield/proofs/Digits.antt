-- The bits of a number, one at a time: read from the first to the last, stored from the last to the first.
-- Assumes nothing.
use Prim.Native.Nat.{ℕ, zero, suc, ◌+◌, ◌-◌, ◌*◌, ◌/◌, ◌%◌, ◌≤◌, ◌<◌}
use mathlib.Core.Path.{◌≡◌, ◌∙◌}
use mathlib.Core.List.{List, [], ◌∷◌, ◌++◌}
use native.Mathlib.Nat.{add-zero}
use native.Mathlib.Numerals.{add-one}
use native.Mathlib.Omega.{arith}
use lib.ListN.{length, get_or, take, set}
use lib.Pow.{pow_mono}
use lib.Seq.{take-suc, set_comm, sets}
use Rattle.symbology.specs.Bits.{value, bits}
use Rattle.laws.proofs.Bits.{length_bits, value_snoc, value_take}

-- ---- the number that bits write

-- each bit doubles it and is added
pub value_next : (bs : List ℕ) (i : ℕ) → i < length bs → value (take (i + 1) bs) ≡ 2 * value (take i bs) + get_or bs i 0 % 2
value_next bs i h = rw (add-one i, take-suc bs i 0 h, value_snoc)

-- fewer than sixteen bits write a number below 2 ^ 15
pub value_small : (i n : ℕ) (bs : List ℕ) {v : ℕ} → v ≡ value (take i bs) → i < n → n ≤ 16 → v < 32768
value_small i n bs e h k =
    let few : i ≤ 15 = omega arith in
    omega (arith, value_take i bs, pow_mono few)

-- ---- bits stored

-- the last of a run of stores may be done first
sets_last : (o xs : List ℕ) (at y : ℕ) → sets o at (xs ++ (y ∷ [])) ≡ sets (set o (at + length xs) y) at xs
sets_last o [] at y = rw (add-zero at)
sets_last o (x ∷ xs) at y =
    let ahead : suc at + length xs ≡ at + suc (length xs) = omega arith in
    sets_last (set o at x) xs (suc at) y
    ∙ rw (ahead, set_comm o at (at + suc (length xs)) x y (λ e. omega arith))

-- the last bit of a number is stored, and the others are left
pub bits_next : (o : List ℕ) (at i v : ℕ) → 0 < i
    → sets o at (bits i v) ≡ sets (set o (at + (i - 1)) (v % 2)) at (bits (i - 1) (v / 2))
unfolding bits
bits_next o at zero v h = absurd (omega arith)
bits_next o at (suc i) v h =
    let less : suc i - 1 ≡ i = omega arith in
    rw less (sets_last o (bits i (v / 2)) at (v % 2) ∙ rw (length_bits i (v / 2)))

-- none are left
pub bits_none : (o : List ℕ) (at i v : ℕ) → i ≡ 0 → sets o at (bits i v) ≡ o
unfolding bits
bits_none o at i v e = rw e
