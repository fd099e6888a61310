-- Rounding to single precision by shifts of 64-bit numbers: the leading zeros say how far the digits are moved up, the move loses
-- none, and a number that is moved is rounded as it was. Assumes nothing.
use Rattle.std.proofs.Common.{◌≡◌, ℕ, zero, suc, ◌+◌, ◌-◌, ◌*◌, ◌/◌, ◌%◌, ◌^◌, ◌<◌, ◌≤◌, sym, ap, ◌∙◌, pow-suc, zero-mul, arith, shl_lt}
use native.Mathlib.Decide.{dec_lt}
use lib.Pow.{shl-shr}
use lib.Count.{count_leading_zeros, leading_unique}
use lib.Ieee.{size}
use lib.Ieee.Digits.{size-lt, size-le, size_reaches}
use Rattle.symbology.specs.Place.{nearest_single}
use Rattle.laws.proofs.Rounding.{single_exact, single_shifted, size_gt, size_shifted, single_carried}

-- the least number of so many digits
size_least : (x : ℕ) → 2 ^ size x ≤ 2 * x + 1
size_least x = by (size x) (size_reaches x)
  where
    by : (n : ℕ) → ((j : ℕ) → j < n → 2 ^ j ≤ x) → 2 ^ n ≤ 2 * x + 1
    by zero h = omega arith
    by (suc n) h = omega (arith, pow-suc 2 n, h n (omega arith))

module _ (x : ℕ) (below : x < 2 ^ 63) where
  -- it has at most 63 digits
  few : size x ≤ 63
  few = size-le x 63 below

  -- The leading zeros of x with one more digit behind it say how far x is moved for its first digit to stand at 2 ^ 62.
  pub zeros_are : count_leading_zeros 64 (2 * x + 1) ≡ 63 - size x
  zeros_are =
      let twice : 2 ^ suc (size x) ≡ 2 ^ size x * 2 = pow-suc 2 (size x) in
      sym
      (leading_unique 64 (2 * x + 1) (63 - size x) (suc (size x)) (omega (arith, few)) (omega (arith, size-lt x))
      (omega (arith, size_least x)))

  module _ (up : ℕ) (is : up ≡ 63 - size x) where
    -- The moved number is below 2 ^ 63.
    pub moved_below : x * 2 ^ up < 2 ^ 63
    moved_below =
        let all : size x + up ≡ 63 = omega (arith, few) in
        rw all at (shl_lt (size x) up (size-lt x))

    -- The move loses no digit.
    pub moved_whole : x * 2 ^ up % 2 ^ 64 ≡ x * 2 ^ up
    moved_whole = omega (arith, moved_below)

    -- it has 63 digits where it is not 0
    moved_digits : 0 < x → size (x * 2 ^ up) ≡ 25 + 38
    moved_digits some = size_shifted x up (size_gt x 0 some) ∙ omega (arith, few)

    -- the carry, half a unit of 2 ^ 39 or 1 less, rounds it
    moved_rounded : (x * 2 ^ up + (274877906943 + x * 2 ^ up / 2 ^ 39 % 2)) / 2 ^ 39 * 2 ^ 39 ≡ nearest_single (x * 2 ^ up)
    moved_rounded =
        elim (dec_lt 0 x) [
          | yes some ↦ sym (single_carried (x * 2 ^ up) 38 (moved_digits some))
          | no none ↦
              let nothing : x ≡ 0 = omega arith in
              let still : x * 2 ^ up ≡ 0 = ap (λ (v : ℕ). v * 2 ^ up) nothing ∙ zero-mul (2 ^ up) in
              rw still (sym (single_exact 0 0 (omega arith)))
        ]

    -- Moved up, rounded and moved back, a number is the rounded number.
    pub rounded_moved : (x * 2 ^ up + (274877906943 + x * 2 ^ up / 2 ^ 39 % 2)) / 2 ^ 39 * 2 ^ 39 % 2 ^ 64 / 2 ^ up ≡ nearest_single x
    rounded_moved =
        let m : ℕ = (x * 2 ^ up + (274877906943 + x * 2 ^ up / 2 ^ 39 % 2)) / 2 ^ 39 * 2 ^ 39 in
        let fits : m % 2 ^ 64 ≡ m = omega (arith, moved_below) in
        ap (λ (v : ℕ). v / 2 ^ up) (fits ∙ moved_rounded ∙ single_shifted x up) ∙ shl-shr (nearest_single x) up
