-- Laws of rounding a whole number to the 24 binary digits of single precision.
-- Assumes nothing.
use Prim.Native.Nat.{ℕ, suc, ◌+◌, ◌-◌, ◌*◌, ◌/◌, ◌%◌, ◌^◌, ◌≤◌, ◌<◌, compare, Ordering}
use mathlib.Core.Path.{◌≡◌, refl, sym, ap, ◌∙◌, subst}
use mathlib.Core.Bool.{not}
use native.Mathlib.Nat.{le_trans, le_of_eq, le_refl, lt_of_lt_of_le, lt_of_le_of_lt, lt_of_not-le, not-le_of_lt, mul-one, one-mul}
use native.Mathlib.Nat.{mul_assoc, mul_comm, mul-le-mul_right, mul-pos, mul-div_cancel, mul-mod_left, div-add-mod', mod-lt, pow-suc}
use native.Mathlib.Omega.{arith}
use native.Mathlib.Decide.{dec_le, dec_lt}
use lib.Arith.{lt_of_le-ne}
use lib.Dec.{T, is_le, compare_is_eq, eqb, leb→le, nleb→lt, eqb→eq, eqb_refl}
use lib.Pow.{pow-add, pow_pos, pow_mono, shl_lt, high}
use lib.Ieee.{size, nearest, binary32}
use lib.Ieee.Digits.{size-lt, size-le, size_reaches, back}
use lib.Ieee.Fits.{kept-lt, nearest-le}
use lib.Ieee.Nearest.{closest, closest_mono, closest_same}
use lib.Ieee.Scale.{grid}
use Rattle.symbology.specs.Place.{nearest_single}

-- ---- whole quotients

-- what holds of the nearest whole number by each of its three cases
closest_cases : (P : ℕ → Type 0) (x u : ℕ)
    → (x % u * 2 < u → P (x / u))
    → (x % u * 2 ≡ u → P (x / u + x / u % 2))
    → (u < x % u * 2 → P (suc (x / u)))
    → P (closest x u)
closest_cases P x u less half more =
    go (compare r u) (leb→le r u) (nleb→lt r u) (eqb→eq r u) (λ (e : r ≡ u). subst (λ (v : ℕ). T (eqb r v)) e (eqb_refl r))
  where
    r : ℕ
    r = x % u * 2

    go : (o : Ordering) → (T (is_le o) → r ≤ u) → (T (not (is_le o)) → u < r) → (T (compare_is_eq o) → r ≡ u)
        → (r ≡ u → T (compare_is_eq o))
        → P (nearest (x / u) o)
    go Ordering.lt h k e n = less (lt_of_le-ne (h tt) n)
    go Ordering.eq h k e n = half (e tt)
    go Ordering.gt h k e n = more (k tt)

closest_whole : (r u : ℕ) → 0 < u → closest (r * u) u ≡ r
closest_whole r u h =
    let rest : r * u % u ≡ 0 = mul-mod_left r u in
    closest_cases (λ (v : ℕ). v ≡ r) (r * u) u (λ l. mul-div_cancel r h) (λ e. absurd (omega arith)) (λ m. absurd (omega arith))

-- q * 2 ^ j in units of 2 ^ k
in_units : (q j k : ℕ) → k ≤ j → q * 2 ^ (j - k) * 2 ^ k ≡ q * 2 ^ j
in_units q j k h =
    mul_assoc q (2 ^ (j - k)) (2 ^ k)
    ∙ ap (λ (x : ℕ). q * x) (sym (pow-add 2 (j - k) k) ∙ ap (λ (x : ℕ). 2 ^ x) (back j k h))

-- ---- the unit

-- a number up to q * 2 ^ j, with q of 24 digits, has a unit of 2 ^ j at most
unit_le : (a q j : ℕ) → q < 2 ^ 24 → a ≤ q * 2 ^ j → size a - 24 ≤ j
unit_le a q j small h = let few : size a ≤ 24 + j = size-le a (24 + j) (lt_of_le_of_lt h (shl_lt 24 j small)) in omega arith

-- A number up to q * 2 ^ j, with q of 24 digits, is not rounded past that.
pub single_le : (a q j : ℕ) → q < 2 ^ 24 → a ≤ q * 2 ^ j → nearest_single a ≤ q * 2 ^ j
unfolding nearest_single
single_le a q j small h =
    let k : ℕ = size a - 24 in
    let r : ℕ = q * 2 ^ (j - k) in
    let e : r * 2 ^ k ≡ q * 2 ^ j = in_units q j k (unit_le a q j small h) in
    let m : closest a (2 ^ k) ≤ r =
    le_trans (closest_mono a (2 ^ k) (r * 2 ^ k) (2 ^ k) (pow_pos k) (pow_pos k) (mul-le-mul_right (2 ^ k) (le_trans h (le_of_eq (sym e)))))
    (le_of_eq (closest_whole r (2 ^ k) (pow_pos k))) in
    le_trans (mul-le-mul_right (2 ^ k) m) (le_of_eq e)

-- A number of 24 digits, with zeros behind them, is not changed.
pub single_exact : (q j : ℕ) → q < 2 ^ 24 → nearest_single (q * 2 ^ j) ≡ q * 2 ^ j
unfolding nearest_single
single_exact q j small =
    let k : ℕ = size (q * 2 ^ j) - 24 in
    let r : ℕ = q * 2 ^ (j - k) in
    let e : r * 2 ^ k ≡ q * 2 ^ j = in_units q j k (unit_le (q * 2 ^ j) q j small (le_refl (q * 2 ^ j))) in
    ap (λ (x : ℕ). closest x (2 ^ k) * 2 ^ k) (sym e) ∙ ap (λ (x : ℕ). x * 2 ^ k) (closest_whole r (2 ^ k) (pow_pos k)) ∙ e

exact_up_to : (q j : ℕ) → q ≤ 2 ^ 24 → nearest_single (q * 2 ^ j) ≡ q * 2 ^ j
exact_up_to q j h =
    elim (dec_lt q (2 ^ 24)) [
      | yes l ↦ single_exact q j l
      | no l ↦
          let full : q ≡ 2 ^ 24 = omega arith in
          let e : q * 2 ^ j ≡ 1 * 2 ^ (24 + j) = ap (λ (x : ℕ). x * 2 ^ j) full ∙ sym (pow-add 2 24 j) ∙ sym (one-mul (2 ^ (24 + j))) in
          ap nearest_single e ∙ single_exact 1 (24 + j) (omega arith) ∙ sym e
    ]

-- A rounded number is rounded to itself.
pub single_twice : (a : ℕ) → nearest_single (nearest_single a) ≡ nearest_single a
single_twice a = rw (is a) (exact_up_to (closest a (2 ^ (size a - 24))) (size a - 24) (kept a))
  where
    is : (a : ℕ) → nearest_single a ≡ closest a (2 ^ (size a - 24)) * 2 ^ (size a - 24)
    is a = unfold nearest_single in refl

    kept : (a : ℕ) → closest a (2 ^ (size a - 24)) ≤ 2 ^ 24
    kept a = let u : ℕ = 2 ^ (size a - 24) in le_trans (nearest-le (a / u) (compare (a % u * 2) u)) (kept-lt 24 a)

-- ---- zeros behind

-- A number from 2 ^ j on has more than j digits.
pub size_gt : (n j : ℕ) → 2 ^ j ≤ n → j < size n
size_gt n j h = lt_of_not-le (λ (g : size n ≤ j). not-le_of_lt (lt_of_lt_of_le (size-lt n) (pow_mono g)) h)

-- Zeros behind a number are digits more.
pub size_shifted : (a t : ℕ) → 0 < size a → size (a * 2 ^ t) ≡ size a + t
size_shifted a t h =
    let z : ℕ = size a in
    let up : size (a * 2 ^ t) ≤ z + t = size-le (a * 2 ^ t) (z + t) (shl_lt z t (size-lt a)) in
    let low : z - 1 + t < size (a * 2 ^ t) =
    size_gt (a * 2 ^ t) (z - 1 + t)
    (le_trans (le_of_eq (pow-add 2 (z - 1) t)) (mul-le-mul_right (2 ^ t) (size_reaches a (z - 1) (omega arith)))) in
    omega arith

long_shifted : (a t : ℕ) → 24 ≤ size a → nearest_single (a * 2 ^ t) ≡ nearest_single a * 2 ^ t
unfolding nearest_single
long_shifted a t h =
    let k : ℕ = size a - 24 in
    let more : size (a * 2 ^ t) - 24 ≡ k + t = omega (arith, size_shifted a t (omega arith)) in
    let split : 2 ^ (k + t) ≡ 2 ^ k * 2 ^ t = pow-add 2 k t in
    let same : a * 2 ^ t * 2 ^ k ≡ a * 2 ^ (k + t) =
    mul_assoc a (2 ^ t) (2 ^ k) ∙ ap (λ (x : ℕ). a * x) (mul_comm (2 ^ t) (2 ^ k) ∙ sym split) in
    ap (λ (x : ℕ). closest (a * 2 ^ t) (2 ^ x) * 2 ^ x) more
    ∙ ap (λ (x : ℕ). x * 2 ^ (k + t)) (closest_same (a * 2 ^ t) (2 ^ (k + t)) a (2 ^ k) (pow_pos (k + t)) (pow_pos k) same)
    ∙ ap (λ (x : ℕ). closest a (2 ^ k) * x) split
    ∙ sym (mul_assoc (closest a (2 ^ k)) (2 ^ k) (2 ^ t))

-- Zeros behind a number stay behind the rounded number.
pub single_shifted : (a t : ℕ) → nearest_single (a * 2 ^ t) ≡ nearest_single a * 2 ^ t
single_shifted a t =
    elim (dec_le 24 (size a)) [
      | yes h ↦ long_shifted a t h
      | no h ↦
          let few : size a ≤ 24 = omega arith in
          let small : a < 2 ^ 24 = lt_of_lt_of_le (size-lt a) (pow_mono few) in
          single_exact a t small
          ∙ ap (λ (x : ℕ). x * 2 ^ t) (sym (ap nearest_single (sym (mul-one a)) ∙ single_exact a 0 small ∙ mul-one a))
    ]

-- ---- rounding of a fraction

-- A fraction that is a whole number of the smallest single-precision values is rounded as that number is.
pub grid_whole : (num den n : ℕ) → 0 < den → num * 2 ^ 149 ≡ n * den → grid binary32 num den ≡ nearest_single n
unfolding nearest_single
grid_whole num den n pos e =
    let k : ℕ = size n - 24 in
    let same = closest_same (n * den) (den * 2 ^ k) n (2 ^ k) (mul-pos pos (pow_pos k)) (pow_pos k) (mul_assoc n den (2 ^ k)) in
    ap (λ (x : ℕ). closest x (den * 2 ^ (size (x / den) - 24)) * 2 ^ (size (x / den) - 24)) e
    ∙ ap (λ (x : ℕ). closest (n * den) (den * 2 ^ (size x - 24)) * 2 ^ (size x - 24)) (mul-div_cancel n pos)
    ∙ ap (λ (x : ℕ). x * 2 ^ k) same

-- ---- rounding by a carry

-- k digits cut off
cut_off : (x k q s : ℕ) → x ≡ q * 2 ^ k + s → s < 2 ^ k → x / 2 ^ k ≡ q
cut_off x k q s e h = ap (λ (z : ℕ). z / 2 ^ k) e ∙ high q k h

-- the nearest whole quotient by 2 ^ suc k: half of that power is added, less 1 where the quotient is even, and k + 1 digits are cut off
carried : (x k : ℕ) → closest x (2 ^ suc k) ≡ (x + (2 ^ k - 1 + x / 2 ^ suc k % 2)) / 2 ^ suc k
carried x k =
    let u : ℕ = 2 ^ suc k in
    let q : ℕ = x / u in
    let r : ℕ = x % u in
    let c : ℕ = 2 ^ k - 1 + q % 2 in
    let even : u ≡ 2 ^ k * 2 = pow-suc 2 k in
    let some : 0 < 2 ^ k = pow_pos k in
    let whole : q * u + r ≡ x = div-add-mod' x u in
    let rest : r < u = mod-lt x (pow_pos (suc k)) in
    let down : r + c < u → (x + c) / u ≡ q = λ h. cut_off (x + c) (suc k) q (r + c) (omega arith) h in
    let up : u ≤ r + c → (x + c) / u ≡ suc q = λ h. cut_off (x + c) (suc k) (suc q) (r + c - u) (omega arith) (omega arith) in
    closest_cases (λ (v : ℕ). v ≡ (x + c) / u) x u (λ h. sym (down (omega arith)))
    (λ h.
    elim (dec_lt (q % 2) 1) [
      | yes z ↦ let e : q + q % 2 ≡ q = omega arith in e ∙ sym (down (omega arith))
      | no z ↦ let e : q + q % 2 ≡ suc q = omega arith in e ∙ sym (up (omega arith))
    ])
    (λ h. sym (up (omega arith)))

-- A number of 25 + k digits is rounded by a carry into the first 24: half a unit of the last of them, less 1 where that is even.
pub single_carried : (x k : ℕ) → size x ≡ 25 + k → nearest_single x ≡ (x + (2 ^ k - 1 + x / 2 ^ suc k % 2)) / 2 ^ suc k * 2 ^ suc k
unfolding nearest_single
single_carried x k digits =
    let e : size x - 24 ≡ suc k = omega arith in
    ap (λ (j : ℕ). closest x (2 ^ j) * 2 ^ j) e ∙ ap (λ (v : ℕ). v * 2 ^ suc k) (carried x k)
