-- Laws of the place of a draw: its single-precision form is its whole-number form, and with n places left it is below n.
-- Assumes nothing.
use Prim.Native.Nat.{ℕ, suc, ◌-◌, ◌*◌, ◌/◌, ◌^◌, ◌≤◌, ◌<◌}
use mathlib.Core.Path.{◌≡◌, refl, sym, ap, ◌∙◌, subst}
use mathlib.Core.Bool.{Bool, true, false, cond, true≢false}
use native.Mathlib.Nat.{le_trans, le_of_eq, lt_of_le_of_lt, mul-one, mul_assoc, mul_comm, mul-mul-mul_comm, mul-le-mul_right, mul-pos}
use native.Mathlib.Omega.{arith}
use lib.Dec.{eqb, lit≤}
use lib.IntN.{pos}
use lib.Pow.{pow_pos}
use lib.Ieee.{Float, nan, inf, fin, binary32, up, down, round, mul, div, of_int, to_unsigned}
use lib.Ieee.Fits.{down_pos}
use lib.Ieee.Exact.{HasValue}
use lib.Ieee.Nearest.{div_same}
use lib.Ieee.Scale.{grid, round_same, round_val}
use borrow.Author.Tests.{eqb-false}
use Rattle.symbology.specs.Place.{scaled, raw_place, capped, place_of, nearest_single, whole_place}
use Rattle.laws.proofs.Rounding.{single_le, single_exact, single_twice, single_shifted, grid_whole}

-- ---- operations on values that are fractions a / c

-- the quotient by 2 ^ 32
div_at : (x : Float) (a c : ℕ) → 0 < c → HasValue x false a c → div binary32 x (fin false 1 (pos 32)) ≡ round binary32 false a (c * 2 ^ 32)
unfolding div
div_at nan a c C v = absurd v
div_at (inf s) a c C v = absurd v
div_at (fin true m e) a c C v = absurd (true≢false v.0)
div_at (fin false m e) a c C v =
    round_same binary32 false (m * up e * 1) (1 * 2 ^ 32 * down e) a (c * 2 ^ 32)
    (mul-pos (omega arith) (down_pos e)) (mul-pos C (pow_pos 32))
    (ap (λ (z : ℕ). z * (c * 2 ^ 32)) (mul-one (m * up e))
    ∙ sym (mul_assoc (m * up e) c (2 ^ 32))
    ∙ ap (λ (z : ℕ). z * 2 ^ 32) v.1
    ∙ mul_assoc a (down e) (2 ^ 32)
    ∙ ap (λ (z : ℕ). a * z) (mul_comm (down e) (2 ^ 32)))

-- the product
mul_at : (x y : Float) (a c b d : ℕ) → 0 < c → 0 < d → HasValue x false a c → HasValue y false b d
    → mul binary32 x y ≡ round binary32 false (a * b) (c * d)
unfolding mul
mul_at nan y a c b d C D v w = absurd v
mul_at (inf s) y a c b d C D v w = absurd v
mul_at (fin true m e) y a c b d C D v w = absurd (true≢false v.0)
mul_at (fin false m e) nan a c b d C D v w = absurd w
mul_at (fin false m e) (inf t) a c b d C D v w = absurd w
mul_at (fin false m e) (fin true n k) a c b d C D v w = absurd (true≢false w.0)
mul_at (fin false m e) (fin false n k) a c b d C D v w =
    round_same binary32 false (m * up e * (n * up k)) (down e * down k) (a * b) (c * d) (mul-pos (down_pos e) (down_pos k)) (mul-pos C D)
    (mul-mul-mul_comm (m * up e) (n * up k) c d
    ∙ ap (λ (z : ℕ). z * (n * up k * d)) v.1
    ∙ ap (λ (z : ℕ). a * down e * z) w.1
    ∙ mul-mul-mul_comm a (down e) b (down k))

-- the whole part
cut_at : (x : Float) (a c : ℕ) → 0 < c → HasValue x false a c → a / c < 2 ^ 64 → to_unsigned 64 x ≡ a / c
unfolding to_unsigned
cut_at nan a c C v h = absurd v
cut_at (inf s) a c C v h = absurd v
cut_at (fin true m e) a c C v h = absurd (true≢false v.0)
cut_at (fin false m e) a c C v h =
    let same : m * up e / down e ≡ a / c = div_same (m * up e) (down e) a c (down_pos e) C v.1 in
    omega arith

-- ---- the scaled draw

-- a fraction that is n of the smallest single-precision values, below 2 ^ 277, is rounded to as many of them as n is rounded to
round_whole : (num den n : ℕ) → 0 < den → num * 2 ^ 149 ≡ n * den → nearest_single n < 2 ^ 277
    → HasValue (round binary32 false num den) false (nearest_single n) (2 ^ 149)
round_whole num den n D e h =
    let g : grid binary32 num den ≡ nearest_single n = grid_whole num den n D e in
    subst (λ (x : ℕ). HasValue (round binary32 false num den) false x (2 ^ 149)) g
    (round_val binary32 num den (subst (λ (x : ℕ). x < 2 ^ 277) (sym g) h))

single_draw : (d : ℕ) → d < 2 ^ 32 → nearest_single d ≤ 2 ^ 32
single_draw d h = single_le d 1 32 (omega arith) (omega arith)

single_few : (n : ℕ) → n ≤ 4096 → nearest_single n ≡ n
single_few n h = ap nearest_single (sym (mul-one n)) ∙ single_exact n 0 (omega arith) ∙ mul-one n

-- a number, up to 2 ^ 32 once rounded
of_integer : (n : ℕ) → nearest_single n ≤ 2 ^ 32 → HasValue (of_int binary32 (pos n)) false (nearest_single n * 2 ^ 149) (2 ^ 149)
unfolding of_int
of_integer n h =
    let e : nearest_single (n * 2 ^ 149) ≡ nearest_single n * 2 ^ 149 = single_shifted n 149 in
    let b : nearest_single (n * 2 ^ 149) < 2 ^ 277 = lt_of_le_of_lt (le_trans (le_of_eq e) (mul-le-mul_right (2 ^ 149) h)) (lit≤ tt) in
    subst (λ (x : ℕ). HasValue (round binary32 false n 1) false x (2 ^ 149)) e
    (round_whole n 1 (n * 2 ^ 149) (omega arith) (sym (mul-one (n * 2 ^ 149))) b)

-- its quotient by 2 ^ 32, which does not round
share : (x : Float) (r : ℕ) → HasValue x false (r * 2 ^ 149) (2 ^ 149) → nearest_single r ≡ r → r ≤ 2 ^ 32
    → HasValue (div binary32 x (fin false 1 (pos 32))) false (r * 2 ^ 117) (2 ^ 149)
share x r v exact h =
    let e : nearest_single (r * 2 ^ 117) ≡ r * 2 ^ 117 = single_shifted r 117 ∙ ap (λ (z : ℕ). z * 2 ^ 117) exact in
    let b : nearest_single (r * 2 ^ 117) < 2 ^ 277 = lt_of_le_of_lt (le_trans (le_of_eq e) (mul-le-mul_right (2 ^ 117) h)) (lit≤ tt) in
    let same : r * 2 ^ 149 * 2 ^ 149 ≡ r * 2 ^ 117 * (2 ^ 149 * 2 ^ 32) =
    mul_assoc r (2 ^ 149) (2 ^ 149) ∙ sym (mul_assoc r (2 ^ 117) (2 ^ 149 * 2 ^ 32)) in
    subst (λ (f : Float). HasValue f false (r * 2 ^ 117) (2 ^ 149)) (sym (div_at x (r * 2 ^ 149) (2 ^ 149) (pow_pos 149) v))
    (subst (λ (z : ℕ). HasValue (round binary32 false (r * 2 ^ 149) (2 ^ 149 * 2 ^ 32)) false z (2 ^ 149)) e
    (round_whole (r * 2 ^ 149) (2 ^ 149 * 2 ^ 32) (r * 2 ^ 117) (pow_pos 181) same b))

-- the product with n
times : (x y : Float) (r n : ℕ) → HasValue x false (r * 2 ^ 117) (2 ^ 149) → HasValue y false (n * 2 ^ 149) (2 ^ 149)
    → nearest_single (r * n) ≤ 2 ^ 45 → HasValue (mul binary32 x y) false (nearest_single (r * n) * 2 ^ 117) (2 ^ 149)
times x y r n v w h =
    let e : nearest_single (r * n * 2 ^ 117) ≡ nearest_single (r * n) * 2 ^ 117 = single_shifted (r * n) 117 in
    let b : nearest_single (r * n * 2 ^ 117) < 2 ^ 277 = lt_of_le_of_lt (le_trans (le_of_eq e) (mul-le-mul_right (2 ^ 117) h)) (lit≤ tt) in
    let product : r * 2 ^ 117 * (n * 2 ^ 149) ≡ r * n * (2 ^ 117 * 2 ^ 149) = mul-mul-mul_comm r (2 ^ 117) n (2 ^ 149) in
    let same : r * 2 ^ 117 * (n * 2 ^ 149) * 2 ^ 149 ≡ r * n * 2 ^ 117 * (2 ^ 149 * 2 ^ 149) =
    ap (λ (z : ℕ). z * 2 ^ 149) product
    ∙ mul_assoc (r * n) (2 ^ 117 * 2 ^ 149) (2 ^ 149)
    ∙ sym (mul_assoc (r * n) (2 ^ 117) (2 ^ 149 * 2 ^ 149)) in
    subst (λ (f : Float). HasValue f false (nearest_single (r * n) * 2 ^ 117) (2 ^ 149))
    (sym (mul_at x y (r * 2 ^ 117) (2 ^ 149) (n * 2 ^ 149) (2 ^ 149) (pow_pos 149) (pow_pos 149) v w))
    (subst (λ (z : ℕ). HasValue (round binary32 false (r * 2 ^ 117 * (n * 2 ^ 149)) (2 ^ 149 * 2 ^ 149)) false z (2 ^ 149)) e
    (round_whole (r * 2 ^ 117 * (n * 2 ^ 149)) (2 ^ 149 * 2 ^ 149) (r * n * 2 ^ 117) (pow_pos 298) same b))

module _ (d n : ℕ) (small : d < 2 ^ 32) (few : n ≤ 4096) where
  -- The product of the rounded draw and n is at most n * 2 ^ 32.
  pub product_most : nearest_single d * n ≤ n * 2 ^ 32
  product_most = le_trans (mul-le-mul_right n (single_draw d small)) (le_of_eq (mul_comm (2 ^ 32) n))

  -- so is the rounded product
  product_le : nearest_single (nearest_single d * n) ≤ n * 2 ^ 32
  product_le = single_le (nearest_single d * n) n 32 (omega arith) product_most

  -- the scaled draw is the rounded product of the rounded draw and n, over 2 ^ 32
  scaled_value : HasValue (scaled d n) false (nearest_single (nearest_single d * n) * 2 ^ 117) (2 ^ 149)
  unfolding scaled
  scaled_value =
      let r : ℕ = nearest_single d in
      let y : HasValue (of_int binary32 (pos n)) false (n * 2 ^ 149) (2 ^ 149) =
      subst (λ (z : ℕ). HasValue (of_int binary32 (pos n)) false (z * 2 ^ 149) (2 ^ 149)) (single_few n few)
      (of_integer n (omega (arith, single_few n few))) in
      times (div binary32 (of_int binary32 (pos d)) (fin false 1 (pos 32))) (of_int binary32 (pos n)) r n
      (share (of_int binary32 (pos d)) r (of_integer d (single_draw d small)) (single_twice d) (single_draw d small)) y
      (omega (arith, product_le))

  whole_part : nearest_single (nearest_single d * n) * 2 ^ 117 / 2 ^ 149 ≡ nearest_single (nearest_single d * n) / 2 ^ 32
  whole_part =
      let r : ℕ = nearest_single (nearest_single d * n) in
      div_same (r * 2 ^ 117) (2 ^ 149) r (2 ^ 32) (pow_pos 149) (pow_pos 32) (mul_assoc r (2 ^ 117) (2 ^ 32))

  -- The whole part of the scaled draw is got with two roundings of whole numbers: the division by 2 ^ 32 does not round.
  pub raw_whole : raw_place d n ≡ nearest_single (nearest_single d * n) / 2 ^ 32
  unfolding raw_place
  raw_whole =
      cut_at (scaled d n) (nearest_single (nearest_single d * n) * 2 ^ 117) (2 ^ 149) (pow_pos 149) scaled_value
      (le_trans (le_of_eq (ap suc whole_part)) (omega (arith, product_le)))
      ∙ whole_part

  -- The whole part of the scaled draw is at most n.
  pub raw_le : raw_place d n ≤ n
  raw_le = omega (arith, raw_whole, product_le)

  -- For every draw and up to 4,096 places the place in single precision is the place in whole numbers.
  pub place_whole : place_of d n ≡ whole_place d n
  unfolding place_of whole_place
  place_whole = ap (λ (r : ℕ). capped r n) raw_whole

-- With n places left, from 1 to 4,096, the place of a draw is below n.
pub place_lt : (d n : ℕ) → d < 2 ^ 32 → 0 < n → n ≤ 4096 → place_of d n < n
unfolding place_of
place_lt d n small some few = go (eqb (raw_place d n) n) refl
  where
    go : (b : Bool) → eqb (raw_place d n) n ≡ b → cond b (n - 1) (raw_place d n) < n
    go true e = omega arith
    go false e = let other : raw_place d n ≡ n → ⊥ = eqb-false (raw_place d n) n e in omega (arith, raw_le d n small few)
