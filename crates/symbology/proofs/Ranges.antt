-- What a test of two parts says, and a test that is computed at every number below a bound.
-- Assumes nothing.
use Prim.Native.Nat.{ℕ, zero, suc, ◌<◌}
use mathlib.Core.Path.{◌≡◌, refl, sym, ap, ◌∙◌, subst⁻¹}
use mathlib.Core.Bool.{Bool, true, false, ◌&&◌}
use mathlib.Core.Logic.{◌⊎◌, inl, inr}
use native.Mathlib.Nat.{eq-or-lt_of_le, le_of_suc-le-suc}
use native.Mathlib.Omega.{arith}
use Rattle.symbology.specs.Ranges.{tally, all_below}

pub clash {ℓ} : {X : Type ℓ} {b : Bool} → b ≡ true → b ≡ false → X
clash {b = b} p q = absurd (let y : ◌≡◌ {A = ℕ} 0 1 = sym (ap tally q) ∙ ap tally p in omega arith)

pub and_left : (a b : Bool) → (a && b) ≡ true → a ≡ true
and_left true b e = refl
and_left false b e = e

pub and_right : (a b : Bool) → (a && b) ≡ true → b ≡ true
and_right true b e = e
and_right false b e = clash e refl

pub below_true : (f : ℕ → Bool) (n : ℕ) → all_below n f ≡ true → (i : ℕ) → i < n → f i ≡ true
unfolding all_below
below_true f zero e i h = absurd (omega arith)
below_true f (suc n) e i h = go (below_true f n (and_left (all_below n f) (f n) e) i) (eq-or-lt_of_le (le_of_suc-le-suc h))
  where
    go : (i < n → f i ≡ true) → (i ≡ n) ⊎ (i < n) → f i ≡ true
    go earlier (inl same) = subst⁻¹ (λ (k : ℕ). f k ≡ true) same (and_right (all_below n f) (f n) e)
    go earlier (inr less) = earlier less
