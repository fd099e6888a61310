-- The last rule of a place, by its two cases: the whole part of the scaled draw is n, or it is not.
-- Assumes nothing.
use Rattle.std.proofs.Common.{◌≡◌, ℕ, ◌-◌, Bool, cond, ap, eq-eqb, ne_eqb}
use Rattle.symbology.specs.Place.{raw_place, place_of}

pub place_top : (d n : ℕ) → raw_place d n ≡ n → place_of d n ≡ n - 1
unfolding place_of
place_top d n e = ap (λ (b : Bool). cond b (n - 1) (raw_place d n)) (eq-eqb (raw_place d n) n e)

pub place_other : (d n : ℕ) → (raw_place d n ≡ n → ⊥) → place_of d n ≡ raw_place d n
unfolding place_of
place_other d n e = ap (λ (b : Bool). cond b (n - 1) (raw_place d n)) (ne_eqb (raw_place d n) n e)
