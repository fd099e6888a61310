-- The permutation of a list undone exchange by exchange, from its start up.
-- Assumes nothing.
use Prim.Native.Nat.{ℕ, suc, ◌+◌, ◌-◌, ◌^◌, ◌≤◌, ◌<◌}
use mathlib.Core.Path.{◌≡◌, refl, sym, ap, ◌∙◌}
use mathlib.Core.List.{List}
use native.Mathlib.Nat.{sub-zero}
use native.Mathlib.Numerals.{add-one}
use native.Mathlib.Omega.{arith}
use lib.ListN.{length}
use Rattle.symbology.specs.Generator.{next_state, state_after}
use Rattle.symbology.specs.Shuffle.{drawn_place, exchanged, unshuffled_first, unshuffled}
use Rattle.laws.proofs.Shuffle.{length_exchanged}
use Rattle.draws.specs.Backwards.{previous_state}
use Rattle.draws.proofs.States.{after_none, after_next, previous_after}

-- The permutation of xs from `state` is being undone, and xs has become ys. The exchanges of the last `done` draws, those with the
-- fewest places left, are undone, and s is the state before these draws.
pub record Restoring (xs : List ℕ) (state done s : ℕ) (ys : List ℕ) : Type 0 where
  pub long : length ys ≡ length xs
  pub inside : done ≤ length xs
  pub before : s ≡ state_after (length xs - done) state
  pub undone : ys ≡ unshuffled_first 0 done s xs

pub restoring_start : (xs : List ℕ) (state : ℕ) → Restoring xs state 0 (state_after (length xs) state) xs
unfolding unshuffled_first
restoring_start xs state = record { long = refl; inside = omega arith; before = rw (sub-zero (length xs)); undone = refl }

-- the exchange with n + 1 places left, undone after those with fewer
unfirst_turn : (n p s : ℕ) (xs : List ℕ) → s ≡ next_state p
    → exchanged 0 (drawn_place s (n + 1)) n (unshuffled_first 0 n s xs) ≡ unshuffled_first 0 (n + 1) p xs
unfolding unshuffled_first
unfirst_turn n p s xs e = rw (e, add-one n)

module _ {xs : List ℕ} {state done s : ℕ} {ys : List ℕ} (r : Restoring xs state done s ys) where
  pub restoring_next : {t place : ℕ} {zs : List ℕ} → state < 2 ^ 64 → done < length xs
      → place ≡ drawn_place s (done + 1) → zs ≡ exchanged 0 place done ys → t ≡ previous_state s → Restoring xs state (done + 1) t zs
  restoring_next fits h f g d =
      let k : ℕ = length xs - (done + 1) in
      let one_more : length xs - done ≡ suc k = omega arith in
      let at : s ≡ state_after (suc k) state = r.before ∙ rw one_more in
      let e : previous_state s ≡ state_after k state = ap previous_state at ∙ previous_after k state fits in
      rw (g, f, d)
      record {
        long = length_exchanged 0 (drawn_place s (done + 1)) done ys ∙ r.long;
        inside = omega arith;
        before = e;
        undone =
            rw r.undone
            (unfirst_turn done (previous_state s) s xs (at ∙ after_next k state ∙ ap next_state (sym e)));
      }

  pub restoring_done : done ≡ length xs → ys ≡ unshuffled 0 state xs
  unfolding unshuffled
  restoring_done e =
      let none : length xs - done ≡ 0 = omega arith in
      let at : s ≡ state = r.before ∙ rw none (after_none state) in
      r.undone ∙ rw (e, at)
