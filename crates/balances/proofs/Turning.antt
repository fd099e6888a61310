-- The marks turned one after the other, from check to check that a bit stands in.
-- Assumes nothing.
use Prim.Native.Nat.{ℕ, ◌+◌, ◌-◌, ◌≤◌, ◌<◌}
use mathlib.Core.Path.{◌≡◌, sym, ap, ◌∙◌}
use mathlib.Core.Bool.{false, cond}
use mathlib.Core.List.{List, [], ◌∷◌}
use native.Mathlib.Decide.{ℕ_discrete, dec_lt}
use native.Mathlib.Omega.{arith}
use lib.ListN.{length}
use Rattle.lent.specs.declared.Areas.{Areas}
use Rattle.lent.specs.Changes.{Changed}
use Rattle.lent.specs.Work.{marks_span, numbers_span, Laid}
use Rattle.lent.proofs.Changes.{changed_wider, changed_then, outside_in}
use Rattle.checks.specs.Checks.{stands_in, InNoCheck, NextCheck}
use Rattle.checks.proofs.Checks.{stands_kept}
use Rattle.syndrome.specs.Syndrome.{mark_of, MarkBits}
use Rattle.balances.specs.Balances.{Balanced, CheckTurned, MarksTurned}

-- ---- marks turned

-- a mark, turned where bit j stands in the check
abbrev turned_mark : Areas → ℕ → List ℕ → ℕ → ℕ
turned_mark a j work i = cond (stands_in a work i j) (1 - mark_of a work i) (mark_of a work i)

-- The marks of the checks before `from` are turned where bit j stands in them.
pub record TurnedTo (a : Areas) (j from : ℕ) (before after : List ℕ) : Type 0 where
  pub most : from ≤ a.checks
  pub changed : Changed (marks_span a ∷ numbers_span a ∷ []) before after
  pub done : (p : ℕ) → p < from → mark_of a after p ≡ turned_mark a j before p
  pub rest : (p : ℕ) → from ≤ p → p < a.checks → mark_of a after p ≡ mark_of a before p
  pub bits : MarkBits a after
  pub balanced : Balanced a after

module _ {a : Areas} {j from : ℕ} {before after : List ℕ} (laid : Laid a (length before)) (inside : j < a.gross)
    (t : TurnedTo a j from before after) where
  -- the bit stands in a check as before
  stands : (p : ℕ) → p < a.checks → stands_in a after p j ≡ stands_in a before p j
  stands p h = stands_kept laid t.changed (λ q m u. omega arith) p h j inside

  -- check i is the next that the bit stands in, and its mark is turned
  pub turned_next : {i : ℕ} {later : List ℕ} → NextCheck a after j from i → CheckTurned a i after later → TurnedTo a j (i + 1) before later
  turned_next {i} {later} n c =
      let i_inside : i < a.checks = n.inside in
      let other : (p : ℕ) → p < a.checks → (p ≡ i → ⊥) → mark_of a later p ≡ mark_of a after p = λ p l e.
      c.changed.kept (a.marks + p)
      ((λ u. elim (dec_lt p i) [ yes m ↦ absurd (omega arith) | no m ↦ omega arith ]), ((λ u. omega arith), tt)) in
      record {
        most = omega arith;
        changed =
            changed_then t.changed (changed_wider c.changed
            (λ q o. (outside_in (a.marks + i) (a.marks + i + 1) (omega arith) (omega arith) o.0, o.1)));
        done = λ p l.
            elim (ℕ_discrete p i) [
              | yes e ↦
                  rw (e, sym (stands i i_inside) ∙ n.there) (c.turns ∙ ap (λ (x : ℕ). 1 - x) (t.rest i n.least i_inside))
              | no e ↦
                  elim (dec_lt p from) [
                    | yes m ↦ other p (omega arith) e ∙ t.done p m
                    | no m ↦
                        let p_inside : p < a.checks = omega arith in
                        let out : stands_in a before p j ≡ false = sym (stands p p_inside) ∙ n.none_before p (omega arith) (omega arith) in
                        rw out (other p p_inside e ∙ t.rest p (omega arith) p_inside)
                  ]
            ];
        rest = λ p l g. other p g (λ e. omega arith) ∙ t.rest p (omega (arith, n.least)) g;
        bits = λ p g.
            elim (ℕ_discrete p i) [
              | yes e ↦ rw e (omega (arith, c.turns))
              | no e ↦ omega (arith, other p g e, t.bits p g)
            ];
        balanced = c.balanced;
      }

  -- the bit stands in no check from `from` on
  pub turned_all : InNoCheck a after j from a.checks → MarksTurned a j before after
  turned_all none =
      record {
        changed = t.changed;
        turns = λ p h.
            elim (dec_lt p from) [
              | yes l ↦ t.done p l
              | no l ↦ rw (sym (stands p h) ∙ none p (omega arith) h) (t.rest p (omega arith) h)
            ];
        balanced = t.balanced;
      }
