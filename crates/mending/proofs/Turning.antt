-- A bit of the word turned, with the marks of its checks.
-- Assumes nothing.
use Prim.Native.Nat.{ℕ, ◌+◌, ◌-◌, ◌<◌}
use mathlib.Core.Path.{◌≡◌, sym, ap, ap₂, ◌∙◌}
use mathlib.Core.Bool.{Bool, true, false, cond}
use mathlib.Core.List.{List, [], ◌∷◌}
use native.Mathlib.Decide.{ℕ_discrete}
use native.Mathlib.Omega.{arith}
use lib.ListN.{length, get_or, set}
use lib.Seq.{get_or-set_same, get_or-set_other}
use Rattle.symbology.specs.Ranges.{those, has}
use Rattle.symbology.specs.Matrix.{check_of}
use Rattle.symbology.specs.Rule.{unmet, turned}
use Rattle.laws.proofs.Ranges.{has_those}
use Rattle.laws.proofs.Rule.{once_those, length_turned, turned_there, turned_elsewhere, unmet_change}
use Rattle.lent.specs.declared.Areas.{Areas}
use Rattle.lent.specs.Changes.{Changed}
use Rattle.lent.specs.Work.{marks_span, word_span, numbers_span, Laid, word_in}
use Rattle.lent.proofs.Buffer.{length_part, part_at, part_is}
use Rattle.lent.proofs.Changes.{changed_none, changed_wider, changed_then, changed_set}
use Rattle.checks.specs.Checks.{stands_in}
use Rattle.checks.proofs.Checks.{check_kept}
use Rattle.syndrome.specs.Syndrome.{Marked}
use Rattle.balances.specs.Balances.{MarksTurned}
use Rattle.mending.specs.Mending.{InRepair, BitTurned}
use Rattle.balances.proofs.Balances.{balanced_kept}

-- whether a check is unmet changes as its mark does
mark_change : (t : Bool) (now later : ℕ) → later + cond t now 0 ≡ now + cond t (1 - now) 0 → later ≡ cond t (1 - now) now
mark_change true now later e = omega arith
mark_change false now later e = omega arith

-- with the marks turned, the word's bits are as before
pub bit_kept : {a : Areas} {j : ℕ} {before middle : List ℕ} → Laid a (length before) → MarksTurned a j before middle
    → (i : ℕ) → i < a.gross → get_or middle (a.word + i) 0 ≡ get_or (word_in a before) i 0
bit_kept {a} {before = before} laid t i h =
    t.changed.kept (a.word + i) (omega arith) ∙ sym (part_at before a.word a.gross i h)

module _ {a : Areas} {j : ℕ} {before middle : List ℕ} (r : InRepair a before) (inside : j < a.gross)
    (t : MarksTurned a j before middle) where
  laid : Laid a (length before)
  laid = r.laid

  v : ℕ
  v = 1 - get_or middle (a.word + j) 0

  after : List ℕ
  after = set middle (a.word + j) v

  stored : Changed (word_span a ∷ []) middle after
  unfolding after
  stored = changed_set (changed_none (word_span a ∷ []) middle) (a.word + j) v (λ o. omega (arith, o.0 (omega arith)))

  changes : Changed (marks_span a ∷ word_span a ∷ numbers_span a ∷ []) before after
  changes = changed_then (changed_wider t.changed (λ q o. (o.0, o.1.1))) (changed_wider stored (λ q o. (o.1.0, tt)))

  long : length (word_in a before) ≡ a.gross
  long = length_part before a.word a.gross (omega arith)

  new : word_in a after ≡ turned (word_in a before) j
  unfolding after v
  new =
      let w : List ℕ = word_in a before in
      part_is after a.word a.gross (turned w j) (omega (arith, changes.long)) (length_turned w j ∙ long)
      (λ i l.
      elim (ℕ_discrete i j) [
        | yes e ↦
            rw e
            (get_or-set_same middle (a.word + j) v 0 (omega (arith, t.changed.long))
            ∙ ap (λ (x : ℕ). 1 - x) (bit_kept laid t j inside) ∙ sym (turned_there w j (omega (arith, long))))
        | no e ↦
            get_or-set_other middle (a.word + j) (a.word + i) v 0 (λ f. e (omega arith)) ∙ bit_kept laid t i l
            ∙ sym (turned_elsewhere w j i e)
      ])

  -- each mark is that of its check in the new word
  new_marks : Marked a after
  unfolding check_of
  new_marks i h =
      let w : List ℕ = word_in a before in
      let f : ℕ → Bool = stands_in a before i in
      let c : List ℕ = those a.gross f in
      let there : has j c ≡ f j = has_those f a.gross j inside in
      let change = unmet_change c w j (once_those a.gross f) r.bits (omega (arith, long)) in
      stored.kept (a.marks + i) (omega arith)
      ∙ t.turns i h
      ∙ ap (λ (x : ℕ). cond (f j) (1 - x) x) (r.marked i h)
      ∙ sym (mark_change (f j) (unmet c w) (unmet c (turned w j)) (rw there at change))
      ∙ sym (ap₂ unmet (check_kept laid changes (λ q m u. omega arith) i h) new)

  pub bit_turned : BitTurned a j before (set middle (a.word + j) (1 - get_or middle (a.word + j) 0))
  unfolding after v
  bit_turned =
      record {
        changed = changes;
        word_is = new;
        marked = new_marks;
        balanced =
            balanced_kept laid stored (λ q m u. omega arith) (λ q m u. omega arith) (λ q m u. omega arith) t.balanced;
      }
