-- The marks set one after the other, and the unmet checks counted by them.
-- Assumes nothing.
use Prim.Native.Nat.{ℕ, zero, suc, ◌+◌, ◌≤◌, ◌<◌}
use mathlib.Core.Path.{◌≡◌, refl, sym, ap₂, ◌∙◌}
use mathlib.Core.List.{List, [], ◌∷◌}
use native.Mathlib.Decide.{ℕ_discrete}
use native.Mathlib.Numerals.{add-one}
use native.Mathlib.Omega.{arith}
use lib.ListN.{length, get_or, set}
use Rattle.std.proofs.Common.{nat_eq, count_by, take, drop, eq-eqb, length-drop}
use Rattle.std.proofs.lemmas.List.{get_or-drop}
use Rattle.std.proofs.lemmas.List.Sums.{count_by_more_yes, count_by_more_no}
use borrow.Author.Tests.{ne_eqb}
use Rattle.symbology.specs.Ranges.{tabulate}
use Rattle.symbology.specs.Matrix.{check_of, checks_of}
use Rattle.symbology.specs.Rule.{unmet, unmet_count}
use Rattle.laws.proofs.Gf2.{unmet_count_snoc}
use Rattle.laws.proofs.Stores.{store_next}
use Rattle.lent.specs.declared.Areas.{Areas}
use Rattle.lent.specs.Changes.{Span, Outside, Changed}
use Rattle.lent.specs.Work.{word_row_span, marks_span, Laid, word_in}
use Rattle.lent.specs.Buffer.{part}
use Rattle.lent.proofs.Changes.{changed_wider, changed_then, changed_set}
use Rattle.lent.proofs.Work.{word_kept, marks_inside}
use Rattle.checks.specs.Checks.{stands_in, checks_in, unmet_in, WordStaged}
use Rattle.checks.proofs.Checks.{ChecksOutside, checks_kept, unmet_kept}
use Rattle.syndrome.specs.Syndrome.{mark_of, MarkBits, Marked, MarksSet, Judged}

-- ---- marks set

-- the first i checks are marked
pub record MarkedTo (a : Areas) (i : ℕ) (before after : List ℕ) : Type 0 where
  pub most : i ≤ a.checks
  pub changed : Changed (marks_span a ∷ []) before after
  pub done : (p : ℕ) → p < i → mark_of a after p ≡ unmet_in a before p

module _ {a : Areas} {i : ℕ} {before after : List ℕ} (laid : Laid a (length before)) (m : MarkedTo a i before after) where
  -- whether a check is unmet stays while marks are set
  pub unmet_marked : (p : ℕ) → p < a.checks → unmet_in a after p ≡ unmet_in a before p
  unmet_marked = unmet_kept laid m.changed (λ q h g. omega arith) (λ q h g. omega arith)

  pub marked_next : {v : ℕ} → i < a.checks → v ≡ unmet_in a after i → MarkedTo a (i + 1) before (set after (a.marks + i) v)
  marked_next {v} h e =
      record {
        most = omega arith;
        changed = changed_set m.changed (a.marks + i) v (λ o. omega (arith, o.0 (omega arith)));
        done =
            store_next (λ p w. w ≡ unmet_in a before p) after a.marks i v (omega (arith, m.changed.long)) m.done
            (e ∙ unmet_marked i h);
      }

  pub marked_all : i ≡ a.checks → MarksSet a before after
  marked_all e =
      record { changed = m.changed; marked = λ p h. m.done p (omega arith) ∙ sym (unmet_marked p h) }

-- The checks stay marked where neither they, nor their marks, nor the word are changed.
pub marked_kept : {a : Areas} {ss : List Span} {before after : List ℕ} → Laid a (length before) → Changed ss before after
    → ChecksOutside a ss
    → ((q : ℕ) → a.marks ≤ q → q < a.marks + a.checks → Outside ss q)
    → ((q : ℕ) → a.word ≤ q → q < a.word + a.gross → Outside ss q)
    → Marked a before → Marked a after
marked_kept {a} laid c checks marks word marked i h =
    c.kept (a.marks + i) (marks (a.marks + i) (omega arith) (omega arith)) ∙ marked i h ∙ sym (unmet_kept laid c checks word i h)

-- ---- the unmet checks, counted by their marks

-- A check is unmet or met.
unmet_bit : (c w : List ℕ) → unmet c w ≤ 1
unfolding unmet
unmet_bit c w = omega arith

-- one more bit of a list, counted where it is 1
ones_more : (xs : List ℕ) (i : ℕ) → i < length xs → get_or xs i 0 ≤ 1
    → count_by (λ x. nat_eq x 1) (take (suc i) xs) ≡ count_by (λ x. nat_eq x 1) (take i xs) + get_or xs i 0
ones_more xs i h bit =
    elim (ℕ_discrete (get_or xs i 0) 1) [
      | yes e ↦ rw (← add-one i, e) (count_by_more_yes (λ x. nat_eq x 1) xs i 0 h (eq-eqb (get_or xs i 0) 1 e))
      | no e ↦ rw (← add-one i) (omega (arith, count_by_more_no (λ x. nat_eq x 1) xs i 0 h (ne_eqb (get_or xs i 0) 1 e)))
    ]

module _ (a : Areas) (work : List ℕ) (marked : Marked a work) where
  -- Each mark is 0 or 1.
  pub mark_bits : MarkBits a work
  mark_bits i h = omega (arith, marked i h, unmet_bit (check_of a.gross (stands_in a work) i) (word_in a work))

  ones_to : Laid a (length work) → (i : ℕ) → i ≤ a.checks
      → count_by (λ x. nat_eq x 1) (part work a.marks i) ≡ unmet_count (checks_of i a.gross (stands_in a work)) (word_in a work)
  unfolding checks_of tabulate unmet_count
  ones_to laid zero h = refl
  ones_to laid (suc i) h =
      let c : List ℕ = check_of a.gross (stands_in a work) i in
      let cs : List (List ℕ) = tabulate i (check_of a.gross (stands_in a work)) in
      let mark : get_or (drop a.marks work) i 0 ≡ mark_of a work i = get_or-drop a.marks work i 0 in
      ones_more (drop a.marks work) i (omega (arith, length-drop a.marks work, marks_inside laid))
      (omega (arith, mark, mark_bits i (omega arith)))
      ∙ ap₂ ◌+◌ (ones_to laid i (omega arith)) (mark ∙ marked i (omega arith))
      ∙ sym (unmet_count_snoc cs c (word_in a work))

  -- The marks that are 1 are as many as the unmet checks.
  pub ones_are : Laid a (length work)
      → count_by (λ x. nat_eq x 1) (part work a.marks a.checks) ≡ unmet_count (checks_in a work) (word_in a work)
  ones_are laid = ones_to laid a.checks (omega arith)

-- ---- the word judged

module _ {a : Areas} {before staged after : List ℕ} (laid : Laid a (length before)) (w : WordStaged a before staged)
    (m : MarksSet a staged after) where
  judged_changed : Changed (word_row_span a ∷ marks_span a ∷ []) before after
  judged_changed =
      changed_then (changed_wider w.changed (λ i o. (o.0, tt))) (changed_wider m.changed (λ i o. (o.1.0, tt)))

  pub judged : {number : ℕ} → number ≡ unmet_count (checks_in a after) (word_in a after) → Judged a before after number
  judged e =
      record {
        changed = judged_changed;
        marked = m.marked;
        number_is =
            e
            ∙ ap₂ unmet_count (checks_kept laid judged_changed (λ q h g. omega arith))
            (word_kept laid judged_changed (λ q h g. omega arith));
      }
