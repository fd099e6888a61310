-- The marks of the checks in the work buffer.
-- Assumes nothing.
use Rattle.std.specs.Prelude.{ℕ, ◌+◌, ◌≤◌, ◌<◌, ◌≡◌, List, [], ◌∷◌, get_or}
use Rattle.symbology.specs.Rule.{unmet_count}
use Rattle.lent.specs.declared.Areas.{Areas}
use Rattle.lent.specs.Changes.{Changed}
use Rattle.lent.specs.Work.{word_row_span, marks_span, word_in}
use Rattle.checks.specs.Checks.{checks_in, unmet_in}

-- the mark of check i
abbrev pub mark_of : Areas → List ℕ → ℕ → ℕ
mark_of a work i = get_or work (a.marks + i) 0

-- each mark is 0 or 1
abbrev pub MarkBits : Areas → List ℕ → Type 0
MarkBits a work = (i : ℕ) → i < a.checks → mark_of a work i ≤ 1

-- each mark is that of its check: 1 where it is unmet in the word, 0 where it is met
abbrev pub Marked : Areas → List ℕ → Type 0
Marked a work = (i : ℕ) → i < a.checks → mark_of a work i ≡ unmet_in a work i

-- the checks are marked, and nothing else is changed
pub record MarksSet (a : Areas) (before after : List ℕ) : Type 0 where
  pub changed : Changed (marks_span a ∷ []) before after
  pub marked : Marked a after

-- The checks are marked, and `number` is that of the unmet ones. Nothing else is changed but the row behind the rows.
pub record Judged (a : Areas) (before after : List ℕ) (number : ℕ) : Type 0 where
  pub changed : Changed (word_row_span a ∷ marks_span a ∷ []) before after
  pub marked : Marked a after
  pub number_is : number ≡ unmet_count (checks_in a before) (word_in a before)
