-- The rule, run over the work buffer.
-- Assumes nothing.
use Rattle.std.specs.Prelude.{ℕ, ◌≤◌, ◌<◌, ◌≡◌, Bool, Option, None, Some, List, [], ◌∷◌, length}
use Rattle.symbology.specs.Bits.{AllBits}
use Rattle.symbology.specs.Rule.{unmet_count, unmet_at, met_at, turned, repairs_of, places_of, last_word, stuck}
use Rattle.symbology.specs.Steps.{LowestSuspect, Ended}
use Rattle.lent.specs.declared.Areas.{Areas}
use Rattle.lent.specs.Changes.{Changed}
use Rattle.lent.specs.Buffer.{numbers_at}
use Rattle.lent.specs.Work.{word_row_span, marks_span, word_span, numbers_span, repaired_span, Laid, word_in}
use Rattle.checks.specs.Checks.{checks_in}
use Rattle.syndrome.specs.Syndrome.{Marked}
use Rattle.balances.specs.Balances.{Balanced}

-- the word consists of bits
abbrev pub BitsIn : Areas → List ℕ → Type 0
BitsIn a work = AllBits (word_in a work)

-- The areas lie in the buffer one behind the other, the word consists of bits, and marks and balances are those of the word.
pub record InRepair (a : Areas) (work : List ℕ) : Type 0 where
  pub laid : Laid a (length work)
  pub bits : BitsIn a work
  pub marked : Marked a work
  pub balanced : Balanced a work

-- no bit of the word stands in more unmet checks than met ones
abbrev pub NoSuspect : List (List ℕ) → List ℕ → Type 0
NoSuspect cs w = (j : ℕ) → j < length w → unmet_at cs w j ≤ met_at cs w j

-- bit j of the word is turned, marks and balances are those of the new word, and nothing else is changed
pub record BitTurned (a : Areas) (j : ℕ) (before after : List ℕ) : Type 0 where
  pub changed : Changed (marks_span a ∷ word_span a ∷ numbers_span a ∷ []) before after
  pub word_is : word_in a after ≡ turned (word_in a before) j
  pub marked : Marked a after
  pub balanced : Balanced a after

-- What a step answers, and what it does to the buffer: the lowest suspect bit is turned, or the rule has ended and nothing is changed.
abbrev pub Stepped : Areas → List ℕ → List ℕ → Option ℕ → Type 0
Stepped a before after (Some j) = LowestSuspect (checks_in a before) (word_in a before) j × BitTurned a j before after
Stepped a before after None = Ended (checks_in a before) (word_in a before) × (after ≡ before)

-- The rule has run from the word before to its end, with n repairs, whose places, in their order, begin the area of the places. The marks
-- are those of the last word; the numbers are scratch then: nothing is said of them. Nothing else is changed.
pub record RuleRun (a : Areas) (before after : List ℕ) (n : ℕ) : Type 0 where
  pub changed : Changed (marks_span a ∷ word_span a ∷ numbers_span a ∷ repaired_span a ∷ []) before after
  pub word_is : word_in a after ≡ last_word (checks_in a before) (word_in a before)
  pub repairs_are : n ≡ length (repairs_of (checks_in a before) (word_in a before))
  pub places_are : numbers_at after a.repaired n ≡ places_of (repairs_of (checks_in a before) (word_in a before))
  pub marked : Marked a after

-- The word is the last of the rule's run from the word before, the count is that of its repairs and at most the first unmet count, their
-- places begin the area of the places, and the word is stuck as the rule says. The marks are those of the last word; only marks, word,
-- numbers, places and the row behind the rows are changed. The numbers and that row are scratch then: nothing is said of them.
pub record MendedBy (a : Areas) (before after : List ℕ) (repairs first : ℕ) (stuck_there : Bool) : Type 0 where
  pub changed : Changed (word_row_span a ∷ marks_span a ∷ word_span a ∷ numbers_span a ∷ repaired_span a ∷ []) before after
  pub word_is : word_in a after ≡ last_word (checks_in a before) (word_in a before)
  pub repairs_are : repairs ≡ length (repairs_of (checks_in a before) (word_in a before))
  pub places_are : numbers_at after a.repaired repairs ≡ places_of (repairs_of (checks_in a before) (word_in a before))
  pub first_is : first ≡ unmet_count (checks_in a before) (word_in a before)
  pub bounded : repairs ≤ first
  pub stuck_is : stuck_there ≡ stuck (checks_in a before) (word_in a before)
  pub marked : Marked a after
