-- What the stages of error correction do to the work buffer, over any areas and any check matrix. What building the checks does is
-- `ChecksBuilt`, in `checks`.
-- Assumes nothing.
use Rattle.std.specs.Prelude.{ℕ, ◌≤◌, ◌≡◌, Bool, List, [], ◌∷◌, length, take, drop}
use Rattle.symbology.specs.Bits.{any_one}
use Rattle.symbology.specs.Matrix.{BitMatrix, checks_of}
use Rattle.symbology.specs.Rule.{unmet_count, repairs_of, places_of, last_word, stuck}
use Rattle.symbology.specs.Codeword.{codeword, message_bits}
use Rattle.lent.specs.declared.Areas.{Areas}
use Rattle.lent.specs.Changes.{Changed}
use Rattle.lent.specs.Buffer.{numbers_at}
use Rattle.lent.specs.Work.{rows_span, word_row_span, marks_span, word_span, numbers_span, net_span, repaired_span, word_in, net_in}
use Rattle.checks.specs.Checks.{checks_span, HoldsChecks}

-- The word is the codeword of the net bits. Rows, the row behind them, marks and numbers are scratch then: nothing is said of them.
-- Nothing else is changed.
pub record WordEncoded (a : Areas) (m : BitMatrix) (before after : List ℕ) : Type 0 where
  pub changed : Changed (rows_span a ∷ word_row_span a ∷ marks_span a ∷ word_span a ∷ numbers_span a ∷ []) before after
  pub word_is : word_in a after ≡ codeword a.checks a.gross m (net_in a before)

-- The word is the last of the rule's run from the word before, over the checks of the matrix, and repairs, first unmet count and stuck
-- are those of that run; the places of the repairs, in their order, begin the area of the places. The checks are those of the matrix. The
-- row behind the rows, marks and numbers are scratch then: nothing is said of them. Nothing else is changed.
pub record WordMended (a : Areas) (m : BitMatrix) (before after : List ℕ) (repairs first : ℕ) (stuck_there : Bool) : Type 0 where
  pub changed : Changed (checks_span a ∷ word_row_span a ∷ marks_span a ∷ word_span a ∷ numbers_span a ∷ repaired_span a ∷ []) before after
  pub word_is : word_in a after ≡ last_word (checks_of a.checks a.gross m) (word_in a before)
  pub repairs_are : repairs ≡ length (repairs_of (checks_of a.checks a.gross m) (word_in a before))
  pub places_are : numbers_at after a.repaired repairs ≡ places_of (repairs_of (checks_of a.checks a.gross m) (word_in a before))
  pub first_is : first ≡ unmet_count (checks_of a.checks a.gross m) (word_in a before)
  pub bounded : repairs ≤ first
  pub stuck_is : stuck_there ≡ stuck (checks_of a.checks a.gross m) (word_in a before)
  pub holds : HoldsChecks a m after

-- The net bits are the first of the word's message bits, and `spare` tells whether another of these is 1. Rows, marks and numbers are
-- scratch then: nothing is said of them. Nothing else is changed.
pub record MessageTaken (a : Areas) (m : BitMatrix) (before after : List ℕ) (spare : Bool) : Type 0 where
  pub changed : Changed (rows_span a ∷ marks_span a ∷ numbers_span a ∷ net_span a ∷ []) before after
  pub message_is : net_in a after ≡ take a.net (message_bits a.checks a.gross m (word_in a before))
  pub spare_is : spare ≡ any_one (drop a.net (message_bits a.checks a.gross m (word_in a before)))
