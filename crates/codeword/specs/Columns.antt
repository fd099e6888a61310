-- Message and check columns of the work buffer, as the numbers of an elimination tell them apart, and words stored and read by them.
-- Assumes nothing.
use Rattle.std.specs.Prelude.{ℕ, ◌+◌, ◌%◌, ◌<◌, ◌≡◌, Bool, true, false, cond, List, [], ◌∷◌, leb, eqb, length, get_or, take, drop}
use Rattle.std.specs.Prelude.{Option, MatchOption}
use Rattle.symbology.specs.Bits.{any_one}
use Rattle.symbology.specs.Ranges.{tally, those}
use Rattle.symbology.specs.Matrix.{BitMatrix}
use Rattle.symbology.specs.Codeword.{codeword, message_bits}
use Rattle.laws.specs.Gf2.{dot}
use Rattle.lent.specs.declared.Areas.{Areas}
use Rattle.lent.specs.Changes.{Changed}
use Rattle.lent.specs.Work.{word_row_span, word_span, net_span, word_in, net_in}
use Rattle.dense.specs.Dense.{dense_bits}
use Rattle.elimination.specs.Reduced.{row_of, EliminatedFrom}

-- a column without a row is a message column
abbrev pub is_message : Areas → List ℕ → ℕ → Bool
is_message a work j = leb a.checks (row_of a work j)

-- the row is the pivot row of a check column, and there is none in a message column
abbrev pub IsPivotRow : Areas → List ℕ → ℕ → Option ℕ → Type 0
IsPivotRow a work c row =
    MatchOption row (is_message a work c ≡ true) (λ i. (is_message a work c ≡ false) × (i ≡ row_of a work c) × (i < a.checks))

-- the row of a check column is 0 behind it
abbrev pub RowsEnd : Areas → List ℕ → Type 0
RowsEnd a work =
    (c d : ℕ) → c < a.gross → is_message a work c ≡ false → c < d → d < a.gross → dense_bits work a.stride (row_of a work c) d ≡ false

-- the word is 0 in the check columns
abbrev pub ChecksZero : Areas → List ℕ → Type 0
ChecksZero a work = (c : ℕ) → c < a.gross → is_message a work c ≡ false → get_or work (a.word + c) 0 ≡ 0

-- the bit of the word in a column
abbrev pub word_bit : Areas → List ℕ → ℕ → Bool
word_bit a work c = eqb (get_or work (a.word + c) 0 % 2) 1

-- what a column holds where the net bits are stored: those in the message columns, ascending, 0 in the spare ones and in the check columns
abbrev pub placed_bit : Areas → List ℕ → ℕ → ℕ
placed_bit a work j =
    cond (is_message a work j) (get_or (net_in a work) (length (those j (is_message a work))) 0) 0

-- the net bits are stored in the word, and nothing else is changed
pub record Placed (a : Areas) (before after : List ℕ) : Type 0 where
  pub changed : Changed (word_span a ∷ []) before after
  pub placed : (j : ℕ) → j < a.gross → get_or after (a.word + j) 0 ≡ placed_bit a before j

-- the check columns are solved: each holds the parity of its row over the columns before it. Only the word and the row behind the rows
-- are changed.
pub record Solved (a : Areas) (before after : List ℕ) : Type 0 where
  pub changed : Changed (word_row_span a ∷ word_span a ∷ []) before after
  pub kept : (c : ℕ) → c < a.gross → is_message a before c ≡ true → get_or after (a.word + c) 0 ≡ get_or before (a.word + c) 0
  pub solved : (c : ℕ)
      → c < a.gross
      → is_message a before c ≡ false
      → get_or after (a.word + c) 0 ≡ tally (dot c (dense_bits before a.stride (row_of a before c)) (word_bit a after))

-- The word is the codeword of the net bits, for the matrix whose elimination the buffer holds. Only the word and the row behind the rows
-- are changed. That row is scratch: nothing is said of it.
pub record WordFilled (a : Areas) (before after : List ℕ) : Type 0 where
  pub changed : Changed (word_row_span a ∷ word_span a ∷ []) before after
  pub word_is : (m : BitMatrix)
      → EliminatedFrom a m 0 before
      → word_in a after ≡ codeword a.checks a.gross m (net_in a before)

-- The first of the word's message bits stand as the net bits, and `spare` tells whether another one is 1, for the matrix whose
-- elimination the buffer holds.
pub record MessageRead (a : Areas) (before after : List ℕ) (spare : Bool) : Type 0 where
  pub changed : Changed (net_span a ∷ []) before after
  pub message_is : (m : BitMatrix)
      → EliminatedFrom a m 0 before
      → net_in a after ≡ take a.net (message_bits a.checks a.gross m (word_in a before))
  pub spare_is : (m : BitMatrix)
      → EliminatedFrom a m 0 before
      → spare ≡ any_one (drop a.net (message_bits a.checks a.gross m (word_in a before)))
