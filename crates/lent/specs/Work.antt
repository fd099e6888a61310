-- The work buffer: its areas, where they lie for the sizes of a symbol, and what the stages of error correction ask of the sizes.
-- Assumes nothing.
use Rattle.std.specs.Prelude.{ℕ, ◌+◌, ◌*◌, ◌≤◌, ◌<◌, ◌≡◌, List}
use Rattle.symbology.specs.declared.Sizes.{Sizes}
use Rattle.symbology.specs.Capacity.{row_bytes, work_bytes}
use Rattle.lent.specs.declared.Areas.{Areas}
use Rattle.lent.specs.Changes.{Span, span}
use Rattle.lent.specs.Buffer.{part}

-- ---- the areas

-- the dense rows
abbrev pub rows_span : Areas → Span
rows_span a = span 0 (a.checks * a.stride)

-- the row behind the rows, for a word in their form
abbrev pub word_row_span : Areas → Span
word_row_span a = span (a.checks * a.stride) (a.checks * a.stride + a.stride)

-- the marks of the checks
abbrev pub marks_span : Areas → Span
marks_span a = span a.marks (a.marks + a.checks)

-- the word
abbrev pub word_span : Areas → Span
word_span a = span a.word (a.word + a.gross)

-- the numbers of the columns
abbrev pub numbers_span : Areas → Span
numbers_span a = span a.numbers (a.numbers + 2 * a.gross)

-- the net bits
abbrev pub net_span : Areas → Span
net_span a = span a.message (a.message + a.net)

-- the places of the repairs
abbrev pub repaired_span : Areas → Span
repaired_span a = span a.repaired (a.repaired + 2 * a.checks)

-- The areas lie in a buffer of `room` bytes one behind the other. A dense row holds all columns, of which there are at most 4,096, and
-- the net bits and the checks are together no more than the columns.
pub record Laid (a : Areas) (room : ℕ) : Type 0 where
  pub few : a.gross ≤ 4096
  pub parts : a.net + a.checks ≤ a.gross
  pub wide : a.gross ≤ a.stride * 8
  pub rows_end : a.checks * a.stride + a.stride ≤ a.marks
  pub marks_end : a.marks + a.checks ≤ a.word
  pub word_end : a.word + a.gross ≤ a.numbers
  pub numbers_end : a.numbers + 2 * a.gross ≤ a.message
  pub message_end : a.message + a.net ≤ a.repaired
  pub repaired_end : a.repaired + 2 * a.checks ≤ room

-- the word in the buffer
abbrev pub word_in : Areas → List ℕ → List ℕ
word_in a work = part work a.word a.gross

-- the net bits in the buffer
abbrev pub net_in : Areas → List ℕ → List ℕ
net_in a work = part work a.message a.net

-- ---- the areas for the sizes of a symbol

-- One area lies behind the other: rows, one more row, marks, C bits, of which the first are the word, numbers, net bits,
-- places of repairs.
unfoldable pub areas_of : Sizes → Areas
areas_of s =
    let stride = row_bytes s.gross in
    let marks = s.checks * stride + stride in
    let word = marks + s.checks in
    let numbers = word + s.capacity in
    let message = numbers + 2 * s.gross in
    record {
      checks = s.checks;
      gross = s.gross;
      net = s.net;
      stride = stride;
      marks = marks;
      word = word;
      numbers = numbers;
      message = message;
      repaired = message + s.net;
    }

-- The sizes belong together, as those of a legal symbol do: A has wc blocks of t rows, and C is at most 4,096.
pub record CodeSizes (s : Sizes) : Type 0 where
  pub wc : ℕ
  pub some : 0 < s.block
  pub heavy : 0 < s.wr
  pub gross_is : s.gross ≡ s.block * s.wr
  pub checks_is : s.checks ≡ s.block * wc
  pub parts : s.net + s.checks ≡ s.gross
  pub inside : s.gross ≤ s.capacity
  pub few : s.capacity ≤ 4096
  pub work_is : s.work ≡ work_bytes s.checks s.gross s.capacity

-- A work buffer of `room` bytes is long enough for these sizes, and these are its areas.
pub record RoomFor (s : Sizes) (a : Areas) (room : ℕ) : Type 0 where
  pub sizes : CodeSizes s
  pub areas_are : a ≡ areas_of s
  pub enough : s.work ≤ room
