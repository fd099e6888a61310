-- What the stages of a write do to the work buffer. Rows, marks and numbers are scratch between them: nothing is said of these.
-- Assumes nothing.
use Rattle.std.specs.Prelude.{ℕ, ◌≡◌, List, length}
use Rattle.symbology.specs.declared.Params.{Params}
use Rattle.symbology.specs.declared.Sizes.{Sizes}
use Rattle.symbology.specs.Net.{with_end_mark}
use Rattle.symbology.specs.Symbol.{placed_bits}
use Rattle.calls.specs.declared.Answer.{Answer}
use Rattle.calls.specs.Write.{write_answer, matrix_after_write}
use Rattle.lent.specs.declared.Areas.{Areas}
use Rattle.lent.specs.Buffer.{part}
use Rattle.lent.specs.Work.{net_in}

-- the net bits are those of the stream
pub record NetStored (a : Areas) (stream before after : List ℕ) : Type 0 where
  pub long : length after ≡ length before
  pub net_is : net_in a after ≡ with_end_mark a.net stream

-- the C bits in the word's area are those of the net bits
pub record BitsPlaced (s : Sizes) (a : Areas) (before after : List ℕ) : Type 0 where
  pub long : length after ≡ length before
  pub bits_are : part after a.word s.capacity ≡ placed_bits s (net_in a before)

-- a write of legal input, before the work buffer is cleared
pub record MatrixWritten (p : Params) (l stream matrix : List ℕ) (work : ℕ) (a : Answer) (matrix' : List ℕ) : Type 0 where
  pub answer_is : a ≡ write_answer p l stream (length matrix) work
  pub matrix_is : matrix' ≡ matrix_after_write p l stream work matrix
