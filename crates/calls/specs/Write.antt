-- The whole write of a stream: its answer, and the matrix and the work buffer at exit. Which stream a message is written as is chosen
-- elsewhere (`stream_of`).
-- Assumes nothing.
use Rattle.std.specs.Prelude.{ℕ, cond, List, length, replicate, eqb}
use Rattle.symbology.specs.declared.Params.{Params}
use Rattle.symbology.specs.Symbol.{written_matrix}
use Rattle.calls.specs.declared.Answer.{Answer}
use Rattle.calls.specs.Answers.{answer}
use Rattle.calls.specs.Tests.{first_of, write_rows, is_legal}

-- the answer of a write with a matrix and a work buffer of these lengths
unfoldable pub write_answer : Params → List ℕ → List ℕ → ℕ → ℕ → Answer
write_answer p l stream modules work = first_of answer (write_rows p l stream modules work) (answer 0 0)

-- the matrix at exit: the whole matrix on 0, else as it came
unfoldable pub matrix_after_write : Params → List ℕ → List ℕ → ℕ → List ℕ → List ℕ
matrix_after_write p l stream work matrix =
    cond (eqb (write_answer p l stream (length matrix) work).number 0) (written_matrix p l stream) matrix

-- The work buffer at exit of a write or a read: all zero where the call passes test 5, else untouched.
unfoldable pub work_after : Params → List ℕ → ℕ → List ℕ → List ℕ
work_after p l modules work = cond (is_legal p l modules (length work)) (replicate (length work) 0) work
