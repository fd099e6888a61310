-- The calls for C: what each leaves in the lent buffers and stores as its answer. `w` are the parameters and `l` is the reserved list; a
-- name with a prime is what a buffer holds at exit.
-- Assumes nothing.
use Rattle.std.specs.Prelude.{ℕ, ◌≡◌, List}
use Rattle.symbology.specs.Stream.{stream_of}
use Rattle.calls.specs.declared.Answer.{Answer}
use Rattle.calls.specs.declared.ReadAnswer.{ReadAnswer}
use Rattle.calls.specs.Promises.{Writes, Reads}
use Rattle.jabcode_c.specs.Words.{params_of, write_words, read_words}

-- a write: the words are those of its answer, and all else is as in the call
pub record WritesFor (w l message matrix work matrix' work' answer : List ℕ) : Type 0 where
  pub given : Answer
  pub words_are : answer ≡ write_words given
  pub writes : Writes (params_of w) l (stream_of message) matrix work given matrix' work'

-- a read
pub record ReadsFor (w l matrix work message places work' message' places' answer : List ℕ) : Type 0 where
  pub given : ReadAnswer
  pub words_are : answer ≡ read_words given
  pub reads : Reads (params_of w) l matrix work message places given work' message' places'
