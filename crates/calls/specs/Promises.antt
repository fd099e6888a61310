-- What the calls promise: answer and buffers at exit are those of the definitions. Every crate that speaks of a whole write or a whole
-- read cites these. A name with a prime is what a buffer holds at exit.
-- Assumes nothing.
use Rattle.std.specs.Prelude.{ℕ, suc, ◌≤◌, ◌<◌, ◌≡◌, true, cond, List, ◌++◌, length, drop, eqb}
use Rattle.symbology.specs.declared.Params.{Params}
use Rattle.symbology.specs.Capacity.{sizes_for}
use Rattle.symbology.specs.Stream.{stream_of}
use Rattle.symbology.specs.Symbol.{written_matrix}
use Rattle.calls.specs.declared.Answer.{Answer}
use Rattle.calls.specs.declared.ReadAnswer.{ReadAnswer}
use Rattle.calls.specs.Answers.{no_counts, refused, done}
use Rattle.calls.specs.Tests.{is_legal, reaches_checks}
use Rattle.calls.specs.Write.{write_answer, matrix_after_write, work_after}
use Rattle.calls.specs.Read.{read_answer, message_in, places_in, front_after}
use Rattle.calls.specs.Mending.{Mends}

-- a write of a stream
pub record Writes (p : Params) (l stream matrix work : List ℕ) (a : Answer) (matrix' work' : List ℕ) : Type 0 where
  pub answer_is : a ≡ write_answer p l stream (length matrix) (length work)
  pub matrix_is : matrix' ≡ matrix_after_write p l stream (length work) matrix
  pub work_is : work' ≡ work_after p l (length matrix) work

-- a read, which mends by the rule where it reaches the checks
pub record Reads (p : Params) (l matrix work message places : List ℕ) (a : ReadAnswer) (work' message' places' : List ℕ) : Type 0 where
  pub answer_is : a ≡ read_answer p l matrix (length work) (length message) (length places)
  pub message_is : message' ≡ front_after a.number (message_in p l matrix) message
  pub places_are : places' ≡ front_after a.number (places_in p l matrix) places
  pub work_is : work' ≡ work_after p l (length matrix) work
  -- demand 3
  pub mends : reaches_checks p l matrix (length work) ≡ true → Mends p l matrix message places a message' places'

-- ---- a write and a read of what was written, with the same parameters, list and work buffer

-- The answer, for a work buffer and a message buffer of these lengths: that of the read, which stores no places, and where the write is
-- refused its number and place.
unfoldable pub answer_read_back : Params → List ℕ → List ℕ → List ℕ → ℕ → ℕ → ReadAnswer
answer_read_back p l stream matrix work room =
    let a = write_answer p l stream (length matrix) work in
    cond (eqb a.number 0) (read_answer p l (matrix_after_write p l stream work matrix) work room 0) (refused a.number a.place)

-- Demand 2 about a call with legal parameters, list and buffers: `matrix` and `back` came, and `written` and `after` are what it left.
pub record ReadsBack (p : Params) (l message matrix back : List ℕ) (a : ReadAnswer) (written after : List ℕ) : Type 0 where
  -- room is denied where the stream and its end mark exceed the net bits
  pub denied : (sizes_for p l).net < suc (length (stream_of message)) → (a ≡ refused 6 0) × (written ≡ matrix) × (after ≡ back)
  -- and only there: otherwise the matrix is the defined one
  pub is_written : suc (length (stream_of message)) ≤ (sizes_for p l).net
      → (a.number ≡ 6 → ⊥)
      × (written ≡ written_matrix p l (stream_of message))
  -- and the message comes back, with no repair, no unmet check and no wrong stuffing bit, where its buffer is long enough: the
  -- message, and the rest of the buffer as it came (`front_after` on 0, spelled out)
  pub comes_back : suc (length (stream_of message)) ≤ (sizes_for p l).net
      → length message ≤ length back
      → (a ≡ done no_counts (length message)) × (after ≡ message ++ drop (length message) back)

-- the call, on every input
pub record WritesThenReads (p : Params) (l message matrix work back : List ℕ) (a : ReadAnswer) (matrix' work' back' : List ℕ) : Type 0 where
  pub answer_is : a ≡ answer_read_back p l (stream_of message) matrix (length work) (length back)
  pub matrix_is : matrix' ≡ matrix_after_write p l (stream_of message) (length work) matrix
  pub back_is : back' ≡ front_after a.number (message_in p l matrix') back
  pub work_is : work' ≡ work_after p l (length matrix) work
  -- demand 2's round trip
  pub reads_back : is_legal p l (length matrix) (length work) ≡ true → ReadsBack p l message matrix back a matrix' back'
