-- What reading a stream or net bits leaves: document 01's number, how many bytes the stream gave, and the buffer.
-- Assumes nothing.
use Rattle.std.specs.Prelude.{ℕ, suc, ◌≡◌, List, length, Option, None, Some}
use Rattle.std.proofs.lemmas.List.Edits.{sets}
use Rattle.symbology.specs.Stream.{Decoded}
use Rattle.symbology.specs.Net.{up_to_last_one}
use Rattle.calls.specs.Answers.{StreamAnswer, answer}
use Rattle.calls.specs.Refusals.{answer_of}
use Rattle.calls.specs.Read.{message_in_net, front_after, stream_answer}
use Rattle.stream_reader.specs.declared.StreamCount.{StreamCount}

-- the number and the count of what the stream gave, and its bytes over the front of the buffer as far as that reaches
pub record StreamRead (d : Decoded) (before after : List ℕ) (a : StreamCount) : Type 0 where
  pub end_is : answer_of a.end ≡ answer d.number 0
  pub count_is : a.count ≡ length d.bytes
  pub stored : after ≡ sets before 0 d.bytes

-- the end mark stands at this place; there is none where all bits are 0
abbrev pub MarkedAt : List ℕ → Option ℕ → Type 0
MarkedAt net None = up_to_last_one net ≡ 0
MarkedAt net (Some mark) = up_to_last_one net ≡ suc mark

-- net bits read, with room for so many bytes
pub record NetRead (net : List ℕ) (room : ℕ) (before after : List ℕ) (a : StreamAnswer) : Type 0 where
  pub answer_is : a ≡ stream_answer net room
  pub message_is : after ≡ front_after a.number (message_in_net net) before
