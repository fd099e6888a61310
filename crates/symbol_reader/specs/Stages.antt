-- What a stage of a read gives: the defined answer, and on 0 the message, and the places of the repairs, over the front of their buffers.
-- Assumes nothing.
use Rattle.std.specs.Prelude.{ℕ, ◌≡◌, List}
use Rattle.calls.specs.declared.ReadAnswer.{ReadAnswer}
use Rattle.calls.specs.Read.{front_after}

-- `defined` is the answer of the definitions and `message` what they read; `before` and `after` are the lent buffer
pub record Answered (defined : ReadAnswer) (message before : List ℕ) (a : ReadAnswer) (after : List ℕ) : Type 0 where
  pub answer_is : a ≡ defined
  pub message_is : after ≡ front_after a.number message before

-- The same with the places of the repairs: `slice` and `stored` are the slice lent for them.
pub record AnsweredWithPlaces (defined : ReadAnswer) (message places before slice : List ℕ) (a : ReadAnswer)
    (after stored : List ℕ) : Type 0 where
  pub answered : Answered defined message before a after
  pub places_are : stored ≡ front_after a.number places slice
