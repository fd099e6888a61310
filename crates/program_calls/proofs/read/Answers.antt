-- `program_calls::read` meets its contract: every answer of a read has a length that fits in the message buffer, and on 0 no more repairs
-- than there are numbers for their places. Assumes nothing.
use Rattle.std.proofs.Common.{ℕ, ◌≡◌, ◌≤◌, ◌∙◌, List, sym, ap, arith}
use Rattle.symbology.specs.declared.Params.{Params}
use Rattle.calls.specs.declared.ReadAnswer.{ReadAnswer}
use Rattle.calls.specs.Read.{read_answer}
use Rattle.call_laws.proofs.Answers.{read_fits}
use Rattle.call_laws.proofs.Places.{read_places}
use Rattle.program_calls.proofs.read.Goals as goal

module _ {r : ReadAnswer} (p : Params) (l matrix : List ℕ) (work room slots : ℕ) (e : r ≡ read_answer p l matrix work room slots) where
  -- a message that is read fits in its buffer
  fits : r.length ≤ room
  fits = omega (arith, ap (λ (a : ReadAnswer). a.length) e, read_fits p l matrix work room slots)

  -- and the places in their slice
  places_fit : r.number ≡ 0 → r.repairs ≤ slots
  places_fit zero_is =
      let some = read_places p l matrix work room slots (sym (ap (λ (a : ReadAnswer). a.number) e) ∙ zero_is) in
      omega (arith, ap (λ (a : ReadAnswer). a.repairs) e, some.0, some.1)

pub returns-then-answer-eq0-clause-message_fits : goal.returns-then-answer-eq0-clause-message_fits
returns-then-answer-eq0-clause-message_fits c = fits _ _ _ _ _ _ c.read-answer.ensures.reads.answer_is

pub returns-then-answer-eq0-clause-places_fit : goal.returns-then-answer-eq0-clause-places_fit
returns-then-answer-eq0-clause-places_fit c = places_fit _ _ _ _ _ _ c.read-answer.ensures.reads.answer_is c.if-answer-eq0.true

pub returns-else-answer-eq0-clause-message_fits : goal.returns-else-answer-eq0-clause-message_fits
returns-else-answer-eq0-clause-message_fits c = fits _ _ _ _ _ _ c.read-answer.ensures.reads.answer_is
