-- What tests say of a symbol: its sizes, or document 01's number and place.
-- Assumes nothing.
use Rattle.std.specs.Prelude.{ℕ, List, Result, Ok, Err}
use Rattle.symbology.specs.declared.Sizes.{Sizes}
use Rattle.calls.specs.declared.Answer.{Answer}
use Rattle.calls.specs.Answers.{answer}
use Rattle.calls.specs.Tests.{Row, first_of}

-- the verdict of a table of tests on a symbol with these sizes: the refusal of the first test that holds, and the sizes where none does
unfoldable pub verdict_of : List Row → Sizes → Result Sizes Answer
verdict_of rows s = first_of (λ (number place : ℕ). Err (answer number place)) rows (Ok s)

-- document 01's number and place: 0 and 0 where the tests are passed
unfoldable pub answer_of : Result Sizes Answer → Answer
answer_of (Ok s) = answer 0 0
answer_of (Err a) = a
