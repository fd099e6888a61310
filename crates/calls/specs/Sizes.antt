-- The call `sizes`: what a caller needs to know of a symbol before it is written or read, or the refusal 1, 2 or 3.
-- Assumes nothing.
use Rattle.std.specs.Prelude.{ℕ, List}
use Rattle.symbology.specs.declared.Params.{Params}
use Rattle.symbology.specs.Capacity.{sizes_for}
use Rattle.calls.specs.declared.SizesAnswer.{SizesAnswer}
use Rattle.calls.specs.Answers.{no_sizes, the_sizes}
use Rattle.calls.specs.Tests.{first_of, size_rows}

-- the answer of `sizes`
unfoldable pub sizes_answer : Params → List ℕ → SizesAnswer
sizes_answer p l = first_of no_sizes (size_rows p l) (the_sizes (sizes_for p l))
