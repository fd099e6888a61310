-- What stands for a refusal in the code, and what is told of it: document 01, "Numbers returned", with 16 (document 02, W-205).
-- Assumes nothing.
use Rattle.std.specs.Prelude.{ℕ, Result, Ok, Err}
use Rattle.symbology.specs.declared.Sizes.{Sizes}
use Rattle.calls.specs.declared.Answer.{Answer}
use Rattle.calls.specs.declared.Counts.{Counts}
use Rattle.calls.specs.declared.ReadAnswer.{ReadAnswer}
use Rattle.calls.specs.declared.SizesAnswer.{SizesAnswer}
use Rattle.calls.specs.declared.Refusal.{Refusal}
use Rattle.calls.specs.declared.Refusal.TheVariants.{OutOfRange, BadList, BadCapacity, OtherMatrix, ShortWork, NoRoom, BadModule}
use Rattle.calls.specs.declared.Refusal.TheVariants.{StuckWord, ShortPlaces, SpareOne, NoEndMark, BadCode, EciOrFnc1, Overfull}
use Rattle.calls.specs.Answers.{StreamAnswer, answer, no_sizes, the_sizes, stream_refused, stream_done, counted, done}

-- document 01's number for each refusal
abbrev pub refusal_number : Refusal → ℕ
refusal_number OutOfRange = 1
refusal_number (BadList place) = 2
refusal_number BadCapacity = 3
refusal_number OtherMatrix = 4
refusal_number ShortWork = 5
refusal_number NoRoom = 6
refusal_number (BadModule place) = 7
refusal_number StuckWord = 9
refusal_number ShortPlaces = 16
refusal_number SpareOne = 10
refusal_number NoEndMark = 11
refusal_number BadCode = 12
refusal_number EciOrFnc1 = 13
refusal_number Overfull = 14

-- document 01's place for each
abbrev pub refusal_place : Refusal → ℕ
refusal_place OutOfRange = 0
refusal_place (BadList place) = place
refusal_place BadCapacity = 0
refusal_place OtherMatrix = 0
refusal_place ShortWork = 0
refusal_place NoRoom = 0
refusal_place (BadModule place) = place
refusal_place StuckWord = 0
refusal_place ShortPlaces = 0
refusal_place SpareOne = 0
refusal_place NoEndMark = 0
refusal_place BadCode = 0
refusal_place EciOrFnc1 = 0
refusal_place Overfull = 0

-- a result whose refusal is told by its number and place
abbrev pub told : {A : Type 0} → Result A Refusal → Result A Answer
told (Ok x) = Ok x
told (Err r) = Err (answer (refusal_number r) (refusal_place r))

-- number and place of a result: 0 and 0 where it is no refusal
abbrev pub answer_of : {A : Type 0} → Result A Refusal → Answer
answer_of (Ok x) = answer 0 0
answer_of (Err r) = answer (refusal_number r) (refusal_place r)

-- the answer of `sizes` for a result
abbrev pub sizes_told : Result Sizes Refusal → SizesAnswer
sizes_told (Ok s) = the_sizes s
sizes_told (Err r) = no_sizes (refusal_number r) (refusal_place r)

-- number and length for the result of a stream
abbrev pub stream_told : Result ℕ Refusal → StreamAnswer
stream_told (Ok n) = stream_done n
stream_told (Err r) = stream_refused (refusal_number r) (refusal_place r)

-- the answer of a read with these counts for a result
abbrev pub read_told : Counts → Result ℕ Refusal → ReadAnswer
read_told c (Ok n) = done c n
read_told c (Err r) = counted c (refusal_number r) (refusal_place r)
