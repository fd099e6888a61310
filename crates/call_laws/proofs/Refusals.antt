-- The numbers and places of refusals.
-- Assumes nothing.
use Prim.Native.Nat.{◌<◌}
use mathlib.Core.Path.{◌≡◌, refl}
use native.Mathlib.Omega.{arith}
use Rattle.calls.specs.declared.Refusal.{Refusal}
use Rattle.calls.specs.declared.Refusal.TheVariants.{OutOfRange, BadList, BadCapacity, OtherMatrix, ShortWork, NoRoom, BadModule}
use Rattle.calls.specs.declared.Refusal.TheVariants.{StuckWord, ShortPlaces, SpareOne, NoEndMark, BadCode, EciOrFnc1, Overfull}
use Rattle.calls.specs.Refusals.{refusal_number, refusal_place}

-- none has the number 0
pub numbered : (r : Refusal) → refusal_number r ≡ 0 → ⊥
numbered OutOfRange z = omega arith
numbered (BadList place) z = omega arith
numbered BadCapacity z = omega arith
numbered OtherMatrix z = omega arith
numbered ShortWork z = omega arith
numbered NoRoom z = omega arith
numbered (BadModule place) z = omega arith
numbered StuckWord z = omega arith
numbered ShortPlaces z = omega arith
numbered SpareOne z = omega arith
numbered NoEndMark z = omega arith
numbered BadCode z = omega arith
numbered EciOrFnc1 z = omega arith
numbered Overfull z = omega arith

-- those behind the test 7 have no place
pub unplaced : (r : Refusal) → 7 < refusal_number r → refusal_place r ≡ 0
unplaced OutOfRange h = refl
unplaced (BadList place) h = absurd (omega arith)
unplaced BadCapacity h = refl
unplaced OtherMatrix h = refl
unplaced ShortWork h = refl
unplaced NoRoom h = refl
unplaced (BadModule place) h = absurd (omega arith)
unplaced StuckWord h = refl
unplaced ShortPlaces h = refl
unplaced SpareOne h = refl
unplaced NoEndMark h = refl
unplaced BadCode h = refl
unplaced EciOrFnc1 h = refl
unplaced Overfull h = refl
