-- `symbol_reader::from_received` meets its contract: tests 9 and 16, then the word the rule ends with. Assumes nothing.
use native.Mathlib.Omega.{arith}
use Rattle.calls.specs.declared.Counts.{Counts}
use Rattle.lent.proofs.Work.{room_as}
use Rattle.symbol_reader.proofs.Reading.{repairs_few, stuck_word_lem, short_places_lem, mended_word}
use Rattle.symbol_reader.proofs.from_received.Goals as goal

pub returns-then-mended : goal.returns-then-mended
returns-then-mended c =
    let a = c.args in
    stuck_word_lem c.requires.0 c.mend-mended.ensures a.got a.room a.message.now a.places.now c.if-mended.true
    c.new.ensures

pub returns-then-places-mended : goal.returns-then-places-mended
returns-then-places-mended c =
    let a = c.args in
    short_places_lem c.requires.0 c.mend-mended.ensures a.got a.room a.message.now a.places.now c.if-mended.false
    c.if-places-mended.true c.new-then-places-mended.ensures

pub from_mended-requires : goal.from_mended-requires
from_mended-requires c =
    let a = c.args in
    let m = c.mend-mended.ensures in (
      room_as c.requires.0 m.changed.long,
      m.holds,
      repairs_few c.requires.0 m a.got a.room a.message.now a.places.now,
      omega (arith, c.if-places-mended.false),
    )

pub returns : goal.returns
returns c =
    let a = c.args in
    let m = c.mend-mended.result in
    let counts : Counts = record { repairs = m.repairs; unmet = m.unmet; stuffing = a.got.stuffing } in
    mended_word c.requires.0 c.mend-mended.ensures a.got a.room a.message.now a.places.now
    c.if-mended.false (omega (arith, c.if-places-mended.false)) (rw c.new-2.ensures (c.from_mended.ensures counts))
