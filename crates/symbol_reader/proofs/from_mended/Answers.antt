-- `symbol_reader::from_mended` meets its contract: what the accepted word gives, and on 0 the places from their area. Assumes nothing.
use mathlib.Core.Path.{refl}
use native.Mathlib.Omega.{arith}
use Rattle.lent.proofs.Work.{repaired_inside, room_laid}
use Rattle.std.proofs.lemmas.Result.{err_from_is_err_and}
use Rattle.calls.specs.Read.{message_in_accepted}
use Rattle.lent.specs.Buffer.{numbers_at}
use Rattle.lent.specs.Work.{word_in}
use Rattle.symbol_reader.proofs.Reading.{stored_places, refused_mended}
use Rattle.symbol_reader.proofs.from_mended.Goals as goal

pub copy_numbers-requires : goal.copy_numbers-requires
copy_numbers-requires c =
    let pre = c.requires in
    (omega (arith, repaired_inside (room_laid pre.0), pre.2), pre.3)

pub returns-in_err-length : goal.returns-in_err-length
returns-in_err-length c =
    let a = c.args in
    let p = err_from_is_err_and c.from_residual.result c.from_residual.ensures.1 in
    let message = message_in_accepted a.s (word_in a.a a.work.now) in
    let places = numbers_at a.work.now a.a.repaired a.mended.repairs in
    rw (p.1, p.2) (λ k. refused_mended k message places c.in_err-length.field-0.0 (c.in_err-length.ensures.told k))

pub returns : goal.returns
returns c =
    let pre = c.requires in
    let a = c.args in
    λ k. record {
      answered = c.in_ok-length.ensures.told k;
      places_are = stored_places pre.0 a.mended.repairs pre.2 c.from_accepted.ensures.kept a.places.now refl c.copy_numbers.ensures;
    }
