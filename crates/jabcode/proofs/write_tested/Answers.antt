-- `jabcode::write_tested` meets its contract. Assumes nothing.
use mathlib.Core.Path.{ap}
use lib.ListN.{length}
use Rattle.std.proofs.lemmas.Result.{err_from_is_err_and}
use Rattle.symbology.specs.Stream.{stream_of}
use Rattle.calls.specs.Refusals.{told}
use Rattle.jabcode.proofs.Calls.{legal_input, write_refused}
use Rattle.jabcode.proofs.write_tested.Goals as goal

pub returns-in_err-s : goal.returns-in_err-s
returns-in_err-s c =
    let a = c.args in
    let p = err_from_is_err_and c.from_residual.result c.from_residual.ensures.1 in
    rw (p.1, p.2)
    (write_refused a.p a.list.now (stream_of a.message.now) a.matrix.now a.work.now c.front_tests.ensures (ap told c.in_err-s.was))

pub write_legal-requires : goal.write_legal-requires
write_legal-requires c =
    let a = c.args in
    legal_input a.p a.list.now (length a.matrix.now) (length a.work.now) c.front_tests.ensures (ap told c.in_ok-s.was)
