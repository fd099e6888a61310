-- `jabcode::read` meets its contract, demand 3 among what it promises. Assumes nothing.
use mathlib.Core.Path.{ap}
use lib.ListN.{length}
use Rattle.calls.specs.Refusals.{told}
use Rattle.jabcode.proofs.Calls.{legal_input, read_refused}
use Rattle.jabcode.proofs.read.Goals as goal

pub read_legal-requires : goal.read_legal-requires
read_legal-requires c =
    let a = c.args in
    legal_input a.p a.list.now (length a.matrix.now) (length a.work.now) c.front_tests.ensures (ap told c.in-Ok.is)

pub returns-in-Err : goal.returns-in-Err
returns-in-Err c =
    let a = c.args in
    record {
      reads = read_refused a.p a.list.now a.matrix.now a.work.now a.message.now a.places.now c.front_tests.ensures
          (ap told c.in-Err.is) c.from.ensures;
    }
