-- `jabcode_c::jab_read` meets its contract. Assumes nothing.
use Rattle.jabcode_c.proofs.Calls.{reads_for}
use Rattle.jabcode_c.proofs.jab_read.Goals as goal

pub returns : goal.returns
returns c =
    let a = c.args in
    record {
      reads =
          reads_for a.params.now a.reserved.now a.matrix.now a.work.now a.message.now a.places.now c.params_of.ensures
          c.read-a.ensures.reads;
    }
