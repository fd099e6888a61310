-- `jabcode_c::jab_write` meets its contract. Assumes nothing.
use Rattle.jabcode_c.proofs.Calls.{writes_for}
use Rattle.jabcode_c.proofs.jab_write.Goals as goal

pub returns : goal.returns
returns c =
    let a = c.args in
    record {
      writes =
          writes_for a.params.now a.reserved.now a.message.now a.matrix.now a.work.now c.params_of.ensures c.write-a.ensures.writes;
    }
