-- `jabcode::write_and_read` meets its contract, demand 2's round trip among what it promises. Assumes nothing.
use mathlib.Core.Path.{refl}
use Rattle.std.proofs.Common.{rules}
use Rattle.call_laws.proofs.Refusals.{numbered}
use Rattle.jabcode.proofs.RoundTrip.{not_written, then_read}
use Rattle.jabcode.proofs.write_and_read.Goals as goal

pub returns-in-Err : goal.returns-in-Err
returns-in-Err c =
    let a = c.args in
    record {
      writes_then_reads = not_written a.p a.list.now a.message.now a.matrix.now a.work.now a.back.now c.in-Err.ensures
          (numbered c.in-Err.refusal) c.from.ensures;
    }

pub returns : goal.returns
returns c =
    let a = c.args in
    record {
      writes_then_reads = then_read a.p a.list.now a.message.now a.matrix.now a.work.now a.back.now c.in_default.ensures
          (λ i. search rules) refl c.read.ensures.reads;
    }
