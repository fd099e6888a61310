-- `stream_writer::exceeds_net` meets its contract: a stream has no fewer bits than its message has bytes. Assumes nothing.
use Prim.Native.Nat.{suc}
use mathlib.Core.Path.{sym, ◌∙◌}
use native.Mathlib.Omega.{arith}
use lib.ListN.{length}
use borrow.Author.Tests.{lt-ltb}
use Rattle.symbology.specs.Stream.{stream_of}
use Rattle.stream_writer.proofs.Lengths.{chosen_bounds}
use Rattle.stream_writer.proofs.exceeds_net.Goals as goal

pub returns-then-net-message : goal.returns-then-net-message
returns-then-net-message c =
    let a = c.args in
    let m = a.message.now in
    lt-ltb a.net (length m) c.if-net-message.true
    ∙ sym (lt-ltb a.net (suc (length (stream_of m))) (omega (arith, chosen_bounds m)))
