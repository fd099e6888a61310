-- `stream_writer::byte_length` meets its contract: the length follows from the number of whole runs and the last run. Assumes nothing.
use Prim.Native.Nat.{ℕ, ◌%◌}
use native.Mathlib.Omega.{arith}
use lib.ListN.{length}
use Rattle.stream_writer.proofs.Lengths.{last_none, last_short, last_long, whole_runs}
use Rattle.stream_writer.proofs.byte_length.Goals as goal
use Rattle.stream_writer.proofs.byte_length.Goals.{in-0, in-1-to-15, in_default}

pub returns : goal.returns
returns c =
    let m = c.args.message.now in
    let r : ℕ = length m % 8206 in
    elim c.match-n-rem8206.branch [
      | in-0 w ↦ omega (arith, whole_runs m, last_none {r = r} (omega arith))
      | in-1-to-15 w ↦ omega (arith, whole_runs m, last_short {r = r} (omega arith) (omega arith))
      | in_default w ↦ omega (arith, whole_runs m, last_long {r = r} (omega arith))
    ]
