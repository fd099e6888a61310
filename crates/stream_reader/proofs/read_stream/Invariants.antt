-- `stream_reader::read_stream` meets its contract. The invariant: the bytes read so far are stored, and the reading of the whole stream
-- goes on from bit `at` in this mode with this expected code. What falls: the bits not read yet. Assumes nothing.
use Prim.Native.Nat.{◌-◌}
use lib.ListN.{length}
use Rattle.stream_reader.proofs.Reading.{Stands}
use Rattle.stream_reader.proofs.read_stream.Given as goal

abbrev pub invariant-loop-mode : goal.invariant-loop-mode
invariant-loop-mode l = Stands l.stream l.initial.out l.mode l.expected l.at l.count l.out

abbrev pub decreases-loop-mode : goal.decreases-loop-mode
decreases-loop-mode l = length l.stream - l.at
