-- `stream_writer::write_runs` meets its contract. The invariant: storing the stream of what is left of the message gives what storing that
-- of the whole message gives. Assumes nothing.
use mathlib.Core.Path.{◌≡◌}
use Rattle.symbology.specs.Stream.{byte_stream}
use Rattle.pieces.proofs.Pieces.{Left}
use Rattle.stream_writer.proofs.write_runs.Given as goal

abbrev pub invariant-loop-run : goal.invariant-loop-run
invariant-loop-run l =
    (l.run-iterator.size ≡ 8206)
    × Left (byte_stream l.message) (byte_stream l.run-iterator.rest.now) 0 l.initial.out l.at l.out
