-- `stream_writer::write_bytes` meets its contract. The invariant: storing the bits of the bytes from this one on gives what storing
-- those of all bytes gives. Assumes nothing.
use lib.ListN.{drop}
use Rattle.symbology.specs.Stream.{byte_bits}
use Rattle.pieces.proofs.Pieces.{Left}
use Rattle.stream_writer.proofs.write_bytes.Given as goal

abbrev pub invariant-loop-byte : goal.invariant-loop-byte
invariant-loop-byte l = Left (byte_bits l.bytes) (byte_bits (drop l.byte-index l.bytes)) l.initial.next l.initial.out l.next l.out
