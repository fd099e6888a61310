-- `stream_writer::write_run` meets its contract: its pieces are stored one behind the other. Assumes nothing.
use mathlib.Core.Path.{refl}
use Rattle.pieces.proofs.Pieces.{joined, same_piece}
use Rattle.stream_writer.proofs.Runs.{field, run_pieces}
use Rattle.stream_writer.proofs.write_run.Goals as goal

pub returns : goal.returns
returns c =
    let write_bytes = c.write_bytes in
    let m = c.args.bytes.now in
    let head = joined (field 7 124 refl c.put_bits.ensures) c.write_count-next.ensures in
    same_piece (run_pieces m) (joined head write_bytes.ensures)
