-- `stream_writer::write_count` meets its contract: the count is one field of bits or two. Assumes nothing.
use Prim.Native.Nat.{◌-◌}
use mathlib.Core.Path.{refl, sym}
use native.Mathlib.Omega.{arith}
use Rattle.laws.proofs.ByteMode.{count_short, count_long}
use Rattle.pieces.proofs.Pieces.{joined, same_piece}
use Rattle.stream_writer.proofs.Runs.{field}
use Rattle.stream_writer.proofs.write_count.Goals as goal

pub returns-then-n-lt16 : goal.returns-then-n-lt16
returns-then-n-lt16 c =
    let put_bits = c.put_bits in
    let n = c.args.n in
    same_piece (sym (count_short n c.if-n-lt16.true)) (field 4 n refl put_bits.ensures)

pub returns : goal.returns
returns c =
    let put_bits3 = c.put_bits-3 in
    let n = c.args.n in
    same_piece (sym (count_long n c.if-n-lt16.false))
    (joined (field 4 0 refl c.put_bits-2.ensures) (field 13 (n - 15) (omega arith) put_bits3.ensures))
