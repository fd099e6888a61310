use mathlib.Core.Path.{refl, ap}
use native.Mathlib.Omega.{arith}
use lib.ListN.{drop, length-drop, drop_of_length-le}
use Rattle.symbology.specs.Stream.{byte_bits}
use Rattle.laws.proofs.ByteMode.{length_bytes}
use Rattle.pieces.proofs.Pieces.{left_next, left_none}
use Rattle.stream_writer.proofs.Runs.{field, bytes_next}
use Rattle.stream_writer.proofs.write_bytes.Goals as goal

pub put_bits-requires : goal.put_bits-requires
put_bits-requires c =
    let m = c.args.bytes.now in
    let i = c.loop-byte.byte-index in
    omega (arith, length_bytes m, length_bytes (drop i m), length-drop i m)

pub overflow_add-next : goal.overflow_add-next
overflow_add-next c =
    let m = c.args.bytes.now in
    let i = c.loop-byte.byte-index in
    omega (arith, length_bytes m, length_bytes (drop i m), length-drop i m)

pub loop-byte-preserved : goal.loop-byte-preserved
loop-byte-preserved c =
    let l = c.loop-byte in
    let next = bytes_next c.args.bytes.now l.byte-index c.loop-byte-test.true in
    left_next next l.invariant (field 8 _ refl (rw c.from.ensures at c.put_bits.ensures))

pub returns : goal.returns
unfolding byte_bits
returns c = left_none (ap byte_bits (drop_of_length-le c.args.bytes.now c.loop-byte-test.false)) c.loop-byte.invariant
