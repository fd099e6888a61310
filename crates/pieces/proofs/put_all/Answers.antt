use Prim.Native.Nat.{◌+◌}
use mathlib.Core.Path.{sym, ap, ◌∙◌}
use native.Mathlib.Numerals.{add-one}
use native.Mathlib.Omega.{arith}
use lib.ListN.{get_or}
use lib.Seq.{take-suc, length-take-le, sets}
use Rattle.pieces.proofs.Pieces.{stored_byte, joined}
use Rattle.pieces.proofs.put_all.Goals as goal

pub loop-i-preserved : goal.loop-i-preserved
loop-i-preserved c =
    let a = c.args in
    let bytes = a.bytes.now in
    let i = c.loop-i.i in
    let more = joined c.loop-i.invariant (stored_byte (a.at + i) (get_or bytes i 0) c.put.ensures) in
    record {
      place = omega (arith, length-take-le (i + 1) bytes (omega arith));
      stored = rw (add-one i) (more.stored ∙ ap (sets a.out.now a.at) (sym (take-suc bytes i 0 c.loop-i-test.true)));
    }
