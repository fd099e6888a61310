use Prim.Native.Nat.{ℕ}
use mathlib.Core.Path.{sym, ◌∙◌}
use native.Mathlib.Omega.{arith}
use Rattle.bitfield.proofs.Digits.{bits_next, bits_none}
use Rattle.bitfield.proofs.put_bits.Goals as goal

pub loop-i-preserved : goal.loop-i-preserved
loop-i-preserved c =
    let l = c.loop-i in
    let at : ℕ = c.args.at in
    sym (bits_next l.out at l.i l.rest c.loop-i-test.true) ∙ l.invariant

pub returns : goal.returns
returns c =
    let l = c.loop-i in
    let at : ℕ = c.args.at in
    sym (bits_none l.out at l.i l.rest (omega arith)) ∙ l.invariant
