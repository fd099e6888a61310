use mathlib.Core.Path.{sym, ◌∙◌}
use native.Mathlib.Omega.{arith}
use Rattle.symbol_reader.proofs.Stuffing.{wrong_none, wrong_most, wrong_next, right_next, wrong_all}
use Rattle.symbol_reader.proofs.wrong_stuffing.Goals as goal
use Rattle.symbol_reader.proofs.wrong_stuffing.Goals.{else-from-i, then-from-i}

pub loop-i-init : goal.loop-i-init
loop-i-init c = (wrong_none c.args.bits.now, omega arith)

pub overflow_add-wrong : goal.overflow_add-wrong
overflow_add-wrong c =
    let bits = c.args.bits.now in
    omega (arith, wrong_most bits c.loop-i.wrong c.loop-i.i c.loop-i.invariant.0)

pub loop-i-preserved : goal.loop-i-preserved
loop-i-preserved c =
    let bits = c.args.bits.now in
    let n = c.loop-i.wrong in
    let i = c.loop-i.i in
    let so_far = c.loop-i.invariant.0 in (
      elim c.if-from-i.branch [
        | then-from-i w ↦ rw w.wrong-is (wrong_next bits n i so_far (λ z. w.if-from-i.true (c.from.ensures ∙ z)))
        | else-from-i w ↦ rw w.wrong-is (right_next bits n i so_far (sym c.from.ensures ∙ w.if-from-i.false))
      ],
      omega arith,
    )

pub returns : goal.returns
returns c =
    let inv = c.loop-i.invariant in
    wrong_all c.args.bits.now c.loop-i.wrong c.loop-i.i inv.0 (omega (arith, inv.1))
