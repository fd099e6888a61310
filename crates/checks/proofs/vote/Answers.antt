use Prim.Native.Nat.{◌+◌, ◌≤◌, ◌<◌}
use mathlib.Core.Path.{sym, ◌∙◌}
use native.Mathlib.Omega.{arith}
use Rattle.checks.specs.Votes.{number_of}
use Rattle.checks.proofs.Votes.{voted_in, voted_out, voted_all, voted_row, voted_fits, voted_skip, voted_byte}
use Rattle.checks.proofs.vote.Goals as goal
use Rattle.checks.proofs.vote.Goals.{After-number_at-number, then-bit, else-bit}
use Rattle.checks.proofs.vote.Goals.{then-work-row-ne0+else-loop-j-test, else-work-row-ne0}

-- bit j stands in the check, and its number can be voted on
fits : (c : After-number_at-number)
    → let args = c.args in
    let number = number_of args.a c.loop-j.work c.loop-j.j in
    (args.sub ≤ number + args.add) × (number + args.add < 65536 + args.sub)
fits c =
    let pre = c.requires in
    voted_fits pre.0 pre.1 c.loop-j.invariant pre.2 (omega arith) (sym c.bit.ensures ∙ c.if-bit.true)

pub overflow_sub-number : goal.overflow_sub-number
overflow_sub-number c =
    omega (arith, (fits (goal.at.overflow_sub-number c).After-number_at-number).0, c.number_at-number.ensures.0)

pub put_number-requires : goal.put_number-requires
put_number-requires c =
    let can = fits (goal.at.put_number-requires c).After-number_at-number in
    (omega (arith, c.loop-j.invariant.changed.long, c.requires.0), omega (arith, can.1, c.number_at-number.ensures.0))

pub loop-j-preserved : goal.loop-j-preserved
loop-j-preserved c =
    let pre = c.requires in
    let inv = c.loop-j.invariant in
    let row = voted_row pre.0 pre.1 inv c.loop-j.j (omega arith) in
    let bit = sym row ∙ sym c.bit.ensures in
    elim c.if-bit.branch [
      | then-bit w ↦ voted_in inv (omega (arith, pre.0)) (omega arith) (bit ∙ w.if-bit.true) w.number_at-number.ensures.0
          (w.work-is ∙ w.put_number.ensures)
      | else-bit w ↦ voted_out inv (bit ∙ w.if-bit.false) w.work-is
    ]

pub loop-b-preserved : goal.loop-b-preserved
loop-b-preserved c =
    let pre = c.requires in
    let b = c.loop-b.b in
    elim c.if-work-row-ne0.branch [
      | then-work-row-ne0+else-loop-j-test w ↦ voted_byte b w.loop-j.invariant (omega (arith, w.min-j-end.ensures))
          (omega (arith, w.min-j-end.ensures)) w.work-is
      | else-work-row-ne0 w ↦ voted_skip b pre.0 pre.1 c.loop-b.invariant w.if-work-row-ne0.false w.work-is
    ]

pub returns : goal.returns
returns c =
    voted_all {a = c.args.a} c.loop-b.invariant (omega arith)
