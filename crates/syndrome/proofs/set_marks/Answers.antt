use native.Mathlib.Omega.{arith}
use Rattle.lent.proofs.Work.{laid_as}
use Rattle.checks.proofs.Checks.{staged_kept}
use Rattle.syndrome.proofs.Marks.{marked_next, marked_all}
use Rattle.syndrome.proofs.set_marks.Goals as goal

pub unmet_of-requires : goal.unmet_of-requires
unmet_of-requires c =
    let pre = c.requires in
    let changed = c.loop-i.invariant.changed in
    (laid_as pre.0 changed.long, omega arith, staged_kept pre.0 changed pre.1)

pub loop-i-preserved : goal.loop-i-preserved
loop-i-preserved c =
    marked_next c.requires.0 c.loop-i.invariant (omega arith) c.unmet_of.ensures

pub returns : goal.returns
returns c =
    marked_all c.requires.0 c.loop-i.invariant (omega arith)
