use mathlib.Core.Path.{sym, ◌∙◌}
use native.Mathlib.Omega.{arith}
use Rattle.elimination.proofs.Cleared.{cleared_start, cleared_skip, cleared_add, cleared_all}
use Rattle.elimination.proofs.clear_column.Goals as goal
use Rattle.elimination.proofs.clear_column.Goals.{else-is_free, then-is_free}

pub loop-i-init : goal.loop-i-init
loop-i-init c = cleared_start c.args.a c.args.pivot c.args.j c.args.work.now

pub loop-i-preserved : goal.loop-i-preserved
loop-i-preserved c =
    let pre = c.requires in
    let r = c.loop-i.invariant in
    elim c.if-is_free.branch [
      | then-is_free w ↦
          rw w.work-is (cleared_add pre.0 r pre.2 pre.3 (omega arith) (sym c.is_free.ensures ∙ w.if-is_free.true) w.add_row.ensures)
      | else-is_free w ↦ rw w.work-is (cleared_skip pre.0 r pre.2 (sym c.is_free.ensures ∙ w.if-is_free.false))
    ]

pub returns : goal.returns
returns c = cleared_all (omega arith) c.loop-i.invariant
