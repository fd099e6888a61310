use mathlib.Core.Path.{◌∙◌}
use native.Mathlib.Omega.{arith}
use Rattle.codeword.proofs.Rows.{none_message, some_check}
use Rattle.codeword.proofs.Placing.{placed_start, placed_net, placed_spare, placed_check}
use Rattle.codeword.proofs.place_message.Goals as goal
use Rattle.codeword.proofs.place_message.Goals.{else-is_none, then-is_none, then-m-a, else-m-a}

pub loop-j-init : goal.loop-j-init
loop-j-init c = (omega arith, placed_start c.args.a c.args.work.now)

pub loop-j-preserved : goal.loop-j-preserved
loop-j-preserved c =
    let pre = c.requires in
    let s = c.loop-j.invariant.1 in
    let next = c.if-is_none in
    let r = c.pivot_row in
    let e = c.is_none.ensures in
    elim next.branch [
      | then-is_none w ↦ let t = none_message c.args.a c.loop-j.work c.loop-j.j r.result r.ensures e w.if-is_none.true in (
        omega (arith, w.m-is),
        elim w.if-m-a.branch [
          | then-m-a has ↦ placed_net pre s (omega arith) t has.if-m-a.true next.m next.v w.m-is (w.v-is ∙ has.v-is)
          | else-m-a none ↦ placed_spare pre s (omega arith) t none.if-m-a.false next.m next.v w.m-is (w.v-is ∙ none.v-is)
        ],
      )
      | else-is_none w ↦ let t = some_check c.args.a c.loop-j.work c.loop-j.j r.result r.ensures e w.if-is_none.false in (
        omega (arith, w.m-is, c.loop-j.invariant.0),
        placed_check pre s (omega arith) t next.m next.v w.m-is w.v-is,
      )
    ]
