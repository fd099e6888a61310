-- `mending::mend` meets its contract: the checks are judged, the bits weighed where one is unmet, and the rule is run. Assumes nothing.
use Rattle.lent.proofs.Work.{laid_as}
use Rattle.syndrome.proofs.Marks.{mark_bits}
use Rattle.mending.proofs.Run.{Ready, ready, ready_bits, mended_run, mended_none}
use Rattle.mending.proofs.mend.Goals as goal
use Rattle.mending.proofs.mend.Goals.{After-weigh}

pub returns-then-first-eq0 : goal.returns-then-first-eq0
returns-then-first-eq0 c =
    mended_none c.requires.0 c.judge-first.ensures c.if-first-eq0.true

pub weigh-requires : goal.weigh-requires
weigh-requires c =
    let marked = c.judge-first.ensures.marked in
    (laid_as c.requires.0 c.judge-first.ensures.changed.long, mark_bits c.args.a c.judge-first.new.work marked)

-- marks and balances are made
made : (c : After-weigh)
    → let args = c.args in
    Ready args.a args.work.now c.weigh.new.work c.judge-first.result
made c =
    ready c.requires.0 c.judge-first.ensures c.weigh.ensures

pub run_rule-repairs-requires : goal.run_rule-repairs-requires
run_rule-repairs-requires c =
    let pre = c.requires in
    ready_bits pre.0 (made (goal.at.run_rule-repairs-requires c).After-weigh) pre.1

pub returns : goal.returns
returns c =
    let pre = c.requires in
    mended_run pre.0 pre.1 (made (goal.at.returns c).After-weigh) c.run_rule-repairs.ensures c.count_unmet-left.ensures
