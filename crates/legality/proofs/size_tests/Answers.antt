-- `legality::size_tests` meets its contract: each test after those before it. Assumes nothing.
use mathlib.Core.Path.{◌≡◌, sym, ap, ◌∙◌}
use mathlib.Core.Bool.{true, not}
use Rattle.std.specs.Prelude.{Ok}
use Rattle.symbology.specs.Parameters.{in_range}
use Rattle.symbology.specs.Reserved.{list_verdict}
use Rattle.capacity.proofs.Groups.{refused, passed}
use Rattle.legality.proofs.Refusals.{out_of_range_lem, faulty, too_small, too_large, none_holds}
use Rattle.legality.proofs.size_tests.Goals as goal
use Rattle.legality.proofs.size_tests.Goals.{Else-not-in_range, In_default, then-s-via-then-s, then-s-via-else-s+then-s-gt4096}

-- test 1 is passed
ranged : (c : Else-not-in_range) → in_range c.args.p ≡ true
ranged c = passed c.in_range.ensures (ap not c.if-not-in_range.false)

-- test 2 is passed
judged : (c : In_default)
    → let a = c.args in
    list_verdict a.p a.list.now ≡ Ok tt
judged c = sym c.judge_list.ensures ∙ c.in_default.is

pub returns-then-not-in_range : goal.returns-then-not-in_range
returns-then-not-in_range c =
    let a = c.args in
    sym (out_of_range_lem a.p a.list.now (refused c.in_range.ensures (ap not c.if-not-in_range.true)))

pub returns-in-Err : goal.returns-in-Err
returns-in-Err c =
    let a = c.args in
    sym (faulty a.p a.list.now (ranged (goal.at.returns-in-Err c).Else-not-in_range) c.in-Err.place
    (sym c.judge_list.ensures ∙ c.in-Err.is))

pub sizes_of-s-requires : goal.sizes_of-s-requires
sizes_of-s-requires c =
    ranged (goal.at.sizes_of-s-requires c).Else-not-in_range

pub returns-then-s : goal.returns-then-s
returns-then-s c =
    let a = c.args in
    let s = c.sizes_of-s in
    let range = ranged (goal.at.returns-then-s c).Else-not-in_range in
    let sound = judged (goal.at.returns-then-s c).In_default in
    elim c.then-s.branch [
      | then-s-via-then-s w ↦ sym (too_small a.p a.list.now range sound s.result s.ensures w.if-s.true)
      | then-s-via-else-s+then-s-gt4096 w ↦ sym (too_large a.p a.list.now range sound s.result s.ensures w.if-s-gt4096.true)
    ]

pub returns : goal.returns
returns c =
    let a = c.args in
    let s = c.sizes_of-s in
    sym (none_holds a.p a.list.now (ranged (goal.at.returns c).Else-not-in_range) (judged (goal.at.returns c).In_default) s.result s.ensures
    c.if-s.false c.if-s-gt4096.false)
