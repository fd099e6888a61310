use mathlib.Core.Path.{sym, ◌∙◌}
use Rattle.std.proofs.Common.{rules}
use Rattle.pieces.proofs.Pieces.{same_piece}
use Rattle.stream_reader.proofs.Reading.{Coded, stands_first, stands_short, stands_next, stands_stop}
use Rattle.stream_reader.proofs.read_stream.Goals as goal
use Rattle.stream_reader.proofs.read_stream.Goals.{After-slice_known-in-loop-mode-1}

-- the code that a turn has read
coded : (c : After-slice_known-in-loop-mode-1)
    → let p = c.put_all-count in
    let v = c.bits_value-v in
    let l = c.loop-mode in
    let stream = c.args.stream.now in
    Coded stream l.out l.mode l.expected l.at l.count
    c.code_width-width.result v.result p.new.out p.result
coded c =
    record {
      width = c.code_width-width.ensures;
      whole = c.if-left-width.false;
      number = c.bits_value-v.ensures;
      piece = same_piece (c.as_slice.ensures ∙ c.bytes_of-bytes.ensures.bytes) c.put_all-count.ensures;
    }

pub loop-mode-init : goal.loop-mode-init
loop-mode-init c =
    let a = c.args in
    stands_first a.stream.now a.out.now

pub returns-then-left-width : goal.returns-then-left-width
returns-then-left-width c =
    let l = c.loop-mode in
    stands_short l.invariant c.code_width-width.ensures c.if-left-width.true c.end_of_stream-end.ensures

pub returns-in_default : goal.returns-in_default
returns-in_default c =
    let switch_of = c.switch_of-answer in
    let stop =
    stands_stop c.loop-mode.invariant
    (coded (goal.at.returns-in_default c).After-slice_known-in-loop-mode-1) switch_of.result switch_of.ensures
    c.in_default.not-Next c.end_by_code-end.ensures in
    search (rules, stop)

pub loop-mode-preserved : goal.loop-mode-preserved
loop-mode-preserved c =
    let switch_of = c.switch_of-answer in
    let next =
    stands_next c.loop-mode.invariant (coded (goal.at.loop-mode-preserved c).After-slice_known-in-loop-mode-1) c.in-Next.next c.in-Next.owed
    (sym switch_of.ensures ∙ c.in-Next.is) in
    search (rules, next)
