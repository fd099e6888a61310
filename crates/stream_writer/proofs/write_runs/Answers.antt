use Prim.Native.Nat.{◌≤◌}
use mathlib.Core.Path.{ap, ◌∙◌}
use native.Mathlib.Omega.{arith}
use lib.ListN.{length, length-append, drop_of_length-le}
use Rattle.symbology.specs.Stream.{byte_run, byte_runs, byte_stream}
use Rattle.pieces.proofs.Pieces.{left_all, left_next, left_none}
use Rattle.stream_writer.proofs.Runs.{stream_next}
use Rattle.stream_writer.proofs.write_runs.Goals as goal

pub loop-run-init : goal.loop-run-init
loop-run-init c =
    let a = c.args in
    rw (c.into_iter-run-iterator.ensures.into_iter_gives, c.chunks-run-items.ensures.rest, c.chunks-run-items.ensures.size)
    (λ i. 8206, left_all (byte_stream a.message.now) 0 a.out.now)

pub write_run-at-requires : goal.write_run-at-requires
write_run-at-requires c =
    let l = c.loop-run in
    let run = c.in-Some.run'.now in
    let more = c.next.new.self.rest.now in
    let h = c.in-Some.ensures.steps in
    let next = stream_next run more l.invariant.0 h.1 in
    (omega arith, omega (arith, l.invariant.1.place, ap length next, length-append (byte_run run) (byte_stream more)))

pub loop-run-preserved : goal.loop-run-preserved
loop-run-preserved c =
    let l = c.loop-run in
    let h = c.in-Some.ensures.steps in
    (h.0 ∙ l.invariant.0, left_next (stream_next _ _ l.invariant.0 h.1) l.invariant.1 c.write_run-at.ensures)

pub returns : goal.returns
unfolding byte_stream byte_runs
returns c =
    let rest = c.loop-run.run-iterator.rest.now in
    let none : length rest ≤ 0 = omega (arith, c.in-None.ensures.steps) in
    left_none (ap byte_stream (drop_of_length-le rest none)) c.loop-run.invariant.1
