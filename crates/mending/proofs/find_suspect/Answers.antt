use Prim.Native.Nat.{◌≤◌}
use mathlib.Core.Path.{◌≡◌}
use native.Mathlib.Omega.{arith}
use Rattle.std.proofs.Common.{None, below_more}
use Rattle.symbology.specs.Rule.{unmet_at, met_at}
use Rattle.lent.specs.Work.{word_in}
use Rattle.lent.proofs.Buffer.{length_part}
use Rattle.checks.specs.Checks.{checks_in}
use Rattle.syndrome.proofs.Marks.{mark_bits}
use Rattle.mending.proofs.Counts.{passed_start, passed_next, passed_counts, balance_unsuspected}
use Rattle.mending.proofs.find_suspect.Goals as goal
use Rattle.mending.proofs.find_suspect.Goals.{then-a-number_at+in_default+else-met-unmet, else-a-number_at}
use Rattle.mending.proofs.find_suspect.Goals.{then-work-a-eq1, else-work-a-eq1}

pub loop-i-init : goal.loop-i-init
loop-i-init c = (c.bits.invariant.0, passed_start c.args.a c.args.work.now c.bits.j)

pub loop-i-preserved : goal.loop-i-preserved
loop-i-preserved c =
    let passed = c.loop-i.invariant.1 in
    let n = c.in-Some.ensures.first in
    let mark = mark_bits c.args.a c.args.work.now c.requires.1 c.in-Some.i n.inside in (
      c.loop-i.invariant.0,
      elim c.if-work-a-eq1.branch [
        | then-work-a-eq1 w ↦ passed_next passed n mark (omega (arith, w.if-work-a-eq1.true, w.unmet-is))
            (omega (arith, w.if-work-a-eq1.true, w.met-is))
        | else-work-a-eq1 w ↦ passed_next passed n mark (omega (arith, mark, w.if-work-a-eq1.false, w.unmet-is))
            (omega (arith, mark, w.if-work-a-eq1.false, w.met-is))
      ],
    )

pub bits-preserved : goal.bits-preserved
bits-preserved c =
    let a = c.args.a in
    let work = c.args.work.now in
    let j = c.bits.j in
    let marked = c.requires.1 in
    let cs = checks_in a work in
    let bits = word_in a work in
    let not_here : (c.if-a-number_at.found ≡ None) × (unmet_at cs bits j ≤ met_at cs bits j) =
    elim c.if-a-number_at.branch [
      | then-a-number_at+in_default+else-met-unmet w ↦ (
        rw w.found-is w.loop-i.invariant.0,
        omega (arith, passed_counts a work marked j (omega arith) w.loop-i.invariant.1 w.in_default.ensures.first, w.if-met-unmet.false),
      )
      | else-a-number_at w ↦ (
        rw w.found-is c.bits.invariant.0,
        balance_unsuspected a work marked j (omega arith) c.requires.2 (omega (arith, w.if-a-number_at.false, c.number_at.ensures.0)),
      )
    ] in
    (not_here.0, below_more _ _ c.bits.invariant.1 not_here.1)

pub returns-then-met-unmet : goal.returns-then-met-unmet
returns-then-met-unmet c =
    let a = c.args.a in
    let work = c.args.work.now in
    let counts = passed_counts a work c.requires.1 c.bits.j (omega arith) c.loop-i.invariant.1 c.in_default.ensures.first in
    record {
      inside = omega (arith, length_part work a.word a.gross (omega (arith, c.requires.0)));
      suspected = omega (arith, counts);
      none_below = c.bits.invariant.1;
    }
