use Prim.Native.Nat.{ℕ, ◌+◌, ◌<◌}
use mathlib.Core.Path.{◌≡◌, subst, subst⁻¹}
use mathlib.Core.List.{List}
use native.Mathlib.Omega.{arith}
use Rattle.symbology.specs.Rule.{unmet_count}
use Rattle.symbology.specs.Steps.{LowestSuspect, Ended}
use Rattle.lent.specs.Work.{word_in}
use Rattle.lent.proofs.Buffer.{length_part}
use Rattle.lent.proofs.Work.{word_inside}
use Rattle.checks.specs.Checks.{checks_in}
use Rattle.mending.specs.Mending.{BitTurned, Stepped, RuleRun}
use Rattle.mending.proofs.Run.{MendedTo, mended_start, place_room, mended_next, mended_all}
use Rattle.mending.proofs.run_rule.Goals as goal
use Rattle.mending.proofs.run_rule.Goals.{After-put_number, In-Some, In_default}

pub loop-j-init : goal.loop-j-init
loop-j-init c =
    mended_start c.requires

-- ---- a step that turned a bit
turned : (c : In-Some)
    → let a = c.args.a in
    let j = c.in-Some.j in
    LowestSuspect (checks_in a c.loop-j.work) (word_in a c.loop-j.work) j
    × BitTurned a j c.loop-j.work c.take_step.new.work
turned c =
    subst (Stepped c.args.a c.loop-j.work c.take_step.new.work) c.in-Some.is
    c.take_step.ensures

inside : (c : In-Some) → c.in-Some.j < 4096
inside c =
    let a = c.args.a in
    let laid = c.loop-j.invariant.laid in
    omega (arith, (turned c).0.inside, length_part c.loop-j.work a.word a.gross (word_inside laid), laid.few)

-- its place has room in the list
room : (c : In-Some)
    → c.loop-j.repairs < c.args.a.checks
room c =
    place_room c.loop-j.invariant (turned c).0 (turned c).1

-- which is stored
next : (c : After-put_number)
    → let a = c.args.a in
    MendedTo a c.args.work.now c.put_number.new.xs (c.loop-j.repairs + 1)
    × (unmet_count (checks_in a c.args.work.now) (word_in a c.put_number.new.xs)
    < unmet_count (checks_in a c.args.work.now) (word_in a c.loop-j.work))
next c =
    mended_next c.loop-j.invariant (turned (goal.at.After-put_number c).In-Some).0
    (turned (goal.at.After-put_number c).In-Some).1 c.put_number.ensures

pub overflow_mul-repairs : goal.overflow_mul-repairs
overflow_mul-repairs c =
    let laid = c.loop-j.invariant.laid in
    omega (arith, room (goal.at.overflow_mul-repairs c).In-Some, laid.few, laid.parts)

pub overflow_add-a : goal.overflow_add-a
overflow_add-a c =
    omega (arith, room (goal.at.overflow_add-a c).In-Some, c.loop-j.invariant.laid.repaired_end)

pub put_number-requires : goal.put_number-requires
put_number-requires c =
    let laid = c.loop-j.invariant.laid in (
      omega (
        arith,
        room (goal.at.put_number-requires c).In-Some,
        laid.repaired_end,
        (turned (goal.at.put_number-requires c).In-Some).1.changed.long,
      ),
      omega (arith, inside (goal.at.put_number-requires c).In-Some),
    )

pub overflow_add-repairs : goal.overflow_add-repairs
overflow_add-repairs c =
    let laid = c.loop-j.invariant.laid in
    omega (arith, room (goal.at.overflow_add-repairs c).In-Some, laid.few, laid.parts)

pub loop-j-smaller : goal.loop-j-smaller
loop-j-smaller c = (next (goal.at.loop-j-smaller c).After-put_number).1

pub loop-j-preserved : goal.loop-j-preserved
loop-j-preserved c = (next (goal.at.loop-j-preserved c).After-put_number).0

-- ---- a step that found the rule's end
over : (c : In_default)
    → let a = c.args.a in
    Ended (checks_in a c.loop-j.work) (word_in a c.loop-j.work) × (c.take_step.new.work ≡ c.loop-j.work)
over c =
    subst (Stepped c.args.a c.loop-j.work c.take_step.new.work) c.in_default.is
    c.take_step.ensures

pub returns : goal.returns
returns c =
    subst⁻¹ (λ (w : List ℕ). RuleRun c.args.a c.args.work.now w c.loop-j.repairs) (over c).1
    (mended_all c.loop-j.invariant (over c).0)
