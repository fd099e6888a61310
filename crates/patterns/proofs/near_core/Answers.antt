use mathlib.Core.Path.{◌∙◌, sym}
use native.Mathlib.Omega.{arith}
use Rattle.patterns.proofs.Nearness.{near_found, near_next, near_none}
use Rattle.patterns.proofs.near_core.Goals as goal

pub returns-then-is_near : goal.returns-then-is_near
returns-then-is_near c =
    let test = sym c.is_near.ensures ∙ c.if-is_near.true in
    sym (c.loop-i.invariant ∙ near_found c.args.cores.now c.args.x c.loop-i.i c.from-core.result (omega arith) c.from-core.ensures test)

pub loop-i-preserved : goal.loop-i-preserved
loop-i-preserved c =
    let test = sym c.is_near.ensures ∙ c.if-is_near.false in
    c.loop-i.invariant ∙ near_next c.args.cores.now c.args.x c.loop-i.i c.from-core.result (omega arith) c.from-core.ensures test

pub returns : goal.returns
returns c = sym (c.loop-i.invariant ∙ near_none c.args.cores.now c.args.x c.loop-i.i c.loop-i-test.false)
