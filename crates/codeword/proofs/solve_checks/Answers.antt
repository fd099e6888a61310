use Prim.Native.Nat.{ℕ, ◌*◌}
use mathlib.Core.Path.{ap, ◌∙◌}
use native.Mathlib.Omega.{arith}
use Rattle.symbology.specs.Ranges.{tally}
use Rattle.symbology.specs.Matrix.{BitMatrix}
use Rattle.laws.specs.Gf2.{dot}
use Rattle.dense.specs.Dense.{dense_bits}
use Rattle.codeword.proofs.Solving.{solved_message, solved_even, solved_odd, solved_as}
use Rattle.codeword.proofs.solve_checks.Goals as goal
use Rattle.codeword.proofs.solve_checks.Goals.{in-Some+then-parity-eq1, in-Some+else-parity-eq1, in_default}

pub loop-c-preserved : goal.loop-c-preserved
loop-c-preserved c =
    let a = c.args.a in
    let pre = c.requires in
    let s = c.loop-c.invariant in
    let rows : BitMatrix = dense_bits c.loop-c.work a.stride in
    let odd : ℕ → ℕ = λ i. tally (dot (a.stride * 8) (rows i) (rows a.checks)) in
    elim c.match-pivot_row.branch [
      | in-Some+then-parity-eq1 w ↦
          let check = w.in-Some.ensures in
          let parity = w.parity.ensures ∙ ap odd check.1 in
          solved_as (solved_odd pre.0 s (omega arith) pre.1 pre.2 check.0 parity w.if-parity-eq1.true w.turn.ensures) w.work-is
      | in-Some+else-parity-eq1 w ↦
          let check = w.in-Some.ensures in
          let parity = w.parity.ensures ∙ ap odd check.1 in
          solved_as (solved_even pre.0 s (omega arith) pre.1 pre.2 check.0 parity w.if-parity-eq1.false) w.work-is
      | in_default w ↦ solved_as (solved_message pre.0 s (omega arith) w.in_default.ensures) w.work-is
    ]
