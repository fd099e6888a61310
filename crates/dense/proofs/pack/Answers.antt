use Prim.Native.Nat.{ℕ, ◌+◌, ◌%◌}
use mathlib.Core.Path.{◌≡◌}
use native.Mathlib.Omega.{arith}
use lib.ListN.{get_or}
use borrow.Author.Tests.{eq-eqb, ne_eqb}
use Rattle.dense.proofs.Dense.{packed_start, packed_zero, packed_one, packed_all}
use Rattle.dense.proofs.pack.Goals as goal
use Rattle.dense.proofs.pack.Goals.{then-xs-word-eq1, else-xs-word-eq1}

pub loop-j-init : goal.loop-j-init
loop-j-init c = packed_start c.clear.ensures

pub loop-j-preserved : goal.loop-j-preserved
loop-j-preserved c =
    let packed = c.loop-j.invariant in
    let place : ℕ = c.args.word + c.loop-j.j in
    let bit : ℕ = get_or c.clear.new.xs place 0 % 2 in
    let same = packed.changed.kept place (omega (arith, c.requires.1)) in
    elim c.if-xs-word-eq1.branch [
      | then-xs-word-eq1 w ↦ rw w.xs-is (packed_one packed (eq-eqb bit 1 (omega (arith, same, w.if-xs-word-eq1.true))) w.turn.ensures)
      | else-xs-word-eq1 w ↦ rw w.xs-is (packed_zero packed (ne_eqb bit 1 (λ f. w.if-xs-word-eq1.false (omega (arith, same)))))
    ]

pub returns : goal.returns
returns c =
    let end : c.loop-j.j ≡ c.args.n = omega arith in
    packed_all c.requires.1 c.clear.ensures (rw end at c.loop-j.invariant)
