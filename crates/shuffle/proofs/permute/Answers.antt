use Prim.Native.Nat.{◌<◌}
use mathlib.Core.Path.{◌≡◌, sym, ◌∙◌}
use native.Mathlib.Omega.{arith}
use Rattle.std.proofs.Common.{rules}
use Rattle.draws.proofs.States.{after_none, after_turn}
use Rattle.shuffle.proofs.Items.{items_none, items_turn}
use Rattle.shuffle.proofs.permute.Goals as goal

pub loop-last-preserved : goal.loop-last-preserved
loop-last-preserved g c =
    let now = c.loop-last in
    let some : 0 < now.last = omega arith in (
      search (rules, items_turn g.row.WIDTH c.args.at now.last now.s now.xs some ∙ now.invariant.0),
      rw c.next_state-s.ensures (after_turn now.last now.s some ∙ now.invariant.1),
    )

pub returns : goal.returns
returns g c =
    let now = c.loop-last in
    let none : now.last ≡ 0 = omega arith in (
      sym (items_none g.row.WIDTH c.args.at now.s now.xs) ∙ rw none at now.invariant.0,
      sym (after_none now.s) ∙ rw none at now.invariant.1,
    )
