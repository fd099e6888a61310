use mathlib.Core.Path.{sym, ap, ◌∙◌}
use mathlib.Core.List.{List}
use Prim.Native.Nat.{ℕ, ◌+◌, ◌*◌}
use Rattle.symbology.specs.Shuffle.{exchanged}
use Rattle.shuffle.proofs.Items.{stored_both, first_none, first_next}
use Rattle.shuffle.proofs.exchange.Goals as goal

pub loop-k-init : goal.loop-k-init
loop-k-init g c =
    let a = c.args in
    sym (first_none g.row.WIDTH a.at a.i a.j a.xs.now)

pub loop-k-preserved : goal.loop-k-preserved
loop-k-preserved g c =
    let a = c.args in
    let k = c.loop-k.k in
    let x : ℕ = a.at + g.row.WIDTH * a.i + k in
    let y : ℕ = a.at + g.row.WIDTH * a.j + k in
    c.swap.ensures.by_index.3 0
    ∙ stored_both x y c.loop-k.xs
    ∙ ap (λ (l : List ℕ). exchanged 0 x y l) c.loop-k.invariant
    ∙ first_next k g.row.WIDTH a.at a.i a.j a.xs.now
