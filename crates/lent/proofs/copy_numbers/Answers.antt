use Prim.Native.Nat.{ℕ, ◌+◌}
use mathlib.Core.Path.{refl, sym, ap, ◌∙◌, subst⁻¹}
use mathlib.Core.List.{List, ◌∷◌, ◌++◌, []}
use lib.ListN.{set}
use Rattle.pieces.specs.Pieces.{StoredAt}
use Rattle.pieces.proofs.Pieces.{stored_none, stored_byte, joined}
use Rattle.lent.specs.Buffer.{numbers_at}
use Rattle.lent.proofs.Buffer.{numbers_none, numbers_last}
use Rattle.lent.proofs.copy_numbers.Goals as goal

pub loop-i-init : goal.loop-i-init
loop-i-init c =
    let a = c.args in
    subst⁻¹ (λ (x : List ℕ). StoredAt x 0 a.out.now a.out.now 0) (numbers_none a.xs.now a.at) (stored_none 0 a.out.now)

pub loop-i-preserved : goal.loop-i-preserved
loop-i-preserved c =
    let a = c.args in
    let i = c.loop-i.i in
    subst⁻¹ (λ (x : List ℕ). StoredAt x 0 a.out.now (set c.loop-i.out i c.number_at.result) (i + 1))
    (numbers_last a.xs.now a.at i ∙ ap (λ (v : ℕ). numbers_at a.xs.now a.at i ++ (v ∷ [])) (sym c.number_at.ensures.0))
    (joined c.loop-i.invariant (stored_byte i c.number_at.result refl))
