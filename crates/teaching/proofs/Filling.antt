-- What is filled with a mask, masked once more.
-- Assumes nothing.
use Prim.Native.Nat.{ℕ}
use mathlib.Core.Path.{◌≡◌, ap, ◌∙◌}
use mathlib.Core.List.{List}
use Rattle.symbology.specs.declared.Params.{Params}
use Rattle.symbology.specs.Placement.{filled, unmasked, masked}
use Rattle.laws.proofs.Placement.{filled_masked, length_unmasked}
use Rattle.laws.proofs.Teaching.{masking_twice}

pub masked_again : (p : Params) (l bs : List ℕ) {matrix : List ℕ}
    → matrix ≡ filled p l bs
    → masked p l p.mask matrix ≡ unmasked p l bs
masked_again p l bs e =
    ap (masked p l p.mask) (e ∙ filled_masked p l bs) ∙ masking_twice p l (unmasked p l bs) p.mask (length_unmasked p l bs)
