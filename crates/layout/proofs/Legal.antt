-- What filling and sampling ask for, of a legal symbol.
-- Assumes nothing.
use Prim.Native.Nat.{ℕ, ◌*◌}
use mathlib.Core.Path.{◌≡◌, ◌∙◌}
use mathlib.Core.List.{List}
use native.Mathlib.Nat.{mul_comm}
use Rattle.symbology.specs.declared.Params.{Params}
use Rattle.symbology.specs.Capacity.{sizes_of, sizes_for}
use Rattle.symbology.specs.Sides.{columns, rows}
use Rattle.laws.proofs.Sizes.{LegalSymbol}
use Rattle.layout.specs.Walk.{SizedSymbol}

-- the symbol is sound, and matrix and bits have its size
pub sized_symbol : (p : Params) (l : List ℕ) {bits modules : ℕ}
    → LegalSymbol p l
    → bits ≡ (sizes_for p l).capacity
    → modules ≡ (sizes_for p l).columns * (sizes_for p l).rows
    → SizedSymbol p l bits modules
unfolding sizes_of
sized_symbol p l k all whole =
    record { inside_range = k.inside_range; sound = k.sound; all_bits = all; all_modules = whole ∙ mul_comm (columns p) (rows p) }
