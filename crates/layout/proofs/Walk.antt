-- The walk at one module: where it stands in the matrix and in the bits, what the module holds, and how many data modules stand
-- before the one below it.
-- Assumes nothing.
use Prim.Native.Nat.{ℕ, suc, ◌+◌, ◌*◌, ◌≤◌, ◌<◌}
use mathlib.Core.Path.{◌≡◌, refl, ◌∙◌}
use mathlib.Core.Bool.{true, false}
use mathlib.Core.List.{List, []}
use native.Mathlib.Nat.{mul-le-mul, mul-suc}
use native.Mathlib.Numerals.{add-one}
use native.Mathlib.Omega.{arith}
use lib.Bits.{bit_xor}
use lib.ListN.{get_or, take, drop}
use Rattle.symbology.specs.declared.Params.{Params}
use Rattle.std.specs.Prelude.{Option, Some, None, is_some, unwrap_or}
use Rattle.symbology.specs.Bits.{value, bits}
use Rattle.symbology.specs.Sides.{columns, rows}
use Rattle.symbology.specs.Capacity.{bits_per_module, data_modules}
use Rattle.symbology.specs.Placement.{is_data, cell_at, rank, mask_at, unmasked_index, data_module, on_cell, module_at, cell_bits, bits_at}
use Rattle.laws.proofs.Parameters.{InRange, ranges, depth_some}
use Rattle.laws.proofs.Ranks.{rank_next, rank_most}
use Rattle.laws.proofs.Placement.{bits_inside}
use Rattle.laws.proofs.Sizes.{data_bits}
use Rattle.laws.proofs.DataModules.{data_count}
use Rattle.layout.specs.Walk.{SizedSymbol, AtModule}

-- a cell with a fixed colour index, and one without
pub with_index : (z : Option ℕ) → is_some z ≡ true → z ≡ Some (unwrap_or z 0)
with_index None e = cc
with_index (Some v) e = refl

pub without_index : (z : Option ℕ) → is_some z ≡ false → z ≡ None
without_index None e = refl
without_index (Some v) e = cc

-- a cell that holds data, and one that does not
data_cell : {z : Option ℕ} → z ≡ None → is_data z ≡ true
unfolding is_data
data_cell e = rw e

fixed_cell : {z : Option ℕ} {v : ℕ} → z ≡ Some v → is_data z ≡ false
unfolding is_data
fixed_cell e = rw e

module _ {p : Params} {l : List ℕ} {size modules c r k : ℕ} (w : AtModule p l size modules c r k) where
  -- ---- places

  -- a side has at most 145 modules
  sides_most : (columns p ≤ 145) × (rows p ≤ 145)
  sides_most = let i : InRange p = ranges p w.symbol.inside_range in omega (arith, i.horizontal_most, i.vertical_most)

  -- a column and a row are bytes
  pub place_bytes : r < rows p → (c < 256) × (r < 256)
  place_bytes h = (omega (arith, sides_most, w.column), omega (arith, sides_most))

  -- a data module's bits are some of those there are
  pub bits_there : (at depth : ℕ)
      → at ≡ bits_per_module p.colours * k
      → depth ≡ bits_per_module p.colours
      → r < rows p
      → cell_at p l c r ≡ None
      → at + depth ≤ size
  bits_there at depth place e h d =
      rw (place, e, w.ranked, w.symbol.all_bits, ← (data_bits p l w.symbol.inside_range w.symbol.sound))
      (bits_inside p l c r w.column h (data_cell d))

  -- no more data modules stand before it than a symbol of the largest sides has modules
  pub few_before : k ≤ 21025
  unfolding data_modules
  few_before =
      omega (
        arith,
        w.ranked,
        rank_most p l c r w.column w.row,
        data_count p l w.symbol.inside_range w.symbol.sound,
        mul-le-mul sides_most.0 sides_most.1,
      )

  -- so there are more bits than data modules before it
  pub rank_small : r < rows p → cell_at p l c r ≡ None → k < size
  rank_small h d =
      let depth : ℕ = bits_per_module p.colours in
      let some : 1 ≤ depth = (depth_some p.colours (ranges p w.symbol.inside_range).colours_are).0 in
      let grows : 1 * suc k ≤ depth * suc k = mul-le-mul {m₁ = suc k} {m₂ = suc k} some (omega arith) in
      omega (arith, bits_there (depth * k) depth refl refl h d, mul-suc depth k)

  -- ---- the data modules before the module below

  pub fixed_next : {v : ℕ} → cell_at p l c r ≡ Some v → k ≡ rank p l c (r + 1)
  fixed_next e = rw (add-one r, rank_next p l c r, fixed_cell e, w.ranked) (omega arith)

  pub data_next : cell_at p l c r ≡ None → k + 1 ≡ rank p l c (r + 1)
  data_next e = rw (add-one r, rank_next p l c r, data_cell e, w.ranked)

  -- ---- what the module holds

  pub fixed_module : {v : ℕ} (bs : List ℕ) → cell_at p l c r ≡ Some v → v ≡ module_at p l bs c r
  unfolding module_at on_cell
  fixed_module bs e = rw e

  -- the bits at its rank, masked
  pub data_module_lem : (bs : List ℕ) (at depth v mask : ℕ)
      → at ≡ bits_per_module p.colours * k
      → depth ≡ bits_per_module p.colours
      → v ≡ value (take depth (drop at bs))
      → mask ≡ mask_at p.mask p.colours c r
      → cell_at p l c r ≡ None
      → bit_xor v mask ≡ module_at p l bs c r
  unfolding module_at on_cell unmasked_index data_module
  data_module_lem bs at depth v mask ea ed ev em e = rw (e, ev, em, ea, ed, w.ranked)

  -- ---- the bits of the module

  pub fixed_bits : {v : ℕ} (matrix : List ℕ) → cell_at p l c r ≡ Some v → bits_at p l matrix c r ≡ []
  unfolding bits_at cell_bits
  fixed_bits matrix e = rw e

  -- the module, the mask undone
  pub data_bits_are : (matrix : List ℕ) (depth i mask : ℕ)
      → depth ≡ bits_per_module p.colours
      → i ≡ r * columns p + c
      → mask ≡ mask_at p.mask p.colours c r
      → cell_at p l c r ≡ None
      → bits depth (bit_xor (get_or matrix i 0) mask) ≡ bits_at p l matrix c r
  unfolding bits_at cell_bits
  data_bits_are matrix depth i mask ed ei em e = rw (e, ed, ei, em)

-- the parameters and the list are those
pub same_symbol : {p p' : Params} {l l' : List ℕ} {size modules : ℕ} → p' ≡ p → l' ≡ l → SizedSymbol p l size modules
    → SizedSymbol p' l' size modules
same_symbol e f s = rw (e, f) s

-- the walk at a module, with buffers of the symbol's sizes
pub at_module : {p : Params} {l : List ℕ} {size modules : ℕ} → SizedSymbol p l size modules
    → (size' modules' c r k : ℕ)
    → size' ≡ size
    → modules' ≡ modules
    → c < columns p
    → r ≤ rows p
    → k ≡ rank p l c r
    → AtModule p l size' modules' c r k
at_module s size' modules' c r k es em inside below e =
    record {
      symbol = record { inside_range = s.inside_range; sound = s.sound; all_bits = es ∙ s.all_bits; all_modules = em ∙ s.all_modules };
      column = inside;
      row = below;
      ranked = e;
    }
