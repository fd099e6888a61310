-- Document 01, "Bits": the order of data modules, the masks (002, 4.8.1 and Table 20), filling and sampling a matrix. In `cell_of`
-- columns x and rows y count from 1, as in 000; elsewhere columns and rows count from 0.
-- Assumes nothing.
use Rattle.std.specs.Prelude.{ℕ, ◌+◌, ◌*◌, ◌/◌, ◌%◌, Bool, true, false, cond, List, [], ◌∷◌, length, get_or, take, drop, leb, ltb}
use Rattle.std.specs.Prelude.{Option, Some, None}
use Rattle.std.specs.Int.Bits.{bit_xor}
use Rattle.symbology.specs.declared.Params.{Params}
use Rattle.symbology.specs.declared.PatternColour.{PatternColour}
use Rattle.symbology.specs.declared.PatternColour.TheVariants.{Black, Cyan, Yellow}
use Rattle.symbology.specs.Ranges.{tally, sum_from, join_from, tabulate, lowest}
use Rattle.symbology.specs.Bits.{value, bits}
use Rattle.symbology.specs.Sides.{columns, rows}
use Rattle.symbology.specs.Patterns.{pattern_colour}
use Rattle.symbology.specs.Reserved.{entries, entry_colour, first_entry}
use Rattle.symbology.specs.Capacity.{bits_per_module}

-- ---- what each module holds: the colour index that pattern or list fix, none in a data module

-- the colour index of a pattern's colour
abbrev pub colour_index : Params → PatternColour → ℕ
colour_index p Black = p.black
colour_index p Cyan = p.cyan
colour_index p Yellow = p.yellow

-- the cell of a module that no list entry names, by its pattern colour
unfoldable pub pattern_cell : Params → Option PatternColour → Option ℕ
pattern_cell p None = None
pattern_cell p (Some colour) = Some (colour_index p colour)

-- the cell at column x, row y: an entry's colour, else a pattern's colour, else data
unfoldable pub cell_of : Params → List ℕ → ℕ → ℕ → Option ℕ
cell_of p l x y =
    let k = first_entry l (entries l) x y in
    cond (ltb k (entries l)) (Some (entry_colour l k)) (pattern_cell p (pattern_colour p x y))

-- the module is a data module
unfoldable pub is_data : Option ℕ → Bool
is_data None = true
is_data (Some v) = false

-- the cell of the module (c, r)
abbrev pub cell_at : Params → List ℕ → ℕ → ℕ → Option ℕ
cell_at p l c r = cell_of p l (c + 1) (r + 1)

-- the data modules among the first n rows of column c
unfoldable pub column_data : Params → List ℕ → ℕ → ℕ → ℕ
column_data p l n c = sum_from 0 n (λ r. tally (is_data (cell_at p l c r)))

-- The rank of the module (c, r): how many data modules stand before it, column by column from the left, each downwards.
unfoldable pub rank : Params → List ℕ → ℕ → ℕ → ℕ
rank p l c r = sum_from 0 c (column_data p l (rows p)) + column_data p l r c

-- ---- masks

-- Table 20, by mask reference, before the remainder by the number of colours. (x, y) = (0, 0) is the upper left module.
unfoldable pub mask_generators : ℕ → ℕ → List ℕ
mask_generators x y =
    (x + y)
    ∷ x
    ∷ y
    ∷ (x / 2 + y / 3)
    ∷ (x / 3 + y / 2)
    ∷ ((x + y) / 2 + (x + y) / 3)
    ∷ (x * x * y % 7 + (2 * x * x + 2 * y) % 19)
    ∷ (x * y * y % 5 + (2 * x + y * y) % 13)
    ∷ []

-- the colour index of a mask pattern at a module; Table 20's 2^(Nc + 1) is the number of colours
unfoldable pub mask_at : ℕ → ℕ → ℕ → ℕ → ℕ
mask_at mask colours x y = get_or (mask_generators x y) mask 0 % colours

-- ---- filling

-- the colour index of the data module (c, r) before its mask: the first bit of a module is its highest
unfoldable pub unmasked_index : Params → List ℕ → List ℕ → ℕ → ℕ → ℕ
unmasked_index p l bs c r =
    let depth = bits_per_module p.colours in
    value (take depth (drop (depth * rank p l c r) bs))

-- the colour index of the data module (c, r), masked
unfoldable pub data_module : Params → List ℕ → List ℕ → ℕ → ℕ → ℕ
data_module p l bs c r = bit_xor (unmasked_index p l bs c r) (mask_at p.mask p.colours c r)

-- what a cell holds: v in a data module, else its own colour index
unfoldable pub on_cell : Option ℕ → ℕ → ℕ
on_cell None v = v
on_cell (Some f) v = f

-- the colour index of the module (c, r) of a symbol whose data modules hold the bits
unfoldable pub module_at : Params → List ℕ → List ℕ → ℕ → ℕ → ℕ
module_at p l bs c r = on_cell (cell_at p l c r) (data_module p l bs c r)

-- the whole matrix, row after row
unfoldable pub filled : Params → List ℕ → List ℕ → List ℕ
filled p l bs = tabulate (rows p * columns p) (λ i. module_at p l bs (i % columns p) (i / columns p))

-- ---- masking by itself (document 02, W-207)

-- the whole matrix without a mask
unfoldable pub unmasked : Params → List ℕ → List ℕ → List ℕ
unmasked p l bs =
    tabulate (rows p * columns p) (λ i.
    let c = i % columns p in
    let r = i / columns p in
    on_cell (cell_at p l c r) (unmasked_index p l bs c r))

-- a matrix with a mask put on its data modules, whatever its modules hold; the others stay as they are
unfoldable pub masked : Params → List ℕ → ℕ → List ℕ → List ℕ
masked p l mask matrix =
    tabulate (rows p * columns p) (λ i.
    let c = i % columns p in
    let r = i / columns p in
    let v = get_or matrix i 0 in
    cond (is_data (cell_at p l c r)) (bit_xor v (mask_at mask p.colours c r)) v)

-- ---- sampling

-- what is no data module gives no bits
unfoldable pub cell_bits : Option ℕ → List ℕ → List ℕ
cell_bits None bs = bs
cell_bits (Some v) bs = []

-- the bits of the module (c, r) of a matrix, the mask undone
unfoldable pub bits_at : Params → List ℕ → List ℕ → ℕ → ℕ → List ℕ
bits_at p l matrix c r =
    cell_bits (cell_at p l c r)
    (bits (bits_per_module p.colours) (bit_xor (get_or matrix (r * columns p + c) 0) (mask_at p.mask p.colours c r)))

-- the bits of a sampled matrix, column by column from the left, each downwards
unfoldable pub sampled : Params → List ℕ → List ℕ → List ℕ
sampled p l matrix = join_from 0 (columns p) (λ c. join_from 0 (rows p) (λ r. bits_at p l matrix c r))

-- the first module of N or more, and the matrix's length where there is none
unfoldable pub first_bad_module : ℕ → List ℕ → ℕ
first_bad_module colours matrix = lowest (λ i. leb colours (get_or matrix i 0)) (length matrix) 0
