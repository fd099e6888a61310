-- Placement: the matrix filled with bits, and the bits sampled from a matrix.
-- Assumes nothing.
use Prim.Native.Nat.{ℕ, zero, suc, ◌+◌, ◌*◌, ◌/◌, ◌%◌, ◌^◌, ◌≤◌, ◌<◌}
use mathlib.Core.Path.{◌≡◌, refl, sym, ap, ◌∙◌}
use mathlib.Core.Bool.{Bool, true, false, cond}
use mathlib.Core.List.{List, [], ◌++◌, append-nil, append_assoc}
use native.Mathlib.Nat.{zero-add, mul-zero, mul-one, mul-suc, mul-add, mul-le-mul_left}
use native.Mathlib.Omega.{arith}
use lib.Arith.{digits_lt, digits_div, digits_mod}
use lib.Bits.{bit_xor}
use lib.Dec.{leb, ltb}
use lib.ListN.{length, get_or, take, drop, length-append, length-drop}
use lib.Seq.{take-add, take-length}
use borrow.Author.Tests.{ltb-true, lt-leb}
use Rattle.symbology.specs.declared.Params.{Params}
use Rattle.symbology.specs.declared.PatternColour.{PatternColour}
use Rattle.symbology.specs.declared.PatternColour.TheVariants.{Black, Cyan, Yellow}
use Rattle.std.specs.Prelude.{Option, Some, None}
use Rattle.symbology.specs.Ranges.{tally, sum_from, join_from}
use Rattle.symbology.specs.Bits.{AllBits, value, bits}
use Rattle.symbology.specs.Sides.{columns, rows}
use Rattle.symbology.specs.Capacity.{bits_per_module}
use Rattle.symbology.specs.Parameters.{in_range}
use Rattle.symbology.specs.Patterns.{pattern_colour}
use Rattle.symbology.specs.Reserved.{entries, entry_colour, first_entry}
use Rattle.symbology.specs.Placement.{pattern_cell, cell_of, is_data, cell_at, column_data, rank, mask_at, unmasked_index, data_module}
use Rattle.symbology.specs.Placement.{on_cell, module_at, filled, unmasked, masked, cell_bits, bits_at, sampled, first_bad_module}
use Rattle.laws.specs.Sampling.{taken}
use Rattle.laws.proofs.Ranges.{lowest_none, length_tabulate, tabulate_ext, get_d_tabulate}
use Rattle.laws.proofs.Sums.{sum_ext, sum_scale, length_join, join_snoc}
use Rattle.laws.proofs.Bits.{length_bits, bits_take, bits_are, drop_bits, value_take, join_bits}
use Rattle.laws.proofs.Parameters.{InRange, ranges, depth_power}
use Rattle.laws.proofs.Masks.{masked_twice, masked_below}
use Rattle.laws.proofs.Ranks.{data_total, rank_first, rank_next, rank_column, rank_last, rank_below}

-- ---- filling

-- The filled matrix has a module for each row and column.
pub length_filled : (p : Params) (l bs : List ℕ) → length (filled p l bs) ≡ rows p * columns p
unfolding filled
length_filled p l bs = length_tabulate (rows p * columns p) (λ i. module_at p l bs (i % columns p) (i / columns p))

-- The filled matrix, at an index.
pub get_or_index : (p : Params) (l bs : List ℕ) (i : ℕ) → i < rows p * columns p
    → get_or (filled p l bs) i 0 ≡ module_at p l bs (i % columns p) (i / columns p)
unfolding filled
get_or_index p l bs i h = get_d_tabulate (rows p * columns p) (λ i. module_at p l bs (i % columns p) (i / columns p)) 0 i h

-- The filled matrix holds the module of each column and row.
pub get_or_filled : (p : Params) (l bs : List ℕ) (c r : ℕ) → c < columns p → r < rows p
    → get_or (filled p l bs) (r * columns p + c) 0 ≡ module_at p l bs c r
get_or_filled p l bs c r h k =
    get_or_index p l bs (r * columns p + c) (digits_lt k h) ∙ rw (digits_mod r h, digits_div r h)

-- ---- the mask, put on a whole matrix

-- A module of a masked matrix.
pub get_or_masked : (p : Params) (l : List ℕ) (mask : ℕ) (matrix : List ℕ) (i : ℕ) → i < rows p * columns p
    → let c = i % columns p in let r = i / columns p in
    get_or (masked p l mask matrix) i 0
    ≡ cond (is_data (cell_at p l c r)) (bit_xor (get_or matrix i 0) (mask_at mask p.colours c r)) (get_or matrix i 0)
unfolding masked
get_or_masked p l mask matrix i h = get_d_tabulate (rows p * columns p) _ 0 i h

-- A masked matrix has a module for each row and column.
pub length_masked : (p : Params) (l : List ℕ) (mask : ℕ) (matrix : List ℕ) → length (masked p l mask matrix) ≡ rows p * columns p
unfolding masked
length_masked p l mask matrix = length_tabulate (rows p * columns p) _

-- A matrix filled without a mask has a module for each row and column.
pub length_unmasked : (p : Params) (l bs : List ℕ) → length (unmasked p l bs) ≡ rows p * columns p
unfolding unmasked
length_unmasked p l bs = length_tabulate (rows p * columns p) _

-- The filled matrix is what is filled without a mask, masked with the mask of the parameters.
pub filled_masked : (p : Params) (l bs : List ℕ) → filled p l bs ≡ masked p l p.mask (unmasked p l bs)
unfolding filled masked unmasked module_at data_module is_data on_cell
filled_masked p l bs =
    tabulate_ext (rows p * columns p) _ _ (λ i h.
    let c : ℕ = i % columns p in
    let r : ℕ = i / columns p in
    let v : ℕ = unmasked_index p l bs c r in
    let m : ℕ = mask_at p.mask p.colours c r in
    let plain : get_or (unmasked p l bs) i 0 ≡ on_cell (cell_at p l c r) v = get_d_tabulate (rows p * columns p) _ 0 i h in
    rw plain (go (cell_at p l c r) v m))
  where
    go : (z : Option ℕ) (v m : ℕ) → on_cell z (bit_xor v m) ≡ cond (is_data z) (bit_xor (on_cell z v) m) (on_cell z v)
    go None v m = refl
    go (Some f) v m = refl

-- ---- every module filled is a colour index

-- a pattern's module, and any cell's, holds a colour index where v and those of the list are colour indices
pattern_below : (p : Params) (s : Option PatternColour) (v : ℕ) → InRange p → v < p.colours → on_cell (pattern_cell p s) v < p.colours
unfolding pattern_cell on_cell
pattern_below p None v e h = h
pattern_below p (Some Black) v e h = e.black_below
pattern_below p (Some Cyan) v e h = e.cyan_below
pattern_below p (Some Yellow) v e h = e.yellow_below

cell_below : (p : Params) (l : List ℕ) (x y v : ℕ) → InRange p → ((k : ℕ) → k < entries l → entry_colour l k < p.colours)
    → v < p.colours → on_cell (cell_of p l x y) v < p.colours
unfolding cell_of on_cell
cell_below p l x y v e own h = go (ltb (first_entry l (entries l) x y) (entries l)) (ltb-true (first_entry l (entries l) x y) (entries l))
  where
    go : (b : Bool) → (b ≡ true → first_entry l (entries l) x y < entries l)
        → on_cell (cond b (Some (entry_colour l (first_entry l (entries l) x y))) (pattern_cell p (pattern_colour p x y))) v < p.colours
    go true f = own (first_entry l (entries l) x y) (f refl)
    go false f = pattern_below p (pattern_colour p x y) v e h

-- each module is a colour index where those of the list are
pub module_below : (p : Params) (l bs : List ℕ) → in_range p ≡ true → ((k : ℕ) → k < entries l → entry_colour l k < p.colours) → (c r : ℕ)
    → module_at p l bs c r < p.colours
unfolding module_at unmasked_index data_module
module_below p l bs e own c r =
    let depth : ℕ = bits_per_module p.colours in
    let power : p.colours ≡ 2 ^ depth = depth_power p.colours (ranges p e).colours_are in
    let plain : ℕ = value (take depth (drop (depth * rank p l c r) bs)) in
    let small : plain < p.colours = omega (arith, value_take depth (drop (depth * rank p l c r) bs)) in
    cell_below p l (c + 1) (r + 1) (bit_xor plain (mask_at p.mask p.colours c r)) (ranges p e) own (masked_below p c r plain e small)

-- Every module of a filled matrix is below the number of colours.
pub filled_below : (p : Params) (l bs : List ℕ) → in_range p ≡ true → ((k : ℕ) → k < entries l → entry_colour l k < p.colours)
    → (i : ℕ) → i < rows p * columns p → get_or (filled p l bs) i 0 < p.colours
filled_below p l bs e own i h = rw (get_or_index p l bs i h) (module_below p l bs e own (i % columns p) (i / columns p))

-- A filled matrix has no bad module.
pub no_bad_module : (p : Params) (l bs : List ℕ) → in_range p ≡ true → ((k : ℕ) → k < entries l → entry_colour l k < p.colours)
    → first_bad_module p.colours (filled p l bs) ≡ length (filled p l bs)
unfolding first_bad_module
no_bad_module p l bs e own =
    lowest_none (λ i. leb p.colours (get_or (filled p l bs) i 0)) (length (filled p l bs)) 0
    (λ i a b. lt-leb p.colours (get_or (filled p l bs) i 0) (filled_below p l bs e own i (omega (arith, length_filled p l bs))))
    ∙ zero-add (length (filled p l bs))

-- ---- sampling, module after module

-- Before the first module nothing is sampled.
pub taken_first : (p : Params) (l matrix : List ℕ) → taken p l matrix 0 0 ≡ []
unfolding taken join_from
taken_first p l matrix = refl

-- Each module adds its bits.
pub taken_next : (p : Params) (l matrix : List ℕ) (c r : ℕ) → taken p l matrix c (suc r) ≡ taken p l matrix c r ++ bits_at p l matrix c r
unfolding taken
taken_next p l matrix c r =
    let before : List ℕ = join_from 0 c (λ x. join_from 0 (rows p) (λ y. bits_at p l matrix x y)) in
    let above : List ℕ = join_from 0 r (λ y. bits_at p l matrix c y) in
    let more : join_from 0 (suc r) (λ y. bits_at p l matrix c y) ≡ above ++ bits_at p l matrix c r
    = join_snoc (λ y. bits_at p l matrix c y) 0 r ∙ rw (zero-add r) in
    ap (λ (x : List ℕ). before ++ x) more ∙ sym (append_assoc before above (bits_at p l matrix c r))

-- before a column: the columns to its left
taken_start : (p : Params) (l matrix : List ℕ) (c : ℕ)
    → taken p l matrix c 0 ≡ join_from 0 c (λ x. join_from 0 (rows p) (λ y. bits_at p l matrix x y))
unfolding taken join_from
taken_start p l matrix c = append-nil (join_from 0 c (λ x. join_from 0 (rows p) (λ y. bits_at p l matrix x y)))

-- What is sampled past the last module of a column is what is sampled before the first module of the next.
pub taken_column : (p : Params) (l matrix : List ℕ) (c : ℕ) → taken p l matrix c (rows p) ≡ taken p l matrix (suc c) 0
unfolding taken
taken_column p l matrix c =
    let column : ℕ → List ℕ = λ x. join_from 0 (rows p) (λ y. bits_at p l matrix x y) in
    let more : join_from 0 (suc c) column ≡ join_from 0 c column ++ column c = join_snoc column 0 c ∙ rw (zero-add c) in
    sym more ∙ sym (taken_start p l matrix (suc c))

-- Past the last module the whole matrix is sampled.
pub taken_last : (p : Params) (l matrix : List ℕ) → taken p l matrix (columns p) 0 ≡ sampled p l matrix
unfolding sampled
taken_last p l matrix = taken_start p l matrix (columns p)

-- ---- lengths, for every matrix

-- a data module gives its bits, another none
pub length_module : (p : Params) (l matrix : List ℕ) (c r : ℕ)
    → length (bits_at p l matrix c r) ≡ bits_per_module p.colours * tally (is_data (cell_at p l c r))
unfolding bits_at cell_bits is_data
length_module p l matrix c r = go (cell_at p l c r) (bit_xor (get_or matrix (r * columns p + c) 0) (mask_at p.mask p.colours c r))
  where
    go : (z : Option ℕ) (v : ℕ) → length (cell_bits z (bits (bits_per_module p.colours) v)) ≡ bits_per_module p.colours * tally (is_data z)
    go None v = length_bits (bits_per_module p.colours) v ∙ sym (mul-one (bits_per_module p.colours))
    go (Some f) v = sym (mul-zero (bits_per_module p.colours))

length_column : (p : Params) (l matrix : List ℕ) (n c : ℕ)
    → length (join_from 0 n (λ y. bits_at p l matrix c y)) ≡ bits_per_module p.colours * column_data p l n c
unfolding column_data
length_column p l matrix n c =
    let count : ℕ → ℕ = λ y. tally (is_data (cell_at p l c y)) in
    length_join (λ y. bits_at p l matrix c y) 0 n
    ∙ sum_ext (λ y. length (bits_at p l matrix c y)) (λ y. bits_per_module p.colours * count y) 0 n (λ y a b. length_module p l matrix c y)
    ∙ sum_scale (bits_per_module p.colours) count 0 n

-- Before a module as many bits are sampled as its rank says.
pub length_taken : (p : Params) (l matrix : List ℕ) (c r : ℕ) → length (taken p l matrix c r) ≡ bits_per_module p.colours * rank p l c r
unfolding taken rank
length_taken p l matrix c r =
    let depth : ℕ = bits_per_module p.colours in
    let column : ℕ → List ℕ = λ x. join_from 0 (rows p) (λ y. bits_at p l matrix x y) in
    let before : length (join_from 0 c column) ≡ depth * sum_from 0 c (column_data p l (rows p))
    = length_join column 0 c
    ∙ sum_ext (λ x. length (column x)) (λ x. depth * column_data p l (rows p) x) 0 c (λ x a b. length_column p l matrix (rows p) x)
    ∙ sum_scale depth (column_data p l (rows p)) 0 c in
    omega (
      arith,
      length-append (join_from 0 c column) (join_from 0 r (λ y. bits_at p l matrix c y)),
      length_column p l matrix r c,
      mul-add depth (sum_from 0 c (column_data p l (rows p))) (column_data p l r c),
    )

-- Every matrix gives as many bits as the data modules have.
pub length_sampled : (p : Params) (l matrix : List ℕ) → length (sampled p l matrix) ≡ bits_per_module p.colours * data_total p l
length_sampled p l matrix = rw (← (taken_last p l matrix), length_taken p l matrix (columns p) 0, rank_last p l)

-- a module gives bits
pub module_bits : (p : Params) (l matrix : List ℕ) (c r : ℕ) → AllBits (bits_at p l matrix c r)
unfolding bits_at cell_bits
module_bits p l matrix c r = go (cell_at p l c r) (bit_xor (get_or matrix (r * columns p + c) 0) (mask_at p.mask p.colours c r))
  where
    go : (z : Option ℕ) (v : ℕ) → AllBits (cell_bits z (bits (bits_per_module p.colours) v))
    go None v = bits_are (bits_per_module p.colours) v
    go (Some f) v = λ i. omega arith

-- Every matrix gives bits.
pub sampled_bits : (p : Params) (l matrix : List ℕ) → AllBits (sampled p l matrix)
unfolding sampled
sampled_bits p l matrix =
    join_bits (λ c. join_from 0 (rows p) (λ r. bits_at p l matrix c r)) 0 (columns p)
    (λ c. join_bits (λ r. bits_at p l matrix c r) 0 (rows p) (λ r. module_bits p l matrix c r))

-- ---- sampling a filled matrix

-- The bits of a data module lie inside those of the symbol.
pub bits_inside : (p : Params) (l : List ℕ) (c r : ℕ) → c < columns p → r < rows p → is_data (cell_at p l c r) ≡ true
    → bits_per_module p.colours * rank p l c r + bits_per_module p.colours ≤ bits_per_module p.colours * data_total p l
bits_inside p l c r h k e =
    let depth : ℕ = bits_per_module p.colours in
    let fits : depth * suc (rank p l c r) ≤ depth * data_total p l = mul-le-mul_left depth (rank_below p l c r h k e) in
    omega (arith, mul-suc depth (rank p l c r))

module _ (p : Params) (l bs : List ℕ) (are : AllBits bs) (size : length bs ≡ bits_per_module p.colours * data_total p l) where
  -- a data module gives back the bits at its rank
  module_filled : (c r : ℕ) → c < columns p → r < rows p
      → bits_at p l (filled p l bs) c r
      ≡ take (bits_per_module p.colours * tally (is_data (cell_at p l c r))) (drop (bits_per_module p.colours * rank p l c r) bs)
  unfolding bits_at module_at unmasked_index data_module on_cell cell_bits is_data
  module_filled c r h k = rw (get_or_filled p l bs c r h k) (go (cell_at p l c r) (bits_inside p l c r h k))
    where
      go : (z : Option ℕ)
          → (is_data z ≡ true
          → bits_per_module p.colours * rank p l c r + bits_per_module p.colours ≤ bits_per_module p.colours * data_total p l)
          → cell_bits z (bits (bits_per_module p.colours) (bit_xor (on_cell z (data_module p l bs c r)) (mask_at p.mask p.colours c r)))
          ≡ take (bits_per_module p.colours * tally (is_data z)) (drop (bits_per_module p.colours * rank p l c r) bs)
      go None inside =
          let depth : ℕ = bits_per_module p.colours in
          let rest : List ℕ = drop (depth * rank p l c r) bs in
          let enough : depth ≤ length rest = omega (arith, length-drop (depth * rank p l c r) bs, inside refl) in
          rw (masked_twice p c r (value (take depth rest)), mul-one depth)
          (bits_take depth rest (drop_bits (depth * rank p l c r) bs are) enough)
      go (Some f) inside = rw (mul-zero (bits_per_module p.colours))

  -- down a column, and from column to column
  down : (c : ℕ) → c < columns p → taken p l (filled p l bs) c 0 ≡ take (bits_per_module p.colours * rank p l c 0) bs
      → (r : ℕ) → r ≤ rows p → taken p l (filled p l bs) c r ≡ take (bits_per_module p.colours * rank p l c r) bs
  down c h first zero k = first
  down c h first (suc r) k =
      let depth : ℕ = bits_per_module p.colours in
      taken_next p l (filled p l bs) c r
      ∙ rw (down c h first r (omega arith), module_filled c r h k, rank_next p l c r, mul-add depth (rank p l c r) _)
      (sym (take-add (depth * rank p l c r) (depth * tally (is_data (cell_at p l c r))) bs))

  across : (c : ℕ) → c ≤ columns p → taken p l (filled p l bs) c 0 ≡ take (bits_per_module p.colours * rank p l c 0) bs
  across zero h = rw (taken_first p l (filled p l bs), rank_first p l, mul-zero (bits_per_module p.colours))
  across (suc c) h =
      rw (← (taken_column p l (filled p l bs) c), ← (rank_column p l c))
      (down c h (across c (omega arith)) (rows p) (omega arith))

-- Sampling the matrix that was filled with bits gives the bits back, for every mask.
pub sampled_filled : (p : Params) (l bs : List ℕ) → AllBits bs → length bs ≡ bits_per_module p.colours * data_total p l
    → sampled p l (filled p l bs) ≡ bs
sampled_filled p l bs are size =
    sym (taken_last p l (filled p l bs)) ∙ across p l bs are size (columns p) (omega arith)
    ∙ rw (rank_last p l, ← size) (take-length bs)
