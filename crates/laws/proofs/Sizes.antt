-- Legal symbols, and what their sizes say of one another.
-- Assumes nothing.
use Prim.Native.Nat.{ℕ, ◌+◌, ◌-◌, ◌*◌, ◌%◌, ◌≤◌, ◌<◌}
use mathlib.Core.Path.{◌≡◌, sym, ap, ◌∙◌}
use mathlib.Core.Bool.{true}
use mathlib.Core.List.{List}
use native.Mathlib.Nat.{mul_comm, mul-add, div-mul-le_self, div-add-mod', mod-lt}
use native.Mathlib.Omega.{arith}
use lib.ListN.{length}
use Rattle.symbology.specs.declared.Params.{Params}
use Rattle.symbology.specs.declared.Sizes.{Sizes}
use Rattle.std.specs.Prelude.{Ok}
use Rattle.symbology.specs.Ranges.{sum_from}
use Rattle.symbology.specs.Parameters.{in_range}
use Rattle.symbology.specs.Sides.{columns, rows}
use Rattle.symbology.specs.Reserved.{entries, list_verdict}
use Rattle.symbology.specs.Capacity.{bits_per_module, data_modules, as_bits, capacity, block_rows, sizes_of, sizes_for}
use Rattle.symbology.specs.Placement.{column_data, sampled}
use Rattle.symbology.specs.Codeword.{message_columns}
use Rattle.symbology.specs.Code.{matrix_for}
use Rattle.laws.proofs.Parameters.{ranges}
use Rattle.laws.proofs.Placement.{length_sampled}
use Rattle.laws.proofs.DataModules.{data_count}
use Rattle.laws.proofs.Spare.{enough_columns}

-- parameters and list that pass the tests 1 to 3, one fact for each
pub record LegalSymbol (p : Params) (l : List ℕ) : Type 0 where
  pub inside_range : in_range p ≡ true
  pub sound : list_verdict p l ≡ Ok tt
  pub least : p.wr ≤ (sizes_for p l).capacity
  pub most : (sizes_for p l).capacity ≤ 4096

-- The data modules hold the C bits of the capacity, for parameters and a list that pass the tests 1 and 2.
pub data_bits : (p : Params) (l : List ℕ)
    → in_range p ≡ true
    → list_verdict p l ≡ Ok tt
    → bits_per_module p.colours * sum_from 0 (columns p) (column_data p l (rows p)) ≡ (sizes_for p l).capacity
unfolding as_bits capacity sizes_of
data_bits p l range sound =
    let m : ℕ = bits_per_module p.colours in
    let d : ℕ = (data_modules p.kind p.horizontal p.vertical (entries l)).0 in
    ap (λ (x : ℕ). m * x) (data_count p l range sound) ∙ mul_comm m d

-- The same of a legal symbol.
pub capacity_is : (p : Params) (l : List ℕ)
    → LegalSymbol p l
    → bits_per_module p.colours * sum_from 0 (columns p) (column_data p l (rows p)) ≡ (sizes_for p l).capacity
capacity_is p l k = data_bits p l k.inside_range k.sound

-- every matrix gives C bits
pub sampled_whole : (p : Params) (l matrix : List ℕ)
    → LegalSymbol p l
    → length (sampled p l matrix) ≡ (sizes_for p l).capacity
sampled_whole p l matrix k = length_sampled p l matrix ∙ capacity_is p l k

-- the codeword is no longer than the capacity
pub gross_most : (p : Params) (l : List ℕ) → (sizes_for p l).gross ≤ (sizes_for p l).capacity
unfolding sizes_of
gross_most p l = div-mul-le_self (capacity p (entries l)).0 p.wr

-- There are at most 8 stuffing bits.
pub stuffing_few : (p : Params) (l : List ℕ) → in_range p ≡ true → (sizes_for p l).capacity - (sizes_for p l).gross ≤ 8
unfolding sizes_of
stuffing_few p l range =
    let c : ℕ = (capacity p (entries l)).0 in
    let given = ranges p range in
    let rest : c % p.wr < p.wr = mod-lt c (omega (arith, given.wc_below)) in
    omega (arith, rest, given.wr_most, div-add-mod' c p.wr)

-- Pg is K and Pn together
pub gross_parts : (p : Params) (l : List ℕ)
    → LegalSymbol p l
    → (sizes_for p l).net + (sizes_for p l).checks ≡ (sizes_for p l).gross
unfolding sizes_of
gross_parts p l k =
    let t : ℕ = block_rows (capacity p (entries l)).0 p.wr in
    let less : p.wc < p.wr = (ranges p k.inside_range).wc_below in
    let both : p.wr - p.wc + p.wc ≡ p.wr = omega arith in
    sym (mul-add t (p.wr - p.wc) p.wc) ∙ ap (λ (x : ℕ). t * x) both

-- Every legal symbol has at least Pn message columns, so that its net bits have columns to stand in.
pub net_fits : (p : Params) (l : List ℕ)
    → LegalSymbol p l
    → let s = sizes_for p l in
    s.net ≤ length (message_columns s.checks s.gross (matrix_for s))
net_fits p l k =
    let s : Sizes = sizes_for p l in
    let parts : s.net + s.checks ≡ s.gross = gross_parts p l k in
    let all : s.gross ≤ length (message_columns s.checks s.gross (matrix_for s)) + s.checks =
    enough_columns s.checks s.gross (matrix_for s) in
    omega arith
