-- The data modules of a symbol, those on no pattern and no list entry, number D.
-- Assumes nothing.
use Prim.Native.Nat.{ℕ, zero, suc, ◌+◌, ◌-◌, ◌*◌, ◌≤◌, ◌<◌}
use mathlib.Core.Path.{◌≡◌, refl, sym, ap, ◌∙◌}
use mathlib.Core.Bool.{Bool, true, false, cond, not, ◌&&◌, ◌||◌}
use mathlib.Core.List.{List}
use native.Mathlib.Omega.{arith}
use lib.Dec.{ltb}
use borrow.Author.Tests.{le-ltb}
use Rattle.symbology.specs.declared.Params.{Params}
use Rattle.symbology.specs.declared.PatternColour.{PatternColour}
use Rattle.std.specs.Prelude.{Option, Some, None, Ok}
use Rattle.symbology.specs.Ranges.{tally, sum_from}
use Rattle.symbology.specs.Sides.{columns, rows}
use Rattle.symbology.specs.Patterns.{covered, pattern_colour}
use Rattle.symbology.specs.Reserved.{entries, entry_column, entry_row, entry_colour, entry_at, first_entry, list_verdict}
use Rattle.symbology.specs.Parameters.{in_range}
use Rattle.symbology.specs.Capacity.{pattern_modules, data_modules}
use Rattle.symbology.specs.Placement.{pattern_cell, cell_of, is_data, column_data}
use Rattle.laws.proofs.Sums.{sum_ext, sum_add, sum_const, sum_point}
use Rattle.laws.proofs.Patterns.{pattern_count}
use Rattle.laws.proofs.Reserved.{SoundEntry, SoundList, sound_list, listed, listed_more}
use Rattle.laws.proofs.Reserved.{listed_none, entry_own, entry_column_lem, entry_row_lem}

-- ---- data modules

-- on no pattern and named by none of the first n entries
abbrev pub free : Params → List ℕ → ℕ → ℕ → ℕ → Bool
free p l n x y = not (covered (pattern_colour p x y)) && not (listed l n x y)

-- A data module is one on no pattern and no list entry.
pub is_data_lem : (p : Params) (l : List ℕ) (x y : ℕ)
    → is_data (cell_of p l x y) ≡ (not (covered (pattern_colour p x y)) && not (ltb (first_entry l (entries l) x y) (entries l)))
unfolding cell_of is_data pattern_cell covered
is_data_lem p l x y =
    go (ltb (first_entry l (entries l) x y) (entries l)) (entry_colour l (first_entry l (entries l) x y)) (pattern_colour p x y)
  where
    go : (t : Bool) (v : ℕ) (colour : Option PatternColour)
        → is_data (cond t (Some v) (pattern_cell p colour)) ≡ (not (covered colour) && not t)
    go true v None = refl
    go true v (Some s) = refl
    go false v None = refl
    go false v (Some s) = refl

-- ---- the modules left free by patterns and the first n entries

abbrev free_in_column : Params → List ℕ → ℕ → ℕ → ℕ
free_in_column p l n c = sum_from 0 (rows p) (λ r. tally (free p l n (c + 1) (r + 1)))

abbrev free_modules : Params → List ℕ → ℕ → ℕ
free_modules p l n = sum_from 0 (columns p) (free_in_column p l n)

-- the next entry changes no module that it does not name
free_same : (p : Params) (l : List ℕ) (n x y : ℕ) → entry_at l x y n ≡ false → tally (free p l n x y) ≡ tally (free p l (suc n) x y)
free_same p l n x y e = rw (listed_more l n x y, e) (go (listed l n x y))
  where
    go : (t : Bool)
        → tally (not (covered (pattern_colour p x y)) && not t) ≡ tally (not (covered (pattern_colour p x y)) && not (t || false))
    go true = refl
    go false = refl

-- the module that the next entry names was free and is so no more
free_taken : (p : Params) (l : List ℕ) (n x y : ℕ) → x ≡ entry_column l n → y ≡ entry_row l n → SoundEntry p l n
    → tally (free p l n x y) ≡ tally (free p l (suc n) x y) + 1
free_taken p l n x y a b s =
    let new : listed l n (entry_column l n) (entry_row l n) ≡ false =
    le-ltb (first_entry l n (entry_column l n) (entry_row l n)) n s.named_once in
    rw (a, b, listed_more l n (entry_column l n) (entry_row l n), entry_own l n, s.on_no_pattern, new)

-- so each entry takes one module
free_step : (p : Params) (l : List ℕ) (n : ℕ) → SoundEntry p l n → free_modules p l n ≡ free_modules p l (suc n) + 1
free_step p l n s =
    sum_point (free_in_column p l n) (free_in_column p l (suc n)) 1 (entry_column l n - 1) 0 (columns p) (omega arith)
    (omega arith) here others
  where
    here : free_in_column p l n (entry_column l n - 1) ≡ free_in_column p l (suc n) (entry_column l n - 1) + 1
    here =
        let x : ℕ = entry_column l n - 1 + 1 in
        let column : x ≡ entry_column l n = omega arith in
        let row : entry_row l n - 1 + 1 ≡ entry_row l n = omega arith in
        sum_point (λ r. tally (free p l n x (r + 1))) (λ r. tally (free p l (suc n) x (r + 1)))
        1 (entry_row l n - 1) 0 (rows p) (omega arith) (omega arith)
        (free_taken p l n x (entry_row l n - 1 + 1) column row s)
        (λ r a b h. free_same p l n x (r + 1) (entry_row_lem l n x (r + 1) (λ e. h (omega arith))))

    others : (c : ℕ) → 0 ≤ c → c < 0 + columns p → (c ≡ entry_column l n - 1 → ⊥) → free_in_column p l n c ≡ free_in_column p l (suc n) c
    others c a b h =
        sum_ext (λ r. tally (free p l n (c + 1) (r + 1))) (λ r. tally (free p l (suc n) (c + 1) (r + 1))) 0 (rows p)
        (λ r d e. free_same p l n (c + 1) (r + 1) (entry_column_lem l n (c + 1) (r + 1) (λ same. h (omega arith))))

free_left : (p : Params) (l : List ℕ) → SoundList p l → (n : ℕ) → n ≤ entries l → free_modules p l n + n ≡ free_modules p l 0
free_left p l s zero h = omega arith
free_left p l s (suc n) h = omega (arith, free_step p l n (s.entry n h), free_left p l s n (omega arith))

-- ---- all modules

-- each module is on a pattern or free of it
free_covered : (p : Params) (l : List ℕ) (x y : ℕ) → tally (free p l 0 x y) + tally (covered (pattern_colour p x y)) ≡ 1
free_covered p l x y = rw (listed_none l x y) (go (covered (pattern_colour p x y)))
  where
    go : (t : Bool) → tally (not t && true) + tally t ≡ 1
    go true = refl
    go false = refl

free_first : (p : Params) (l : List ℕ)
    → free_modules p l 0 + sum_from 0 (columns p) (λ c. sum_from 0 (rows p) (λ r. tally (covered (pattern_colour p (c + 1) (r + 1)))))
    ≡ columns p * rows p
free_first p l =
    let on : ℕ → ℕ = λ c. sum_from 0 (rows p) (λ r. tally (covered (pattern_colour p (c + 1) (r + 1)))) in
    sym (sum_add (free_in_column p l 0) on 0 (columns p))
    ∙ sum_ext (λ c. free_in_column p l 0 c + on c) (λ c. rows p) 0 (columns p) (λ c a b. column c)
    ∙ sum_const (rows p) 0 (columns p)
  where
    column : (c : ℕ) → free_in_column p l 0 c + sum_from 0 (rows p) (λ r. tally (covered (pattern_colour p (c + 1) (r + 1)))) ≡ rows p
    column c =
        let off : ℕ → ℕ = λ r. tally (free p l 0 (c + 1) (r + 1)) in
        let on : ℕ → ℕ = λ r. tally (covered (pattern_colour p (c + 1) (r + 1))) in
        sym (sum_add off on 0 (rows p))
        ∙ sum_ext (λ r. off r + on r) (λ r. 1) 0 (rows p) (λ r a b. free_covered p l (c + 1) (r + 1))
        ∙ omega (arith, sum_const 1 0 (rows p))

-- the data modules are those left free by patterns and all entries
pub data_free : (p : Params) (l : List ℕ)
    → sum_from 0 (columns p) (column_data p l (rows p))
    ≡ sum_from 0 (columns p) (λ c. sum_from 0 (rows p) (λ r. tally (free p l (entries l) (c + 1) (r + 1))))
unfolding column_data
data_free p l =
    sum_ext (column_data p l (rows p)) (free_in_column p l (entries l)) 0 (columns p)
    (λ c a b. sum_ext (λ r. tally (is_data (cell_of p l (c + 1) (r + 1)))) (λ r. tally (free p l (entries l) (c + 1) (r + 1))) 0 (rows p)
    (λ r d e. ap tally (is_data_lem p l (c + 1) (r + 1))))

module _ (p : Params) (l : List ℕ) (range : in_range p ≡ true) (sound : list_verdict p l ≡ Ok tt) where
  -- Every module is a data module, one of a pattern, or one of an entry.
  pub module_count : sum_from 0 (columns p) (column_data p l (rows p)) + entries l + pattern_modules p.kind p.horizontal p.vertical
      ≡ columns p * rows p
  module_count =
      omega (arith, data_free p l, free_left p l (sound_list p l sound) (entries l) (omega arith), free_first p l, pattern_count p range)

  -- The modules that are neither of a pattern nor of an entry number exactly D.
  pub data_count : sum_from 0 (columns p) (column_data p l (rows p)) ≡ (data_modules p.kind p.horizontal p.vertical (entries l)).0
  unfolding data_modules
  data_count = omega (arith, module_count)

  -- Patterns and entries together take no more than all modules.
  pub fixed_most : pattern_modules p.kind p.horizontal p.vertical + entries l ≤ columns p * rows p
  fixed_most = omega (arith, module_count)
