-- What the modules hold that hold no data: a module of a pattern its colour, a module of a list entry the entry's. Neither bits nor
-- mask change them.
-- Assumes nothing.
use Prim.Native.Nat.{ℕ, ◌+◌, ◌-◌, ◌*◌, ◌<◌}
use mathlib.Core.Path.{◌≡◌, refl, ap, ◌∙◌}
use mathlib.Core.Bool.{Bool, true, false}
use mathlib.Core.List.{List}
use native.Mathlib.Omega.{arith}
use native.Mathlib.Decide.{dec_lt, ℕ_discrete}
use lib.Dec.{eqb, ltb}
use lib.ListN.{get_or}
use borrow.Author.Tests.{eqb-true, lt-ltb, ltb-true}
use Rattle.symbology.specs.declared.Params.{Params}
use Rattle.symbology.specs.declared.PatternColour.{PatternColour}
use Rattle.std.specs.Prelude.{Option, Some, None}
use Rattle.symbology.specs.Ranges.{lowest}
use Rattle.symbology.specs.Sides.{columns, rows}
use Rattle.symbology.specs.Patterns.{covered, pattern_colour}
use Rattle.symbology.specs.Reserved.{entries, entry_column, entry_row, entry_colour, entry_at, first_entry}
use Rattle.symbology.specs.Placement.{pattern_cell, cell_of, cell_at, on_cell, data_module, module_at, filled}
use Rattle.symbology.proofs.Ranges.{clash, and_left, and_right}
use Rattle.laws.proofs.Ranges.{by, lowest_holds, lowest_before}
use Rattle.laws.proofs.Reserved.{SoundList, entries_differ, entry_own, listed}
use Rattle.laws.proofs.Placement.{get_or_filled}

-- ---- cells

-- an entry that stands at column x, row y
stands_at : (l : List ℕ) (x y k : ℕ) → entry_at l x y k ≡ true → (entry_column l k ≡ x) × (entry_row l k ≡ y)
unfolding entry_at
stands_at l x y k e =
    let a : Bool = eqb (entry_column l k) x in
    let b : Bool = eqb (entry_row l k) y in
    (eqb-true (entry_column l k) x (and_left a b e), eqb-true (entry_row l k) y (and_right a b e))

-- the first entry at an entry's place is that entry
pub entry_first : (p : Params) (l : List ℕ) → SoundList p l → (k : ℕ) → k < entries l
    → first_entry l (entries l) (entry_column l k) (entry_row l k) ≡ k
unfolding first_entry
entry_first p l s k h =
    let f : ℕ → Bool = entry_at l (entry_column l k) (entry_row l k) in
    let i : ℕ = lowest f (entries l) 0 in
    elim (dec_lt k i) [
      | yes before ↦ clash (entry_own l k) (lowest_before f (entries l) 0 k (omega arith) before)
      | no before ↦ elim (ℕ_discrete i k) [
        | yes same ↦ same
        | no other ↦
            let found = lowest_holds f (entries l) 0 (omega arith) in
            absurd (earlier (omega arith) (stands_at l (entry_column l k) (entry_row l k) i found))
      ]
    ]
  where
    earlier : lowest (entry_at l (entry_column l k) (entry_row l k)) (entries l) 0 < k
        → (entry_column l (lowest (entry_at l (entry_column l k) (entry_row l k)) (entries l) 0) ≡ entry_column l k)
        × (entry_row l (lowest (entry_at l (entry_column l k) (entry_row l k)) (entries l) 0) ≡ entry_row l k)
        → ⊥
    earlier less same =
        let i : ℕ = lowest (entry_at l (entry_column l k) (entry_row l k)) (entries l) 0 in
        entries_differ p l s i k less h same.0 same.1

pub entry_cell : (p : Params) (l : List ℕ) → SoundList p l → (k : ℕ) → k < entries l
    → cell_of p l (entry_column l k) (entry_row l k) ≡ Some (entry_colour l k)
unfolding cell_of
entry_cell p l s k h = rw (entry_first p l s k h, lt-ltb k (entries l) h) refl

-- no entry of a sound list stands on a pattern
pub pattern_unlisted : (p : Params) (l : List ℕ) → SoundList p l → (x y : ℕ) → covered (pattern_colour p x y) ≡ true
    → listed l (entries l) x y ≡ false
unfolding first_entry
pattern_unlisted p l s x y on =
    let k : ℕ = lowest (entry_at l x y) (entries l) 0 in
    by (ltb k (entries l)) (λ e. at_entry (ltb-true k (entries l) e)) (λ e. e)
  where
    at_entry : lowest (entry_at l x y) (entries l) 0 < entries l → ltb (lowest (entry_at l x y) (entries l) 0) (entries l) ≡ false
    at_entry h =
        let k : ℕ = lowest (entry_at l x y) (entries l) 0 in
        let place : (entry_column l k ≡ x) × (entry_row l k ≡ y) =
        stands_at l x y k (lowest_holds (entry_at l x y) (entries l) 0 (omega arith)) in
        let off : covered (pattern_colour p (entry_column l k) (entry_row l k)) ≡ false = (s.entry k h).on_no_pattern in
        clash on (rw (place.0, place.1) at off)

pub pattern_cell_lem : (p : Params) (l : List ℕ) → SoundList p l → (x y : ℕ)
    → covered (pattern_colour p x y) ≡ true
    → cell_of p l x y ≡ pattern_cell p (pattern_colour p x y)
unfolding cell_of
pattern_cell_lem p l s x y on = rw (pattern_unlisted p l s x y on) refl

-- ---- the filled matrix

-- A module that holds no data has its own colour index in a filled matrix, whatever the bits and the mask.
pub fixed_kept : (p : Params) (l bs : List ℕ) (c r f : ℕ)
    → c < columns p
    → r < rows p
    → cell_at p l c r ≡ Some f
    → get_or (filled p l bs) (r * columns p + c) 0 ≡ f
unfolding module_at on_cell
fixed_kept p l bs c r f h k e = get_or_filled p l bs c r h k ∙ ap (λ (z : Option ℕ). on_cell z (data_module p l bs c r)) e

-- a colour that a pattern gives covers its module
fixed_covers : (p : Params) (colour : Option PatternColour) (v : ℕ) → pattern_cell p colour ≡ Some v → covered colour ≡ true
unfolding pattern_cell covered
fixed_covers p None v e = cc
fixed_covers p (Some colour) v e = refl

-- Each module of a pattern has the pattern's colour index.
pub pattern_kept : (p : Params) (l bs : List ℕ)
    → SoundList p l
    → (c r v : ℕ)
    → c < columns p
    → r < rows p
    → pattern_cell p (pattern_colour p (c + 1) (r + 1)) ≡ Some v
    → get_or (filled p l bs) (r * columns p + c) 0 ≡ v
pattern_kept p l bs s c r v h k e =
    let on : covered (pattern_colour p (c + 1) (r + 1)) ≡ true = fixed_covers p (pattern_colour p (c + 1) (r + 1)) v e in
    fixed_kept p l bs c r v h k (pattern_cell_lem p l s (c + 1) (r + 1) on ∙ e)

-- Each module of an entry has the entry's colour index.
pub entry_kept : (p : Params) (l bs : List ℕ)
    → SoundList p l
    → (k : ℕ)
    → k < entries l
    → get_or (filled p l bs) ((entry_row l k - 1) * columns p + (entry_column l k - 1)) 0 ≡ entry_colour l k
entry_kept p l bs s k h =
    let c : ℕ = entry_column l k - 1 in
    let r : ℕ = entry_row l k - 1 in
    let column : c + 1 ≡ entry_column l k = omega (arith, (s.entry k h).column_least) in
    let row : r + 1 ≡ entry_row l k = omega (arith, (s.entry k h).row_least) in
    let cell : cell_at p l c r ≡ Some (entry_colour l k) = rw (column, row) (entry_cell p l s k h) in
    let e = s.entry k h in
    fixed_kept p l bs c r (entry_colour l k)
    (omega (arith, e.column_most, e.column_least)) (omega (arith, e.row_most, e.row_least)) cell
