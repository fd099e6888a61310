-- A column cleared: the pivot row is added, one row after the other, to every later row without a mark that has a 1 in the column.
-- Assumes nothing.
use Prim.Native.Nat.{ℕ, ◌+◌, ◌*◌, ◌/◌, ◌≤◌, ◌<◌}
use mathlib.Core.Path.{◌≡◌, refl, sym, ap, ap₂, ◌∙◌}
use mathlib.Core.Bool.{Bool, true, false, ◌&&◌, xor, and-false}
use mathlib.Core.List.{List, [], ◌∷◌}
use native.Mathlib.Decide.{ℕ_discrete, dec_lt}
use native.Mathlib.Omega.{arith}
use lib.Dec.{ltb, eqb}
use borrow.Author.Tests.{eq-eqb, ne_eqb, lt-ltb, le-ltb}
use Rattle.symbology.specs.Matrix.{BitMatrix}
use Rattle.laws.proofs.Gf2.{xor_none}
use Rattle.lent.specs.declared.Areas.{Areas}
use Rattle.lent.specs.Changes.{Changed}
use Rattle.lent.specs.Work.{rows_span, Laid}
use Rattle.lent.proofs.Changes.{changed_none, changed_wider, changed_then, outside_in}
use Rattle.dense.specs.Dense.{dense_bits, RowAdded}
use Rattle.dense.proofs.Dense.{row_gap, column_inside}
use Rattle.elimination.specs.Reduced.{is_unmarked, is_free, EndsAt, is_added, ColumnCleared}

-- the matrix in the buffer
abbrev pub rows : Areas → List ℕ → BitMatrix
rows a work = dense_bits work a.stride

-- the rows before i are done, those from i on are as before
pub record ClearedTo (a : Areas) (pivot j i : ℕ) (before after : List ℕ) : Type 0 where
  pub later : pivot < i
  pub changed : Changed (rows_span a ∷ []) before after
  done : (x : ℕ) → x < i → (c : ℕ) → c < a.gross
      → rows a after x c ≡ xor (rows a before x c) (is_added a before pivot j x && rows a before pivot c)
  rest : (x : ℕ) → i ≤ x → (c : ℕ) → c < a.gross → rows a after x c ≡ rows a before x c

-- nothing is added to a row
none : (a : Areas) (before : List ℕ) (pivot j x c : ℕ) → is_added a before pivot j x ≡ false
    → xor (rows a before x c) (is_added a before pivot j x && rows a before pivot c) ≡ rows a before x c
none a before pivot j x c e = ap (λ (b : Bool). xor (rows a before x c) (b && rows a before pivot c)) e ∙ xor_none (rows a before x c)

-- nothing is added up to the pivot row
not_early : (a : Areas) (before : List ℕ) (pivot j x : ℕ) → x ≤ pivot → is_added a before pivot j x ≡ false
not_early a before pivot j x h = ap (λ (b : Bool). b && is_free a before j x) (le-ltb pivot x h)

-- before the first row behind the pivot row
pub cleared_start : (a : Areas) (pivot j : ℕ) (xs : List ℕ) → ClearedTo a pivot j (pivot + 1) xs xs
cleared_start a pivot j xs =
    record {
      later = omega arith;
      changed = changed_none (rows_span a ∷ []) xs;
      done = λ x h c g. sym (none a xs pivot j x c (not_early a xs pivot j x (omega arith)));
      rest = λ x h c g. refl;
    }

module _ {a : Areas} {pivot j i room : ℕ} {before after : List ℕ} (l : Laid a room) (r : ClearedTo a pivot j i before after) where
  -- the pivot row is as before
  own : (c : ℕ) → c < a.gross → rows a after pivot c ≡ rows a before pivot c
  own c g = r.done pivot r.later c g ∙ none a before pivot j pivot c (not_early a before pivot j pivot (omega arith))

  -- so is the mark of row i
  mark_kept : is_unmarked a after i ≡ is_unmarked a before i
  mark_kept = ap (λ (v : ℕ). eqb v 0) (r.changed.kept (a.marks + i) (omega arith))

  -- Row i stays.
  skipped : is_free a before j i ≡ false → ClearedTo a pivot j (i + 1) before after
  skipped e =
      record {
        later = omega (arith, r.later);
        changed = r.changed;
        done = λ x h c g.
            elim (ℕ_discrete x i) [
              | yes same ↦
                  rw same
                  (r.rest i (omega arith) c g
                  ∙ sym (none a before pivot j i c (ap (λ (b : Bool). ltb pivot i && b) e ∙ and-false (ltb pivot i))))
              | no other ↦ r.done x (omega arith) c g
            ];
        rest = λ x h. r.rest x (omega arith);
      }

  module _ (inside : j < a.gross) where
    -- whether row i is free is as before
    free_kept : is_free a after j i ≡ is_free a before j i
    free_kept = ap₂ ◌&&◌ mark_kept (r.rest i (omega arith) j inside)

    -- Row i has a mark or a 0 in the column.
    pub cleared_skip : is_free a after j i ≡ false → ClearedTo a pivot j (i + 1) before after
    cleared_skip e = skipped (sym free_kept ∙ e)

    -- The pivot row is added to row i, which has no mark and has a 1 in the column.
    pub cleared_add : {later : List ℕ} → EndsAt a before pivot j → i < a.checks → is_free a after j i ≡ true
        → RowAdded a.stride i pivot (j / 8 + 1) after later → ClearedTo a pivot j (i + 1) before later
    cleared_add {later} ends h free d =
        record {
          later = omega (arith, r.later);
          changed =
              let end = row_gap i a.checks a.stride h in
              changed_then r.changed
              (changed_wider d.changed (λ q o. (outside_in (i * a.stride) (i * a.stride + a.stride) (omega arith) end o.0, tt)));
          done = λ x b c g.
              elim (ℕ_discrete x i) [
                | yes same ↦
                    rw same
                    (d.bits i c (column_inside l c g)
                    ∙ ap₂ (λ (b z : Bool). xor b (z && (ltb (c / 8) (j / 8 + 1) && rows a after pivot c)))
                    (r.rest i (omega arith) c g) (eq-eqb i i refl)
                    ∙ ap₂ (λ (b z : Bool). xor (rows a before i c) (b && z)) (sym added) (whole c g))
                | no apart ↦ others x c apart g ∙ r.done x (omega arith) c g
              ];
          rest = λ x b c g. others x c (λ same. omega arith) g ∙ r.rest x (omega arith) c g;
        }
      where
        added : is_added a before pivot j i ≡ true
        added = ap₂ ◌&&◌ (lt-ltb pivot i r.later) (sym free_kept ∙ free)

        -- the pivot row ends with the byte of column j
        whole : (c : ℕ) → c < a.gross → (ltb (c / 8) (j / 8 + 1) && rows a after pivot c) ≡ rows a before pivot c
        whole c g =
            elim (dec_lt (c / 8) (j / 8 + 1)) [
              | yes b ↦ ap₂ ◌&&◌ (lt-ltb (c / 8) (j / 8 + 1) b) (own c g)
              | no b ↦
                  ap (λ (t : Bool). t && rows a after pivot c) (le-ltb (c / 8) (j / 8 + 1) (omega arith)) ∙ sym (ends c (omega arith) g)
            ]

        others : (x c : ℕ) → (x ≡ i → ⊥) → c < a.gross → rows a later x c ≡ rows a after x c
        others x c apart g =
            d.bits x c (column_inside l c g)
            ∙ ap (λ (b : Bool). xor (rows a after x c) (b && (ltb (c / 8) (j / 8 + 1) && rows a after pivot c))) (ne_eqb x i apart)
            ∙ xor_none (rows a after x c)

-- all rows are done
pub cleared_all : {a : Areas} {pivot j i : ℕ} {before after : List ℕ} → a.checks ≤ i → ClearedTo a pivot j i before after
    → ColumnCleared a pivot j before after
cleared_all h r = record { changed = r.changed; bits = λ x l. r.done x (omega arith) }
