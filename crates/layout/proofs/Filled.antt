-- A matrix filled module by module, column by column from the left, each downwards. Columns and rows count from 0.
-- Assumes nothing.
use Prim.Native.Nat.{ℕ, ◌+◌, ◌*◌, ◌/◌, ◌%◌, ◌<◌}
use mathlib.Core.Path.{◌≡◌, refl, sym, ◌∙◌}
use mathlib.Core.List.{List}
use mathlib.Core.Logic.{inl, inr, ⊎_elim}
use native.Mathlib.Decide.{ℕ_discrete, dec_lt}
use native.Mathlib.Nat.{mod-lt, div-add-mod', div-lt_iff_lt-mul}
use native.Mathlib.Omega.{arith}
use lib.Arith.{digits_lt, digits_div, digits_mod}
use lib.ListN.{length, set, length-set}
use lib.Seq.{ext_get_or}
use Rattle.symbology.specs.declared.Params.{Params}
use Rattle.symbology.specs.Sides.{columns, rows}
use Rattle.symbology.specs.Placement.{module_at, filled}
use Rattle.laws.proofs.Placement.{length_filled, get_or_index}
use Rattle.laws.proofs.Stores.{store_each}
use Rattle.layout.specs.Walk.{Before, FilledTo}

-- before the first module nothing is asked for
pub filled_start : (p : Params) (l bs matrix : List ℕ) → length matrix ≡ rows p * columns p → FilledTo p l bs matrix 0 0
filled_start p l bs matrix e =
    record {
      whole = e;
      passed = λ i h b. absurd (⊎_elim (λ w. omega arith) (λ w. omega arith) b);
    }

-- a module before (c, r + 1) that is not (c, r) comes before (c, r)
earlier : (w i c r : ℕ) → (i ≡ r * w + c → ⊥) → Before (i % w) (i / w) c (r + 1) → Before (i % w) (i / w) c r
earlier w i c r other (inl b) = inl b
earlier w i c r other (inr b) =
    elim (ℕ_discrete (i / w) r) [
      | yes e ↦ absurd (other (sym (div-add-mod' i w) ∙ rw (e, b.0)))
      | no e ↦ inr (b.0, omega arith)
    ]

-- a module before (c + 1, 0) comes before the end of column c
column_earlier : (w h i c : ℕ) → i / w < h → Before (i % w) (i / w) (c + 1) 0 → Before (i % w) (i / w) c h
column_earlier w h i c k (inl b) =
    elim (dec_lt (i % w) c) [
      | yes l ↦ inl l
      | no l ↦ inr (omega arith, k)
    ]
column_earlier w h i c k (inr b) = absurd (omega arith)

module _ {p : Params} {l bs matrix : List ℕ} where
  -- the module (c, r) is stored
  pub filled_next : {c r : ℕ} → FilledTo p l bs matrix c r → c < columns p → r < rows p
      → FilledTo p l bs (set matrix (r * columns p + c) (module_at p l bs c r)) c (r + 1)
  filled_next {c} {r} f h k =
      record {
        whole = length-set matrix (r * columns p + c) (module_at p l bs c r) ∙ f.whole;
        passed =
            let w : ℕ = columns p in
            store_each (λ i v. i < rows p * w → Before (i % w) (i / w) c (r + 1) → v ≡ module_at p l bs (i % w) (i / w))
            matrix (r * columns p + c) (module_at p l bs c r) (rw f.whole (digits_lt k h))
            (λ i e inside b. f.passed i inside (earlier (columns p) i c r e b))
            (λ inside b. rw (digits_mod r h, digits_div r h) refl);
      }

  -- the column c is filled
  pub filled_column : {c : ℕ} → FilledTo p l bs matrix c (rows p) → FilledTo p l bs matrix (c + 1) 0
  filled_column {c} f =
      record {
        whole = f.whole;
        passed = λ i inside b.
            f.passed i inside (column_earlier (columns p) (rows p) i c ((div-lt_iff_lt-mul (omega arith)).1 inside) b);
      }

  -- all columns are filled
  pub filled_all : FilledTo p l bs matrix (columns p) 0 → matrix ≡ filled p l bs
  filled_all f =
      ext_get_or 0 matrix (filled p l bs) (f.whole ∙ sym (length_filled p l bs))
      (λ i h.
      let inside : i < rows p * columns p = omega (arith, f.whole) in
      f.passed i inside (inl (mod-lt i (omega arith))) ∙ sym (get_or_index p l bs i inside))
