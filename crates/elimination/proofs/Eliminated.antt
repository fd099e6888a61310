-- The columns of the buffer's matrix eliminated from the last to the first: before the first step, and the step of a message column
-- and of a check column.
-- Assumes nothing.
use Prim.Native.Nat.{ℕ, suc, ◌+◌, ◌*◌, ◌≤◌, ◌<◌}
use mathlib.Core.Path.{◌≡◌, refl, sym, ap, ap₂, ◌∙◌, subst⁻¹}
use mathlib.Core.Bool.{Bool, true, false, not, ◌&&◌, ◌||◌, xor, and-false}
use mathlib.Core.List.{List, [], ◌∷◌}
use native.Mathlib.Decide.{ℕ_discrete, dec_lt}
use native.Mathlib.Omega.{arith}
use lib.Dec.{ltb, eqb}
use lib.ListN.{length, get_or, set}
use lib.Seq.{get_or-set_same, get_or-set_other}
use borrow.Author.Tests.{eq-eqb, ne_eqb, lt-ltb, le-ltb, not-false, not-true}
use Rattle.symbology.specs.Ranges.{lowest}
use Rattle.symbology.specs.Matrix.{BitMatrix}
use Rattle.symbology.specs.Codeword.{is_check_column}
use Rattle.symbology.proofs.Ranges.{and_left, and_right}
use Rattle.laws.proofs.Ranges.{lowest_holds, lowest_before, lowest_to}
use Rattle.laws.proofs.Columns.{check_laws}
use Rattle.laws.proofs.Elimination.{start, inv_ext, clear_message, clear_step, pivot_check, pivot_step}
use Rattle.laws.specs.Elimination.{Inv}
use Rattle.lent.specs.declared.Areas.{Areas}
use Rattle.lent.specs.Changes.{Changed}
use Rattle.lent.specs.Buffer.{stored_number, Cleared}
use Rattle.lent.specs.Work.{rows_span, marks_span, numbers_span, Laid}
use Rattle.lent.proofs.Buffer.{number_same, stored_there}
use Rattle.lent.proofs.Changes.{changed_none, changed_wider, changed_then, changed_set, changed_stored, number_other}
use Rattle.lent.proofs.Work.{marks_inside, numbers_inside}
use Rattle.dense.proofs.Dense.{rows_kept}
use Rattle.elimination.specs.Reduced.{is_unmarked, is_free, is_used, row_of, MarkedBefore, EndsAt, is_added}
use Rattle.elimination.specs.Reduced.{ColumnCleared, EliminatedFrom, Eliminated}
use Rattle.elimination.proofs.Cleared.{rows}

-- whether a column is a check column
abbrev is_check : Areas → BitMatrix → ℕ → Bool
is_check a m = is_check_column a.checks a.gross m

-- what holds of the rows, marks and numbers of a buffer when the columns from j on are eliminated
abbrev InvOf : Areas → BitMatrix → List ℕ → ℕ → Type 0
InvOf a m work j = Inv a.checks a.gross m (is_check a m) (rows a work) (is_used a work) (row_of a work) j

-- ---- the state

-- the columns from j on are eliminated, and only rows, marks and numbers are changed
pub record Eliminating (a : Areas) (j : ℕ) (before after : List ℕ) : Type 0 where
  pub left : j ≤ a.gross
  pub changed : Changed (rows_span a ∷ marks_span a ∷ numbers_span a ∷ []) before after
  whole : EliminatedFrom a (rows a before) j after

-- Before the first step no row is marked.
pub eliminating_start : {a : Areas} {before after : List ℕ} → Laid a (length before)
    → Cleared a.marks (a.marks + a.checks) before after → Eliminating a a.gross before after
eliminating_start {a} {before} {after} l c =
    let m : BitMatrix = rows a before in
    record {
      left = omega arith;
      changed = changed_wider c.changed (λ q o. (o.1.0, tt));
      whole = record {
        reduced = start a.checks a.gross m (is_check a m) (rows a after) (is_used a after) (row_of a after)
            (rows_kept l c.changed (λ q h. omega arith))
            (λ i h. ap (λ (v : ℕ). not (eqb v 0)) (c.zero_in (a.marks + i) (omega arith) (omega arith)));
        judged = λ x h g. absurd (omega arith);
        most = λ x h g. absurd (omega arith);
        marks = λ i h. omega (arith, c.zero_in (a.marks + i) (omega arith) (omega arith));
      };
    }

-- after the last step
pub eliminating_all : {a : Areas} {before after : List ℕ} → Eliminating a 0 before after → Eliminated a before after
eliminating_all e = record { changed = e.changed; whole = e.whole }

-- ---- the step of column j

module _ {a : Areas} {j pivot : ℕ} {before work : List ℕ} (l : Laid a (length before))
    (e : Eliminating a (suc j) before work) (found : pivot ≡ lowest (is_free a work j) a.checks 0) where
  -- the matrix
  abbrev m : BitMatrix
  m = rows a before

  -- the buffer with the number of the column's row
  abbrev noted : List ℕ
  noted = stored_number work (a.numbers + 2 * j) pivot

  number_noted : Changed (numbers_span a ∷ []) work noted
  number_noted =
      changed_stored (changed_none (numbers_span a ∷ []) work) (a.numbers + 2 * j) pivot
      (λ o. omega (arith, o.0 (omega arith), e.left)) (λ o. omega (arith, o.0 (omega arith), e.left))

  -- rows and marks are as before
  noted_bits : (i : ℕ) → i < a.checks → (c : ℕ) → c < a.gross → rows a noted i c ≡ rows a work i c
  noted_bits = rows_kept l number_noted (λ q h. omega arith)

  noted_mark : (i : ℕ) → i < a.checks → get_or noted (a.marks + i) 0 ≡ get_or work (a.marks + i) 0
  noted_mark i h = number_noted.kept (a.marks + i) (omega arith)

  noted_unmarked : (i : ℕ) → i < a.checks → is_unmarked a noted i ≡ is_unmarked a work i
  noted_unmarked i h = ap (λ (v : ℕ). eqb v 0) (noted_mark i h)

  noted_used : (i : ℕ) → i < a.checks → is_used a noted i ≡ is_used a work i
  noted_used i h = ap not (noted_unmarked i h)

  -- the numbers of later columns are as before
  noted_later : (c : ℕ) → j < c → row_of a noted c ≡ row_of a work c
  noted_later c h = number_other work a.numbers j pivot c (λ f. omega arith)

  -- that of column j is the row found
  noted_row : row_of a noted j ≡ pivot
  noted_row = stored_there work (a.numbers + 2 * j) pivot (omega (arith, numbers_inside l, e.left, e.changed.long))

  noted_changed : Changed (rows_span a ∷ marks_span a ∷ numbers_span a ∷ []) before noted
  noted_changed = changed_then e.changed (changed_wider number_noted (λ q o. o.1.1))

  noted_inv : InvOf a m noted (suc j)
  noted_inv =
      inv_ext a.checks a.gross m (is_check a m) (rows a work) (rows a noted) (is_used a work) (is_used a noted)
      (row_of a work) (row_of a noted) (suc j) e.whole.reduced noted_bits noted_used (λ c h g. noted_later c (omega arith))

  noted_judged : (c : ℕ) → j < c → c < a.gross → ltb (row_of a noted c) a.checks ≡ is_check a m c
  noted_judged c h g = ap (λ (x : ℕ). ltb x a.checks) (noted_later c h) ∙ e.whole.judged c (omega arith) g

  noted_most : (c : ℕ) → j ≤ c → c < a.gross → row_of a noted c ≤ a.checks
  noted_most c h g =
      elim (ℕ_discrete c j) [
        | yes same ↦ rw same (omega (arith, noted_row, found, lowest_to (is_free a work j) a.checks 0))
        | no other ↦ omega (arith, noted_later c (omega arith), e.whole.most c (omega arith) g)
      ]

  noted_marks : (i : ℕ) → i < a.checks → get_or noted (a.marks + i) 0 ≤ 1
  noted_marks i h = omega (arith, noted_mark i h, e.whole.marks i h)

  -- a row that had a mark has one
  pub noted_before : {first : ℕ} → first ≤ a.checks → MarkedBefore a work first
      → MarkedBefore a (stored_number work (a.numbers + 2 * j) pivot) first
  noted_before h m i g = noted_unmarked i (omega arith) ∙ m i g

  -- ---- no row is free

  module _ (end : a.checks ≤ pivot) where
    -- the column is 0 in all unused rows
    zeros : (i : ℕ) → i < a.checks → is_used a noted i ≡ false → rows a noted i j ≡ false
    zeros i h u =
        let unmarked : is_unmarked a work i ≡ true = not-false (is_unmarked a work i) (sym (noted_used i h) ∙ u) in
        noted_bits i h j (omega (arith, e.left))
        ∙ sym (ap (λ (b : Bool). b && rows a work i j) unmarked)
        ∙ lowest_before (is_free a work j) a.checks 0 i (omega arith) (omega arith)

    message_column : is_check a m j ≡ false
    message_column =
        clear_message a.checks a.gross m (is_check a m) (rows a noted) (is_used a noted) (row_of a noted)
        (check_laws a.checks a.gross m) j (omega (arith, e.left)) noted_inv zeros

    pub message_step : Eliminating a j before (stored_number work (a.numbers + 2 * j) pivot)
    message_step =
        record {
          left = omega (arith, e.left);
          changed = noted_changed;
          whole = record {
            reduced = clear_step a.checks a.gross m (is_check a m) (rows a noted) (is_used a noted) (row_of a noted) j
                noted_inv message_column zeros;
            judged = λ c h g.
                elim (ℕ_discrete c j) [
                  | yes same ↦ rw same (le-ltb (row_of a noted j) a.checks (omega (arith, noted_row)) ∙ sym message_column)
                  | no other ↦ noted_judged c (omega arith) g
                ];
            most = noted_most;
            marks = noted_marks;
          };
        }

  -- ---- a row is free

  module _ (less : pivot < a.checks) where
    -- the row found has no mark and has a 1 in the column
    free : is_free a work j pivot ≡ true
    free = subst⁻¹ (λ (x : ℕ). is_free a work j x ≡ true) found (lowest_holds (is_free a work j) a.checks 0 (omega arith))

    unused : is_used a noted pivot ≡ false
    unused = noted_used pivot less ∙ ap not (and_left (eqb (get_or work (a.marks + pivot) 0) 0) (rows a work pivot j) free)

    one : rows a noted pivot j ≡ true
    one = noted_bits pivot less j (omega (arith, e.left)) ∙ and_right (is_unmarked a work pivot) (rows a work pivot j) free

    check_column : is_check a m j ≡ true
    check_column =
        pivot_check a.checks a.gross m (is_check a m) (rows a noted) (is_used a noted) (row_of a noted)
        (check_laws a.checks a.gross m) j (omega (arith, e.left)) noted_inv pivot less unused one

    -- the pivot row is added to the later rows that are free, and no earlier row is
    own_not : is_added a noted pivot j pivot ≡ false
    own_not = ap (λ (b : Bool). b && is_free a noted j pivot) (le-ltb pivot pivot (omega arith))

    used_not : (i : ℕ) → i < a.checks → is_used a noted i ≡ true → is_added a noted pivot j i ≡ false
    used_not i h v =
        ap (λ (b : Bool). ltb pivot i && (b && rows a noted i j)) (not-true (is_unmarked a noted i) v) ∙ and-false (ltb pivot i)

    free_is : (i : ℕ) → i < a.checks → is_used a noted i ≡ false → (i ≡ pivot → ⊥) → is_added a noted pivot j i ≡ rows a noted i j
    free_is i h v other =
        let unmarked : is_unmarked a noted i ≡ true = not-false (is_unmarked a noted i) v in
        elim (dec_lt pivot i) [
          | yes late ↦ ap₂ (λ (b z : Bool). b && (z && rows a noted i j)) (lt-ltb pivot i late) unmarked
          | no early ↦
              let before_it : is_free a work j i ≡ false = lowest_before (is_free a work j) a.checks 0 i (omega arith) (omega arith) in
              ap (λ (b : Bool). b && is_free a noted j i) (le-ltb pivot i (omega arith))
              ∙ sym before_it
              ∙ ap (λ (b : Bool). b && rows a work i j) (sym (noted_unmarked i h) ∙ unmarked)
              ∙ sym (noted_bits i h j (omega (arith, e.left)))
        ]

    -- the pivot row is 0 behind the column
    pub pivot_ends : EndsAt a (stored_number work (a.numbers + 2 * j) pivot) pivot j
    pivot_ends c h g = noted_inv.none pivot less unused c (omega arith) g

    module _ {later : List ℕ} (d : ColumnCleared a pivot j (stored_number work (a.numbers + 2 * j) pivot) later) where
      -- the buffer with the row marked
      abbrev marked : List ℕ
      marked = set later (a.marks + pivot) 1

      marked_changed : Changed (marks_span a ∷ []) later marked
      marked_changed = changed_set (changed_none (marks_span a ∷ []) later) (a.marks + pivot) 1 (λ o. omega (arith, o.0 (omega arith)))

      -- the mark stands behind the rows
      marked_bits : (i : ℕ) → i < a.checks → (c : ℕ) → c < a.gross
          → rows a marked i c ≡ xor (rows a noted i c) (is_added a noted pivot j i && rows a noted pivot c)
      marked_bits i h c g = rows_kept l marked_changed (λ q b. omega arith) i h c g ∙ d.bits i h c g

      -- behind the rows only the mark is changed
      beyond : (i : ℕ) → a.marks ≤ i → (i ≡ a.marks + pivot → ⊥) → get_or marked i 0 ≡ get_or noted i 0
      beyond i h other = get_or-set_other later (a.marks + pivot) i 1 0 other ∙ d.changed.kept i (omega arith)

      -- the mark of the pivot row
      mark : get_or marked (a.marks + pivot) 0 ≡ 1
      mark = get_or-set_same later (a.marks + pivot) 1 0 (omega (arith, marks_inside l, d.changed.long, noted_changed.long))

      marked_used : (i : ℕ) → i < a.checks → is_used a marked i ≡ (eqb i pivot || is_used a noted i)
      marked_used i h =
          elim (ℕ_discrete i pivot) [
            | yes same ↦
                rw same
                (ap (λ (v : ℕ). not (eqb v 0)) mark ∙ sym (ap (λ (b : Bool). b || is_used a noted pivot) (eq-eqb pivot pivot refl)))
            | no other ↦
                ap (λ (v : ℕ). not (eqb v 0)) (beyond (a.marks + i) (omega arith) (λ f. other (omega arith)))
                ∙ sym (ap (λ (b : Bool). b || is_used a noted i) (ne_eqb i pivot other))
          ]

      -- the numbers stay
      marked_row : (c : ℕ) → row_of a marked c ≡ row_of a noted c
      marked_row c =
          number_same noted marked (a.numbers + 2 * c)
          (beyond (a.numbers + 2 * c) (omega arith) (λ f. omega arith)) (beyond (a.numbers + 2 * c + 1) (omega arith) (λ f. omega arith))

      pub check_step : Eliminating a j before (set later (a.marks + pivot) 1)
      check_step =
          record {
            left = omega (arith, e.left);
            changed =
                changed_then (changed_then noted_changed (changed_wider d.changed (λ q o. (o.0, tt))))
                (changed_wider marked_changed (λ q o. (o.1.0, tt)));
            whole = record {
              reduced = pivot_step a.checks a.gross m (is_check a m) (rows a noted) (is_used a noted) (row_of a noted)
                  j (omega (arith, e.left)) noted_inv check_column pivot less unused one
                  (is_added a noted pivot j) own_not used_not free_is (rows a marked) (is_used a marked) (row_of a marked)
                  marked_bits marked_used (λ c h g. marked_row c) (marked_row j ∙ noted_row);
              judged = λ c h g.
                  elim (ℕ_discrete c j) [
                    | yes same ↦
                        rw same (lt-ltb (row_of a marked j) a.checks (omega (arith, marked_row j, noted_row)) ∙ sym check_column)
                    | no other ↦ ap (λ (x : ℕ). ltb x a.checks) (marked_row c) ∙ noted_judged c (omega arith) g
                  ];
              most = λ c h g. omega (arith, marked_row c, noted_most c h g);
              marks = λ i h.
                  elim (ℕ_discrete i pivot) [
                    | yes same ↦ rw same (omega (arith, mark))
                    | no other ↦ omega (arith, beyond (a.marks + i) (omega arith) (λ f. other (omega arith)), noted_marks i h)
                  ];
            };
          }

      -- a row that had a mark has one
      pub marked_before : {first : ℕ} → first ≤ a.checks → MarkedBefore a work first
          → MarkedBefore a (set later (a.marks + pivot) 1) first
      marked_before h m i g =
          elim (ℕ_discrete i pivot) [
            | yes same ↦ rw same (ap (λ (v : ℕ). eqb v 0) mark)
            | no other ↦
                ap (λ (v : ℕ). eqb v 0) (beyond (a.marks + i) (omega arith) (λ f. other (omega arith)))
                ∙ noted_unmarked i (omega arith) ∙ m i g
          ]
