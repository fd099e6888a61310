-- The ones of a block turned column by column: in each column one bit, in the row to which the column order leads.
-- Assumes nothing.
use Prim.Native.Nat.{ℕ, ◌+◌, ◌*◌, ◌/◌, ◌≤◌, ◌<◌}
use mathlib.Core.Path.{◌≡◌, refl, sym, ap, ap₂, ◌∙◌}
use mathlib.Core.Bool.{Bool, ◌&&◌, xor, and-true, and-false}
use mathlib.Core.List.{List, [], ◌∷◌}
use native.Mathlib.Decide.{ℕ_discrete, dec_lt}
use native.Mathlib.Omega.{arith}
use lib.Dec.{eqb, ltb}
use lib.ListN.{length, get_or}
use borrow.Author.Tests.{eq-eqb, ne_eqb, lt-ltb, le-ltb}
use Rattle.laws.proofs.Gf2.{xor_none}
use Rattle.lent.specs.declared.Areas.{Areas}
use Rattle.lent.specs.Changes.{Changed}
use Rattle.lent.specs.Buffer.{number_at, numbers_at}
use Rattle.lent.specs.Work.{rows_span, Laid}
use Rattle.lent.proofs.Buffer.{numbers_at_lem, number_same}
use Rattle.lent.proofs.Changes.{changed_none, changed_wider, changed_then, outside_in}
use Rattle.lent.proofs.Work.{marks_inside}
use Rattle.dense.specs.Dense.{dense_bits, Turned}
use Rattle.dense.proofs.Dense.{row_gap, column_inside, bit_inside}
use Rattle.check_matrix.specs.Build.{BlockFits}

-- the row in which the block has its 1 of a column
abbrev one_row : Areas → ℕ → ℕ → List ℕ → ℕ → ℕ
one_row a wr first xs c = first + get_or (numbers_at xs a.numbers a.gross) c 0 / wr

-- the bits of the columns below j are turned
pub record TurningBlock (a : Areas) (wr first j : ℕ) (before after : List ℕ) : Type 0 where
  pub inside : j ≤ a.gross
  pub changed : Changed (rows_span a ∷ []) before after
  pub bits : (i c : ℕ)
      → c < a.gross
      → dense_bits after a.stride i c ≡ xor (dense_bits before a.stride i c) (ltb c j && eqb i (one_row a wr first before c))
  pub past : (i c : ℕ) → a.gross ≤ c → c / 8 < a.stride → dense_bits after a.stride i c ≡ dense_bits before a.stride i c

pub turning_start : (a : Areas) (wr first : ℕ) (xs : List ℕ) → TurningBlock a wr first 0 xs xs
turning_start a wr first xs =
    record {
      inside = omega arith;
      changed = changed_none (rows_span a ∷ []) xs;
      bits = λ i c h.
          sym (ap (λ (t : Bool). xor (dense_bits xs a.stride i c) (t && eqb i (one_row a wr first xs c))) (le-ltb c 0 (omega arith))
          ∙ xor_none (dense_bits xs a.stride i c));
      past = λ i c h g. refl;
    }

-- a column other than j is below j + 1 where it is below j
below_other : (c j : ℕ) → (c ≡ j → ⊥) → ltb c j ≡ ltb c (j + 1)
below_other c j e =
    elim (dec_lt c j) [
      | yes l ↦ lt-ltb c j l ∙ sym (lt-ltb c (j + 1) (omega arith))
      | no l ↦ le-ltb c j (omega arith) ∙ sym (le-ltb c (j + 1) (omega arith))
    ]

module _ {a : Areas} {wr first j : ℕ} {before after : List ℕ} {room : ℕ} (l : Laid a room) (f : BlockFits a wr first before)
    (r : TurningBlock a wr first j before after) where
  -- the column order stays, as it lies behind the rows
  turning_number : j < a.gross → number_at after (a.numbers + 2 * j) ≡ get_or (numbers_at before a.numbers a.gross) j 0
  turning_number h =
      let at : ℕ = a.numbers + 2 * j in
      number_same before after at (r.changed.kept at (omega arith)) (r.changed.kept (at + 1) (omega arith))
      ∙ sym (numbers_at_lem before a.numbers a.gross j h)

  -- the row of the next bit is one of the matrix
  pub turning_row : {v : ℕ} → j < a.gross → v ≡ number_at after (a.numbers + 2 * j) → first + v / wr < a.checks
  turning_row {v} h e = rw (e ∙ turning_number h) (f.inside j h)

  -- its byte lies in that row, and the row in the buffer
  pub turning_place : {v : ℕ} → length before ≡ room → j < a.gross → v ≡ number_at after (a.numbers + 2 * j)
      → ((first + v / wr) * a.stride + j / 8 < length after) × (j / 8 < a.stride)
  turning_place {v} k h e =
      let row = turning_row h e in
      (omega (arith, bit_inside l (first + v / wr) j row h, marks_inside l, r.changed.long), column_inside l j h)

  pub turning_next : {v : ℕ} {later : List ℕ} → j < a.gross → v ≡ number_at after (a.numbers + 2 * j)
      → Turned a.stride (first + v / wr) j after later
      → TurningBlock a wr first (j + 1) before later
  turning_next {v} {later} h e t =
      let stride : ℕ = a.stride in
      let order : ℕ → ℕ = one_row a wr first before in
      let row : ℕ = first + v / wr in
      let same : row ≡ order j = ap (λ (x : ℕ). first + x / wr) (e ∙ turning_number h) in
      record {
        inside = omega arith;
        changed =
            let end : row * stride + stride ≤ a.checks * stride = row_gap row a.checks stride (turning_row h e) in
            changed_then r.changed
            (changed_wider t.changed (λ q o. (outside_in (row * stride) (row * stride + stride) (omega arith) end o.0, tt)));
        bits = λ i c g.
            let was : Bool = dense_bits before stride i c in
            t.bits i c (column_inside l c g)
            ∙ ap (λ (b : Bool). xor b (eqb i row && eqb c j)) (r.bits i c g)
            ∙ elim (ℕ_discrete c j) [
              | yes s ↦
                  ap₂ (λ (x y : Bool). xor (xor was (x && eqb i (order c))) (eqb i row && y)) (le-ltb c j (omega arith)) (eq-eqb c j s)
                  ∙ ap₂ xor (xor_none was) (and-true (eqb i row) ∙ ap (λ (x : ℕ). eqb i x) (same ∙ ap order (sym s)))
                  ∙ sym (ap (λ (x : Bool). xor was (x && eqb i (order c))) (lt-ltb c (j + 1) (omega arith)))
              | no s ↦
                  ap₂ (λ (x y : Bool). xor (xor was (x && eqb i (order c))) (eqb i row && y)) (below_other c j s) (ne_eqb c j s)
                  ∙ ap (xor (xor was (ltb c (j + 1) && eqb i (order c)))) (and-false (eqb i row))
                  ∙ xor_none (xor was (ltb c (j + 1) && eqb i (order c)))
            ];
        past = λ i c g k.
            t.bits i c k
            ∙ ap (λ (b : Bool). xor (dense_bits after stride i c) (eqb i row && b)) (ne_eqb c j (λ s. omega arith))
            ∙ ap (xor (dense_bits after stride i c)) (and-false (eqb i row))
            ∙ xor_none (dense_bits after stride i c)
            ∙ r.past i c g k;
      }
