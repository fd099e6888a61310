-- A built block by block: the column orders and the states of the generator in step with the rows.
-- Assumes nothing.
use Prim.Native.Nat.{ℕ, suc, ◌+◌, ◌-◌, ◌*◌, ◌/◌, ◌^◌, ◌%◌, ◌≤◌, ◌<◌}
use mathlib.Core.Path.{◌≡◌, sym, ap, ap₂, ◌∙◌}
use mathlib.Core.Logic.{◌⊎◌, inl, inr, ⊎_elim}
use mathlib.Core.Bool.{Bool, false, xor}
use mathlib.Core.List.{List, [], ◌∷◌}
use native.Mathlib.Nat.{zero-mul, suc-mul, mul_comm, mul-le-mul_right, zero-div, div-lt_iff_lt-mul}
use native.Mathlib.Numerals.{add-one}
use native.Mathlib.Decide.{ℕ_discrete, dec_lt}
use native.Mathlib.Omega.{arith}
use lib.Dec.{eqb}
use lib.ListN.{length, get_or, get_or-eq_default}
use borrow.Author.Tests.{eq-eqb, ne_eqb}
use Rattle.symbology.specs.Generator.{state_after}
use Rattle.symbology.specs.Shuffle.{shuffled}
use Rattle.symbology.specs.Matrix.{matrix_seed, column_order, matrix_a}
use Rattle.laws.proofs.Gf2.{xor_none, none_xor}
use Rattle.laws.proofs.Generator.{after_add}
use Rattle.laws.proofs.Matrix.{order_lt, block_row}
use Rattle.laws.proofs.Shuffle.{shuffled_every}
use Rattle.lent.specs.declared.Areas.{Areas}
use Rattle.lent.specs.Changes.{Changed}
use Rattle.lent.specs.Buffer.{numbers_at, Cleared, CountedUp}
use Rattle.lent.specs.Work.{rows_span, numbers_span, Laid}
use Rattle.lent.proofs.Buffer.{length_numbers, numbers_same}
use Rattle.lent.proofs.Changes.{changed_none, changed_wider, changed_then}
use Rattle.dense.specs.Dense.{dense_bits}
use Rattle.dense.proofs.Dense.{row_gap, column_inside, rows_same}
use Rattle.checks.specs.Checks.{stands_in}
use Rattle.check_matrix.specs.Build.{BlockFits, BlockTurned, Built}

-- ---- places that stay

module _ {a : Areas} {room : ℕ} (l : Laid a room) where
  -- bits of the rows stay where only numbers are changed
  bits_same : {before after : List ℕ} → Changed (numbers_span a ∷ []) before after
      → (i : ℕ) → i < a.checks → (j : ℕ) → j / 8 < a.stride → dense_bits after a.stride i j ≡ dense_bits before a.stride i j
  bits_same {before} {after} c = rows_same before after a.stride a.checks (λ q h. c.kept q (omega arith))

  -- the bits of cleared rows
  bits_cleared : {before after : List ℕ} → Cleared 0 (a.checks * a.stride) before after
      → (i : ℕ) → i < a.checks → (j : ℕ) → j / 8 < a.stride → dense_bits after a.stride i j ≡ false
  unfolding dense_bits
  bits_cleared {before} {after} c i h j g =
      let zero_there : get_or after (i * a.stride + j / 8) 0 ≡ 0 =
      c.zero_in (i * a.stride + j / 8) (omega arith) (omega (arith, row_gap i a.checks a.stride h)) in
      ap (λ (v : ℕ). eqb (v / 2 ^ (j % 8) % 2) 1) zero_there ∙ ap (λ (v : ℕ). eqb (v % 2) 1) (zero-div (2 ^ (j % 8)))

-- ---- the rows of a block

-- a row counted from the first of all blocks
block_bit : (seed t wr block i j : ℕ) → block * t ≤ i → i < block * t + t
    → eqb i (block * t + get_or (column_order seed (t * wr) (suc block)) j 0 / wr) ≡ matrix_a seed t wr i j
block_bit seed t wr block i j h g =
    let q : ℕ = get_or (column_order seed (t * wr) (suc block)) j 0 / wr in
    let r : ℕ = i - block * t in
    let e : block * t + r ≡ i = omega arith in
    elim (ℕ_discrete q r) [
      | yes s ↦ eq-eqb i (block * t + q) (omega arith) ∙ sym (eq-eqb q r s)
      | no s ↦ ne_eqb i (block * t + q) (λ (f : i ≡ block * t + q). s (omega arith)) ∙ sym (ne_eqb q r s)
    ]
    ∙ ap (λ (k : ℕ). eqb (get_or (column_order seed (t * wr) k) j 0 / wr) r) (sym (add-one block))
    ∙ sym (block_row seed t wr block j r (omega arith))
    ∙ ap (λ (x : ℕ). matrix_a seed t wr x j) (ap (λ (x : ℕ). x + r) (mul_comm t block) ∙ e)

-- ---- block by block

-- the areas are those of A with wc blocks of t rows, wr ones to a row
pub record Sized (a : Areas) (t wc wr room : ℕ) : Type 0 where
  pub laid : Laid a room
  pub columns : a.gross ≡ t * wr
  pub rows : a.checks ≡ t * wc
  pub some : 0 < wr

pub sized : {a : Areas} {room : ℕ} (t wc wr : ℕ) → Laid a room × (a.gross ≡ t * wr) × (a.checks ≡ t * wc) × (0 < wr)
    → Sized a t wc wr room
sized t wc wr h = record { laid = h.0; columns = h.1; rows = h.2; some = h.3 }

-- The rows of the first blocks are those of A, the others are 0; the numbers are the column order of the last of these blocks, and
-- the state is that behind its draws.
pub record BlocksBuilt (a : Areas) (t wr block state : ℕ) (before after : List ℕ) : Type 0 where
  pub changed : Changed (rows_span a ∷ numbers_span a ∷ []) before after
  pub states : state ≡ state_after (block * a.gross) matrix_seed
  pub order : numbers_at after a.numbers a.gross ≡ column_order matrix_seed a.gross block
  pub done : (i : ℕ) → i < block * t → i < a.checks → (j : ℕ) → j < a.gross
      → dense_bits after a.stride i j ≡ matrix_a matrix_seed t wr i j
  pub rest : (i : ℕ) → block * t ≤ i → i < a.checks → (j : ℕ) → j < a.gross → dense_bits after a.stride i j ≡ false
  pub past : (i : ℕ) → i < a.checks → (j : ℕ) → a.gross ≤ j → j / 8 < a.stride → dense_bits after a.stride i j ≡ false

pub blocks_start : {a : Areas} {room : ℕ} (t wr : ℕ) {entry cleared counted : List ℕ} → Laid a room
    → Cleared 0 (a.checks * a.stride) entry cleared → CountedUp a.numbers a.gross cleared counted
    → BlocksBuilt a t wr 0 matrix_seed counted counted
unfolding state_after column_order
blocks_start {a} t wr {counted = counted} l c n =
    record {
      changed = changed_none (rows_span a ∷ numbers_span a ∷ []) counted;
      states = sym (ap (λ (k : ℕ). state_after k matrix_seed) (zero-mul a.gross));
      order = n.counted;
      done = λ i h. absurd (omega (arith, zero-mul t));
      rest = λ i h g j k. bits_same l n.changed i g j (column_inside l j k) ∙ bits_cleared l c i g j (column_inside l j k);
      past = λ i h j g k. bits_same l n.changed i h j k ∙ bits_cleared l c i h j k;
    }

module _ {a : Areas} {t wc wr room block state : ℕ} {before work : List ℕ} (s : Sized a t wc wr room)
    (b : BlocksBuilt a t wr block state before work) where
  -- a further block ends before the rows do
  pub block_end : block < wc → block * t + t ≤ a.checks
  block_end h = omega (arith, s.rows, suc-mul block t, mul-le-mul_right t h, mul_comm t wc)

  -- a column order leads to one of t rows
  quotient_lt : (k j : ℕ) → j < a.gross → get_or (column_order matrix_seed a.gross k) j 0 / wr < t
  quotient_lt k j h = (div-lt_iff_lt-mul s.some).1 (omega (arith, s.columns, order_lt matrix_seed a.gross k j h))

  -- each number is a column
  number_lt : 0 < a.gross → (i : ℕ) → get_or (numbers_at work a.numbers a.gross) i 0 < a.gross
  number_lt some i =
      elim (dec_lt i a.gross) [
        | yes h ↦ rw b.order (order_lt matrix_seed a.gross block i h)
        | no h ↦
            let past : length (numbers_at work a.numbers a.gross) ≤ i = omega (arith, length_numbers work a.numbers a.gross) in
            rw (get_or-eq_default (numbers_at work a.numbers a.gross) 0 {n = i} past) some
      ]

  -- the numbers, shuffled from any state, lead to t rows
  pub block_fits : (mixed : List ℕ) (from first : ℕ)
      → numbers_at mixed a.numbers a.gross ≡ shuffled 0 from (numbers_at work a.numbers a.gross)
      → first + t ≤ a.checks → BlockFits a wr first mixed
  block_fits mixed from first e h =
      record {
        some = s.some;
        inside = λ j g.
            rw e
            (let numbers : List ℕ = numbers_at work a.numbers a.gross in
            let each = shuffled_every 0 (λ (c : ℕ). c < a.gross) from numbers (number_lt (omega arith)) j in
            let low : get_or (shuffled 0 from numbers) j 0 / wr < t = (div-lt_iff_lt-mul s.some).1 (omega (arith, s.columns, each)) in
            omega arith);
      }

  -- the column order is shuffled
  module _ (mixed : List ℕ) (e : numbers_at mixed a.numbers a.gross ≡ shuffled 0 state (numbers_at work a.numbers a.gross)) where
    order_next : numbers_at mixed a.numbers a.gross ≡ column_order matrix_seed a.gross (suc block)
    unfolding column_order
    order_next = e ∙ ap₂ (shuffled 0) b.states b.order

    -- the block is turned
    module _ {later : List ℕ} (m : Changed (numbers_span a ∷ []) work mixed)
        (d : BlockTurned a wr (block * t) mixed later) where
      bits_next : (i : ℕ) → i < a.checks → (j : ℕ) → j < a.gross
          → dense_bits later a.stride i j
          ≡ xor (dense_bits work a.stride i j) (eqb i (block * t + get_or (column_order matrix_seed a.gross (suc block)) j 0 / wr))
      bits_next i h j g =
          d.bits i h j g
          ∙ ap₂ (λ (x : Bool) (o : List ℕ). xor x (eqb i (block * t + get_or o j 0 / wr)))
          (bits_same s.laid m i h j (column_inside s.laid j g)) order_next

      -- rows outside the block stay
      bits_outside : (i : ℕ) → i < a.checks → (j : ℕ) → j < a.gross → (i < block * t) ⊎ (block * t + t ≤ i)
          → dense_bits later a.stride i j ≡ dense_bits work a.stride i j
      bits_outside i h j g o =
          let q : ℕ = get_or (column_order matrix_seed a.gross (suc block)) j 0 / wr in
          let low : q < t = quotient_lt (suc block) j g in
          bits_next i h j g
          ∙ ap (xor (dense_bits work a.stride i j))
          (ne_eqb i (block * t + q) (λ (f : i ≡ block * t + q). ⊎_elim (λ x. omega arith) (λ x. omega arith) o))
          ∙ xor_none (dense_bits work a.stride i j)

      -- rows of the block are those of A
      bits_inside : (i : ℕ) → i < a.checks → (j : ℕ) → j < a.gross → block * t ≤ i → i < block * t + t
          → dense_bits later a.stride i j ≡ matrix_a matrix_seed t wr i j
      bits_inside i h j g from to =
          let f : ℕ → Bool = λ n. eqb i (block * t + get_or (column_order matrix_seed n (suc block)) j 0 / wr) in
          bits_next i h j g
          ∙ ap₂ xor (b.rest i from h j g) (ap f s.columns ∙ block_bit matrix_seed t wr block i j from to)
          ∙ none_xor (matrix_a matrix_seed t wr i j)

      pub blocks_next : {next : ℕ} → next ≡ state_after a.gross state → BlocksBuilt a t wr (block + 1) next before later
      blocks_next {next} f =
          let more : (block + 1) * t ≡ block * t + t = ap (λ (k : ℕ). k * t) (add-one block) ∙ suc-mul block t in
          record {
            changed =
                changed_then (changed_then b.changed (changed_wider m (λ q o. (o.1.0, tt))))
                (changed_wider d.changed (λ q o. (o.0, tt)));
            states =
                f
                ∙ ap (state_after a.gross) b.states
                ∙ sym (after_add (block * a.gross) a.gross matrix_seed)
                ∙ ap (λ (k : ℕ). state_after k matrix_seed) (sym (ap (λ (k : ℕ). k * a.gross) (add-one block) ∙ suc-mul block a.gross));
            order =
                numbers_same mixed later a.numbers a.gross (λ i h g. d.changed.kept i (omega (arith, s.laid)))
                ∙ order_next
                ∙ ap (column_order matrix_seed a.gross) (sym (add-one block));
            done = λ i k h j g.
                elim (dec_lt i (block * t)) [
                  | yes o ↦ bits_outside i h j g (inl o) ∙ b.done i o h j g
                  | no o ↦ bits_inside i h j g (omega arith) (omega arith)
                ];
            rest = λ i k h j g. bits_outside i h j g (inr (omega arith)) ∙ b.rest i (omega arith) h j g;
            past = λ i h j g k. d.past i j g k ∙ bits_same s.laid m i h j k ∙ b.past i h j g k;
          }

  -- the last block is built
  pub blocks_done : {entry cleared : List ℕ} → Cleared 0 (a.checks * a.stride) entry cleared
      → CountedUp a.numbers a.gross cleared before → block ≡ wc → Built a t wc wr entry work
  unfolding stands_in
  blocks_done {entry} c n e =
      let all : wc * t ≤ block * t = mul-le-mul_right t (omega arith) in
      record {
        built = record {
          changed =
              changed_then
              (changed_then (changed_wider c.changed (λ q o. (o.0, tt))) (changed_wider n.changed (λ q o. (o.1.0, tt))))
              b.changed;
          holds = λ i k j g. b.done i (omega (arith, s.rows, mul_comm t wc)) k j g;
        };
        past = b.past;
        order = b.order ∙ ap (column_order matrix_seed a.gross) e;
      }
