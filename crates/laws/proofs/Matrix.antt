-- Laws of the check matrix A: its column orders are permutations, each column stands in wc checks, and each check names wr columns.
-- Assumes nothing.
use Prim.Native.Nat.{ℕ, zero, suc, ◌+◌, ◌*◌, ◌/◌, ◌%◌, ◌≤◌, ◌<◌}
use mathlib.Core.Path.{◌≡◌, sym, ap, ◌∙◌}
use mathlib.Core.Bool.{Bool}
use mathlib.Core.List.Perm
use mathlib.Core.List.{List, Perm}
use native.Mathlib.Nat.{mul-zero, mul-suc, add-zero, mod-lt, mod-eq_of_lt, div-eq_of_lt}
use native.Mathlib.Nat.{mul-add-div, mul-add-mod_self_left, div-lt_iff_lt-mul}
use native.Mathlib.Omega.{arith}
use native.Mathlib.Decide.{dec_lt}
use lib.Dec.{eqb}
use lib.ListN.{length, get_or, get_or-eq_default}
use Rattle.symbology.specs.Ranges.{tabulate, those}
use Rattle.symbology.specs.Generator.{state_after}
use Rattle.symbology.specs.Matrix.{column_order, matrix_a, check_of}
use Rattle.laws.proofs.Ranges.{length_tabulate, get_d_tabulate, tabulate_get_or}
use Rattle.laws.proofs.Counting.{count, count_perm, count_tabulate, number_zero, number_ext}
use Rattle.laws.proofs.Counting.{number_split, number_one, number_quotient, right_pos, left_pos}
use Rattle.laws.proofs.Shuffle.{length_shuffled, shuffled_perm, shuffled_every}

-- ---- the column orders

-- A column order has as many entries as there are columns.
pub length_order : (seed gross k : ℕ) → length (column_order seed gross k) ≡ gross
unfolding column_order
length_order seed gross zero = length_tabulate gross (λ j. j)
length_order seed gross (suc k) = length_shuffled 0 (state_after (k * gross) seed) (column_order seed gross k) ∙ length_order seed gross k

-- A column order is a permutation of the columns.
pub order_perm : (seed gross k : ℕ) → gross ≤ 4096 → Perm (tabulate gross (λ j. j)) (column_order seed gross k)
unfolding column_order
order_perm seed gross zero few = Perm.refl (tabulate gross (λ j. j))
order_perm seed gross (suc k) few =
    Perm.trans (order_perm seed gross k few)
    (shuffled_perm 0 (state_after (k * gross) seed) (column_order seed gross k) (omega (arith, length_order seed gross k)))

order_every : (seed gross k : ℕ) → 0 < gross → (j : ℕ) → get_or (column_order seed gross k) j 0 < gross
unfolding column_order
order_every seed gross zero some j =
    elim (dec_lt j gross) [
      | yes h ↦ rw (get_d_tabulate gross (λ c. c) 0 j h) h
      | no h ↦ rw (get_or-eq_default (tabulate gross (λ c. c)) 0 {n = j} (omega (arith, length_tabulate gross (λ c. c)))) some
    ]
order_every seed gross (suc k) some j =
    shuffled_every 0 (λ (c : ℕ). c < gross) (state_after (k * gross) seed) (column_order seed gross k) (order_every seed gross k some) j

-- Each entry of a column order is a column.
pub order_lt : (seed gross k j : ℕ) → j < gross → get_or (column_order seed gross k) j 0 < gross
order_lt seed gross k j h = order_every seed gross k (omega arith) j

-- ---- the weights

-- Row r of the block behind n blocks has its 1 of a column where the column order of that block leads.
pub block_row : (seed t wr n j r : ℕ) → r < t
    → matrix_a seed t wr (t * n + r) j ≡ eqb (get_or (column_order seed (t * wr) (n + 1)) j 0 / wr) r
unfolding matrix_a
block_row seed t wr n j r h =
    let q : (t * n + r) / t ≡ n = mul-add-div (omega arith) n r ∙ ap (λ (k : ℕ). n + k) (div-eq_of_lt h) ∙ add-zero n in
    let m : (t * n + r) % t ≡ r = mul-add-mod_self_left t n r ∙ mod-eq_of_lt h in
    rw (q, m)

-- Each column stands in exactly wc checks.
pub column_weight : (seed t wr wc j : ℕ) → j < t * wr → length (those (t * wc) (λ i. matrix_a seed t wr i j)) ≡ wc
column_weight seed t wr zero j h =
    ap (λ (k : ℕ). length (those k (λ i. matrix_a seed t wr i j))) (mul-zero t) ∙ number_zero (λ i. matrix_a seed t wr i j)
column_weight seed t wr (suc wc) j h =
    let f : ℕ → Bool = λ i. matrix_a seed t wr i j in
    let c : ℕ = get_or (column_order seed (t * wr) (wc + 1)) j 0 / wr in
    let low : c < t = (div-lt_iff_lt-mul (right_pos t wr j h)).1 (order_lt seed (t * wr) (wc + 1) j h) in
    let split : length (those (t * suc wc) f) ≡ length (those (t * wc) f) + length (those t (λ i. f (t * wc + i))) =
    ap (λ (k : ℕ). length (those k f)) (mul-suc t wc) ∙ number_split f (t * wc) t in
    let block : length (those t (λ r. f (t * wc + r))) ≡ 1 =
    number_ext (λ r. f (t * wc + r)) (λ r. eqb c r) t (λ r l. block_row seed t wr wc j r l) ∙ number_one c t low in
    omega (arith, column_weight seed t wr wc j h)

-- Each check names wr columns.
pub check_weight : (seed t wr wc i : ℕ) → t * wr ≤ 4096 → i < t * wc → length (check_of (t * wr) (matrix_a seed t wr) i) ≡ wr
unfolding check_of matrix_a
check_weight seed t wr wc i few h =
    let order : List ℕ = column_order seed (t * wr) (i / t + 1) in
    let f : ℕ → Bool = λ c. eqb (c / wr) (i % t) in
    count_tabulate f (λ j. get_or order j 0) (t * wr)
    ∙ ap (count f) (tabulate_get_or 0 order (t * wr) (length_order seed (t * wr) (i / t + 1)))
    ∙ sym (count_perm f (order_perm seed (t * wr) (i / t + 1) few))
    ∙ sym (count_tabulate f (λ c. c) (t * wr))
    ∙ number_quotient wr (i % t) t (mod-lt i (left_pos t wc i h))
