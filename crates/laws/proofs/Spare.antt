-- A matrix of k rows has at most k check columns: elimination gives each a row of its own.
-- Assumes nothing.
use Prim.Native.Nat.{ℕ, zero, suc, ◌+◌, ◌≤◌, ◌<◌}
use mathlib.Core.Path.{◌≡◌, refl, sym, ap, ap₂, ◌∙◌, subst⁻¹}
use mathlib.Core.Bool.{Bool, true, false, cond, not, ◌&&◌, ◌||◌, xor, and-true, and-false}
use native.Mathlib.Omega.{arith}
use native.Mathlib.Decide.{dec_lt}
use lib.Dec.{eqb}
use lib.ListN.{length}
use borrow.Author.Tests.{eq-eqb, ne_eqb, not-true}
use Rattle.symbology.specs.Ranges.{those, lowest}
use Rattle.symbology.specs.Matrix.{BitMatrix}
use Rattle.symbology.specs.Codeword.{is_check_column, message_columns}
use Rattle.symbology.proofs.Ranges.{and_left, and_right}
use Rattle.laws.proofs.Ranges.{lowest_holds, lowest_before}
use Rattle.laws.proofs.Kernel.{CheckColumnLaws}
use Rattle.laws.proofs.Columns.{check_laws}
use Rattle.laws.proofs.Elimination.{start, clear_message, pivot_check, clear_step, pivot_step}
use Rattle.laws.specs.Elimination.{Inv}
use Rattle.laws.proofs.Counting.{rows_bound, number_both}

-- ---- elimination of a matrix of functions

-- some matrix with the columns from j on eliminated
pub record Reduced (k n : ℕ) (a : BitMatrix) (chk : ℕ → Bool) (j : ℕ) : Type 0 where
  pub rows : BitMatrix
  pub used : ℕ → Bool
  pub row : ℕ → ℕ
  pub inv : Inv k n a chk rows used row j

module _ (k n : ℕ) (a : BitMatrix) (chk : ℕ → Bool) (law : CheckColumnLaws k n a chk) where
  reduce_step : (j : ℕ) → j < n → Reduced k n a chk (suc j) → Reduced k n a chk j
  reduce_step j h s =
      elim (dec_lt t k) [
        | yes l ↦
            let o : test t ≡ true = lowest_holds test k 0 (omega arith) in
            let u : used t ≡ false = not-true (used t) (and_left (not (used t)) (r t j) o) in
            let p : r t j ≡ true = and_right (not (used t)) (r t j) o in
            record {
              rows = λ i c. xor (r i c) (added i && r t c);
              used = λ i. eqb i t || used i;
              row = λ c. cond (eqb c j) t (row c);
              inv = pivot_step k n a chk r used row j h s.inv (pivot_check k n a chk r used row law j h s.inv t l u p) t l u p
                  added (ap (λ (b : Bool). test t && not b) (eq-eqb t t refl) ∙ and-false (test t))
                  (λ i g v. ap (λ (b : Bool). (not b && r i j) && not (eqb i t)) v)
                  (λ i g v e. ap₂ (λ (b z : Bool). (not b && r i j) && not z) v (ne_eqb i t e) ∙ and-true (r i j))
                  (λ i c. xor (r i c) (added i && r t c)) (λ i. eqb i t || used i) (λ c. cond (eqb c j) t (row c))
                  (λ i g c q. refl) (λ i g. refl)
                  (λ c g q. ap (λ (b : Bool). cond b t (row c)) (ne_eqb c j (λ e. omega arith)))
                  (ap (λ (b : Bool). cond b t (row j)) (eq-eqb j j refl));
            }
        | no l ↦
            let zeros : (i : ℕ) → i < k → used i ≡ false → r i j ≡ false = λ i g u.
            sym (ap (λ (b : Bool). not b && r i j) u) ∙ lowest_before test k 0 i (omega arith) (omega arith) in
            record {
              rows = r;
              used = used;
              row = row;
              inv = clear_step k n a chk r used row j s.inv (clear_message k n a chk r used row law j h s.inv zeros) zeros;
            }
      ]
    where
      r : BitMatrix
      r = s.rows

      used : ℕ → Bool
      used = s.used

      row : ℕ → ℕ
      row = s.row

      test : ℕ → Bool
      test i = not (used i) && r i j

      t : ℕ
      t = lowest test k 0

      added : ℕ → Bool
      added i = test i && not (eqb i t)

  reduce_from : (m j : ℕ) → j + m ≡ n → Reduced k n a chk j
  reduce_from zero j e =
      let same : j ≡ n = omega arith in
      subst⁻¹ (Reduced k n a chk) same (record {
        rows = a;
        used = λ i. false;
        row = λ c. 0;
        inv = start k n a chk a (λ i. false) (λ c. 0) (λ i h c g. refl) (λ i h. refl);
      })
  reduce_from (suc m) j e = reduce_step j (omega arith) (reduce_from m (suc j) (omega arith))

  -- Every matrix can be eliminated.
  pub reduce : Reduced k n a chk 0
  reduce = reduce_from n 0 (omega arith)

-- ---- the columns of a matrix

-- There are at most as many check columns as rows.
pub few_check_columns : (k n : ℕ) (a : BitMatrix) → length (those n (is_check_column k n a)) ≤ k
few_check_columns k n a =
    let s = reduce k n a (is_check_column k n a) (check_laws k n a) in
    rows_bound n (is_check_column k n a) s.row (λ c d p q u v. s.inv.row_one c d (omega arith, p, u) (omega arith, q, v)) k
    (λ c h u. s.inv.row_lt c (omega arith, h, u))

-- All columns but at most k, one for each row, are message columns.
pub enough_columns : (k n : ℕ) (a : BitMatrix) → n ≤ length (message_columns k n a) + k
unfolding message_columns
enough_columns k n a = omega (arith, few_check_columns k n a, number_both n (is_check_column k n a))
