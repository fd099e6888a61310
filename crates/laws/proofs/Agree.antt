-- Matrices that agree inside the bounds have the same check columns, message columns, checks and codewords.
-- Assumes nothing.
use Prim.Native.Nat.{ℕ, zero, suc, ◌-◌, ◌≤◌, ◌<◌}
use mathlib.Core.Path.{◌≡◌, refl, ap, ap₂, ◌∙◌}
use mathlib.Core.Bool.{Bool, true, cond, not, ◌&&◌, ◌||◌, xor}
use mathlib.Core.List.{List, [], ◌∷◌, map}
use native.Mathlib.Omega.{arith}
use lib.Dec.{eqb}
use lib.ListN.{get_or}
use Rattle.symbology.specs.Ranges.{those, has}
use Rattle.symbology.specs.Matrix.{BitMatrix, check_of, checks_of}
use Rattle.symbology.specs.Rule.{unmet_count}
use Rattle.symbology.specs.Codeword.{is_sum, check_columns, is_check_column, message_columns, carries, words, first_word, codeword}
use Rattle.symbology.specs.Codeword.{message_bits}
use Rattle.laws.proofs.Ranges.{tabulate_ext, those_ext, has_first, has_wider, below_ext}
use Rattle.laws.proofs.Columns.{column, taken_last}

-- the matrices agree inside the bounds
abbrev pub Agree : ℕ → ℕ → BitMatrix → BitMatrix → Type 0
Agree k n a b = (i : ℕ) → i < k → (j : ℕ) → j < n → a i j ≡ b i j

sum_same : (k n : ℕ) (a b : BitMatrix) → Agree k n a b → (l : List ℕ) → ((c : ℕ) → has c l ≡ true → c < n)
    → (v w : ℕ → Bool) → ((i : ℕ) → i < k → v i ≡ w i) → is_sum k (map (column a) l) v ≡ is_sum k (map (column b) l) w
unfolding is_sum
sum_same k n a b same [] low v w e = below_ext k (λ i. not (v i)) (λ i. not (w i)) (λ i h. ap not (e i h))
sum_same k n a b same (x ∷ l) low v w e =
    ap₂ ◌||◌ (sum_same k n a b same l low' v w e)
    (sum_same k n a b same l low' (λ i. xor (v i) (a i x)) (λ i. xor (w i) (b i x))
    (λ i h. ap₂ xor (e i h) (same i h x (low x (has_first x l)))))
  where
    low' : (c : ℕ) → has c l ≡ true → c < n
    low' c o = low c (has_wider c x l o)

module _ (k n : ℕ) (a b : BitMatrix) (same : Agree k n a b) where
  -- Matrices that agree inside the bounds have the same check columns.
  pub columns_same : (m : ℕ) → m ≤ n → check_columns k n a m ≡ check_columns k n b m
  unfolding check_columns
  columns_same zero h = refl
  columns_same (suc m) h =
      let j : ℕ = n - suc m in
      let earlier = columns_same m (omega arith) in
      ap₂ (λ (t : Bool) (l : List ℕ). cond t l (j ∷ l))
      (sum_same k n a b same (check_columns k n a m) (λ c o. (taken_last k n a m (omega arith) c o).1) (column a j) (column b j)
      (λ i l. same i l j (omega arith))
      ∙ ap (λ (l : List ℕ). is_sum k (map (column b) l) (column b j)) earlier)
      earlier

  -- Matrices that agree inside the bounds have the same check columns.
  pub check_same : (j : ℕ) → is_check_column k n a j ≡ is_check_column k n b j
  unfolding is_check_column
  check_same j = ap (has j) (columns_same n (omega arith))

  -- They have the same message columns.
  pub messages_same : message_columns k n a ≡ message_columns k n b
  unfolding message_columns
  messages_same = those_ext n (λ j. not (is_check_column k n a j)) (λ j. not (is_check_column k n b j)) (λ j h. ap not (check_same j))

  -- They have the same checks.
  pub checks_same : checks_of k n a ≡ checks_of k n b
  unfolding checks_of check_of
  checks_same = tabulate_ext k (λ i. those n (a i)) (λ i. those n (b i)) (λ i h. those_ext n (a i) (b i) (same i h))

  -- They have the same codewords.
  pub codeword_same : (m : List ℕ) → codeword k n a m ≡ codeword k n b m
  unfolding codeword
  codeword_same m =
      ap₂ (λ (columns : List ℕ) (checks : List (List ℕ)). first_word (λ w. carries columns m w && eqb (unmet_count checks w) 0) (words n))
      messages_same checks_same

  -- They have the same message bits in every word.
  pub message_same : (w : List ℕ) → message_bits k n a w ≡ message_bits k n b w
  unfolding message_bits
  message_same w = ap (map (λ j. get_or w j 0)) messages_same
