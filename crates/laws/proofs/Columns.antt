-- Check columns as they are defined, one after the other from the last column to the first: which are taken when, and that they have
-- the two laws of Kernel.
-- Assumes nothing.
use Prim.Native.Nat.{ℕ, zero, suc, ◌+◌, ◌-◌, ◌≤◌, ◌<◌}
use mathlib.Core.Path.{◌≡◌, refl, sym, ap, ap₂, ◌∙◌, subst, subst⁻¹}
use mathlib.Core.Bool.{Bool, true, false, not, ◌&&◌, ◌||◌, xor, or-true, and-true, and-false, true≢false}
use mathlib.Core.List.{List, [], ◌∷◌, map}
use native.Mathlib.Nat.{add-zero, add-suc}
use native.Mathlib.Omega.{arith}
use native.Mathlib.Decide.{ℕ_discrete, dec_lt}
use lib.Dec.{leb}
use borrow.Author.Tests.{le-leb, lt-leb, not-true, not-false}
use Rattle.symbology.specs.Ranges.{has}
use Rattle.symbology.specs.Matrix.{BitMatrix}
use Rattle.symbology.specs.Codeword.{is_sum, check_columns, is_check_column}
use Rattle.symbology.proofs.Ranges.{clash, and_left, below_true}
use Rattle.laws.proofs.Ranges.{by, all_below_lem, has_later, has_first, has_none, has_wider}
use Rattle.laws.proofs.Gf2.{parity_none, turn, turn_at, turn_past, dot_turn, xor_none, xor_back, xor_comm, xor_same, and_no}
use Rattle.laws.specs.Gf2.{dot}
use Rattle.laws.proofs.Kernel.{Dependency, CheckColumnLaws}

-- ---- sums of columns and words

-- column c of a matrix
abbrev pub column : BitMatrix → ℕ → ℕ → Bool
column a c i = a i c

sum_either : (k : ℕ) (d : ℕ → Bool) (ds : List (ℕ → Bool)) (v : ℕ → Bool) {X : Type 0} → is_sum k (d ∷ ds) v ≡ true
    → (is_sum k ds v ≡ true → X) → (is_sum k ds (λ i. xor (v i) (d i)) ≡ true → X) → X
unfolding is_sum
sum_either k d ds v e f g =
    by (is_sum k ds v) f (λ z. g (sym (ap (λ (b : Bool). b || is_sum k ds (λ i. xor (v i) (d i))) z) ∙ e))

sum_without : (k : ℕ) (d : ℕ → Bool) (ds : List (ℕ → Bool)) (v : ℕ → Bool) → is_sum k ds v ≡ true → is_sum k (d ∷ ds) v ≡ true
unfolding is_sum
sum_without k d ds v e = ap (λ (b : Bool). b || is_sum k ds (λ i. xor (v i) (d i))) e

sum_with : (k : ℕ) (d : ℕ → Bool) (ds : List (ℕ → Bool)) (v : ℕ → Bool) → is_sum k ds (λ i. xor (v i) (d i)) ≡ true
    → is_sum k (d ∷ ds) v ≡ true
unfolding is_sum
sum_with k d ds v e = ap (λ (b : Bool). is_sum k ds v || b) e ∙ or-true (is_sum k ds v)

-- a word with ones only in columns of the list, and whose dot products with the rows are a column's bits
pub record SumWord (k n : ℕ) (a : BitMatrix) (l : List ℕ) (v : ℕ → Bool) : Type 0 where
  pub word : ℕ → Bool
  pub inside : (c : ℕ) → word c ≡ true → has c l ≡ true
  pub adds : (i : ℕ) → i < k → dot n (a i) word ≡ v i

-- A sum of columns of a list gives such a word.
pub sum_word : (k n : ℕ) (a : BitMatrix) (l : List ℕ) (v : ℕ → Bool) → ((c : ℕ) → has c l ≡ true → c < n)
    → is_sum k (map (column a) l) v ≡ true
    → SumWord k n a l v
unfolding is_sum
sum_word k n a [] v low e = record {
  word = λ c. false;
  inside = λ c o. clash o refl;
  adds = λ i h. parity_none n (λ j. a i j && false) (λ j g. and-false (a i j)) ∙ sym (not-true (v i) (below_true (λ i. not (v i)) k e i h));
}
sum_word k n a (x ∷ l) v low e =
    sum_either k (column a x) (map (column a) l) v e
    (λ s. let p = sum_word k n a l v low' s in record { word = p.word; inside = λ c o. has_wider c x l (p.inside c o); adds = p.adds })
    (λ s.
    let p = sum_word k n a l (λ i. xor (v i) (a i x)) low' s in
    record {
      word = turn x p.word;
      inside = λ c o. elim (ℕ_discrete c x) [
        | yes y ↦ subst⁻¹ (λ (c : ℕ). has c (x ∷ l) ≡ true) y (has_first x l)
        | no y ↦ has_wider c x l (p.inside c (sym (turn_past x p.word c y) ∙ o))
      ];
      adds = λ i h. dot_turn n (a i) p.word x (low x (has_first x l)) ∙ ap (xor (a i x)) (p.adds i h) ∙ xor_back (a i x) (v i);
    })
  where
    low' : (c : ℕ) → has c l ≡ true → c < n
    low' c o = low c (has_wider c x l o)

-- Such a word gives a sum of columns of the list.
pub word_sum : (k n : ℕ) (a : BitMatrix) (l : List ℕ) (v w : ℕ → Bool) → ((c : ℕ) → has c l ≡ true → c < n)
    → ((c : ℕ) → c < n → w c ≡ true → has c l ≡ true) → ((i : ℕ) → i < k → dot n (a i) w ≡ v i) → is_sum k (map (column a) l) v ≡ true
unfolding is_sum
word_sum k n a [] v w low inside adds =
    all_below_lem (λ i. not (v i)) k
    (λ i h. ap not (sym (adds i h)
    ∙ parity_none n (λ j. a i j && w j) (λ j g. and_no (a i j) (w j) (λ o. clash (inside j g o) (has_none j)))))
word_sum k n a (x ∷ l) v w low inside adds =
    by (w x)
    (λ o. sum_with k (column a x) (map (column a) l) v
    (word_sum k n a l (λ i. xor (v i) (a i x)) (turn x w) low' (λ c h t. turned c h t o)
    (λ i h. dot_turn n (a i) w x (low x (has_first x l)) ∙ ap (xor (a i x)) (adds i h) ∙ xor_comm (a i x) (v i))))
    (λ z. sum_without k (column a x) (map (column a) l) v
    (word_sum k n a l v w low' (λ c h t. kept c h t (λ e. clash t (subst⁻¹ (λ (c : ℕ). w c ≡ false) e z))) adds))
  where
    low' : (c : ℕ) → has c l ≡ true → c < n
    low' c o = low c (has_wider c x l o)

    kept : (c : ℕ) → c < n → w c ≡ true → (c ≡ x → ⊥) → has c l ≡ true
    kept c h t e = sym (has_later c x l e) ∙ inside c h t

    turned : (c : ℕ) → c < n → turn x w c ≡ true → w x ≡ true → has c l ≡ true
    turned c h t o =
        elim (ℕ_discrete c x) [
          | yes e ↦ clash t (subst⁻¹ (λ (c : ℕ). turn x w c ≡ false) e (turn_at x w ∙ ap not o))
          | no e ↦ kept c h (sym (turn_past x w c e) ∙ t) e
        ]

-- ---- which columns are taken when

module _ (k n : ℕ) (a : BitMatrix) where
  -- column j is a sum of the check columns among the last m columns
  abbrev sum_of_taken : ℕ → ℕ → Bool
  sum_of_taken m j = is_sum k (map (λ c i. a i c) (check_columns k n a m)) (λ i. a i j)

  column_skip : (m : ℕ) → sum_of_taken m (n - suc m) ≡ true → check_columns k n a (suc m) ≡ check_columns k n a m
  unfolding check_columns
  column_skip m e = rw e refl

  column_take : (m : ℕ) → sum_of_taken m (n - suc m) ≡ false → check_columns k n a (suc m) ≡ (n - suc m) ∷ check_columns k n a m
  unfolding check_columns
  column_take m e = rw e refl

  -- a column other than the one looked at stands among the taken as before
  has_other : (m c : ℕ) → (c ≡ n - suc m → ⊥) → has c (check_columns k n a (suc m)) ≡ has c (check_columns k n a m)
  has_other m c h =
      by (sum_of_taken m (n - suc m)) (λ s. ap (has c) (column_skip m s))
      (λ s. ap (has c) (column_take m s) ∙ has_later c (n - suc m) (check_columns k n a m) h)

  -- those taken are among the last m columns
  pub taken_last : (m : ℕ) → m ≤ n → (c : ℕ) → has c (check_columns k n a m) ≡ true → (n - m ≤ c) × (c < n)
  unfolding check_columns
  taken_last zero l c o = clash o (has_none c)
  taken_last (suc m) l c o =
      elim (ℕ_discrete c (n - suc m)) [
        | yes e ↦ (omega arith, omega arith)
        | no e ↦ let p = taken_last m (omega arith) c (sym (has_other m c e) ∙ o) in (omega arith, omega arith)
      ]

  taken_new : (m : ℕ) → m < n → has (n - suc m) (check_columns k n a (suc m)) ≡ not (sum_of_taken m (n - suc m))
  taken_new m l =
      by (sum_of_taken m (n - suc m))
      (λ s. ap (has (n - suc m)) (column_skip m s) ∙ none ∙ sym (ap not s))
      (λ s. ap (has (n - suc m)) (column_take m s) ∙ has_first (n - suc m) (check_columns k n a m) ∙ sym (ap not s))
    where
      none : has (n - suc m) (check_columns k n a m) ≡ false
      none =
          by (has (n - suc m) (check_columns k n a m))
          (λ o. absurd (let p = taken_last m (omega arith) (n - suc m) o in omega arith))
          (λ z. z)

  -- what is once passed is settled
  settled : (m d c : ℕ) → m + d ≤ n → n - m ≤ c → has c (check_columns k n a (m + d)) ≡ has c (check_columns k n a m)
  settled m zero c l h = ap (λ (x : ℕ). has c (check_columns k n a x)) (add-zero m)
  settled m (suc d) c l h =
      ap (λ (x : ℕ). has c (check_columns k n a x)) (add-suc m d) ∙ has_other (m + d) c (λ e. omega arith) ∙ settled m d c (omega arith) h

  settled_check : (m c : ℕ) → m ≤ n → n - m ≤ c → is_check_column k n a c ≡ has c (check_columns k n a m)
  unfolding is_check_column
  settled_check m c l h =
      let e : n ≡ m + (n - m) = omega arith in
      ap (λ (x : ℕ). has c (check_columns k n a x)) e ∙ settled m (n - m) c (omega arith) h

  -- The columns taken among the last m columns are the check columns there.
  pub taken_are : (c m : ℕ) → c < n → m ≤ n → has c (check_columns k n a m) ≡ (is_check_column k n a c && leb (n - m) c)
  taken_are c m h l =
      elim (dec_lt c (n - m)) [
        | yes g ↦
            by (has c (check_columns k n a m)) (λ o. absurd (let p = taken_last m l c o in omega arith))
            (λ z. z ∙ sym (ap (λ (b : Bool). is_check_column k n a c && b) (lt-leb (n - m) c g) ∙ and-false (is_check_column k n a c)))
        | no g ↦
            sym (settled_check m c l (omega arith))
            ∙ sym (ap (λ (b : Bool). is_check_column k n a c && b) (le-leb (n - m) c (omega arith)) ∙ and-true (is_check_column k n a c))
      ]

  -- Going from the last column to the first, a column is a check column exactly when it is no sum of the check columns already taken.
  pub check_literal : (j : ℕ) → j < n
      → is_check_column k n a j ≡ not (is_sum k (map (λ c i. a i c) (check_columns k n a (n - suc j))) (λ i. a i j))
  check_literal j h =
      let m : ℕ = n - suc j in
      let e : n - suc m ≡ j = omega arith in
      settled_check (suc m) j (omega arith) (omega arith)
      ∙ subst (λ (x : ℕ). has x (check_columns k n a (suc m)) ≡ not (sum_of_taken m x)) e (taken_new m (omega arith))

  -- ---- the laws of check columns

  check_free : (j : ℕ) → j < n → is_check_column k n a j ≡ true → (d : ℕ → Bool) → Dependency k n a (is_check_column k n a) j d → ⊥
  check_free j h t d p =
      let m : ℕ = n - suc j in
      true≢false
      (sym (word_sum k n a (check_columns k n a m) (λ i. a i j) (turn j d) (λ c o. (taken_last m (omega arith) c o).1) inside adds)
      ∙ not-true (sum_of_taken m j) (sym (check_literal j h) ∙ t))
    where
      inside : (c : ℕ) → c < n → turn j d c ≡ true → has c (check_columns k n a (n - suc j)) ≡ true
      inside c g o =
          elim (ℕ_discrete c j) [
            | yes e ↦ clash o (subst⁻¹ (λ (c : ℕ). turn j d c ≡ false) e (turn_at j d ∙ ap not p.one))
            | no e ↦
                let o' : d c ≡ true = sym (turn_past j d c e) ∙ o in
                elim (dec_lt c j) [
                  | yes b ↦ clash o' (p.before c b)
                  | no b ↦
                      taken_are c (n - suc j) g (omega arith)
                      ∙ ap₂ ◌&&◌ (p.after c (omega arith) g o') (le-leb (n - (n - suc j)) c (omega arith))
                ]
          ]

      adds : (i : ℕ) → i < k → dot n (a i) (turn j d) ≡ a i j
      adds i g = dot_turn n (a i) d j h ∙ ap (xor (a i j)) (p.met i g) ∙ xor_none (a i j)

  check_bound : (j : ℕ) → j < n → is_check_column k n a j ≡ false → (d : ℕ → Bool) × Dependency k n a (is_check_column k n a) j d
  check_bound j h t = (
    turn j p.word,
    record {
      one = turn_at j p.word ∙ ap not (none j (omega arith));
      before = λ i g. turn_past j p.word i (λ e. omega arith) ∙ none i (omega arith);
      after = λ i g g' o.
          and_left (is_check_column k n a i) (leb (n - (n - suc j)) i)
          (sym (taken_are i (n - suc j) g' (omega arith)) ∙ p.inside i (sym (turn_past j p.word i (λ e. omega arith)) ∙ o));
      met = λ i g. dot_turn n (a i) p.word j h ∙ ap (xor (a i j)) (p.adds i g) ∙ xor_same (a i j);
    },
  )
    where
      p : SumWord k n a (check_columns k n a (n - suc j)) (λ i. a i j)
      p = sum_word k n a (check_columns k n a (n - suc j)) (λ i. a i j) (λ c o. (taken_last (n - suc j) (omega arith) c o).1)
          (not-false (sum_of_taken (n - suc j) j) (sym (check_literal j h) ∙ t))

      none : (i : ℕ) → i ≤ j → p.word i ≡ false
      none i g = by (p.word i) (λ o. absurd (let q = taken_last (n - suc j) (omega arith) i (p.inside i o) in omega arith)) (λ z. z)

  -- Check columns as defined are no sums of later check columns, and the other columns are.
  pub check_laws : CheckColumnLaws k n a (is_check_column k n a)
  check_laws = record { free = check_free; bound = check_bound }
