-- Laws of how many numbers below a bound, and how many elements of a list, pass a test.
-- Assumes nothing.
use Prim.Native.Nat.{ℕ, zero, suc, ◌+◌, ◌*◌, ◌/◌, ◌<◌, ◌≤◌}
use mathlib.Core.Path.{◌≡◌, refl, sym, ap, ap₂, ◌∙◌}
use mathlib.Core.Bool.{Bool, true, false, cond, not, ◌&&◌}
use mathlib.Core.Logic.{∥∥₁_elim}
use mathlib.Core.List.{List, [], ◌∷◌, ◌++◌, Perm, Permᴰ}
use native.Mathlib.Nat.{ℕ_set, add-zero, add-suc, suc-mul, mul-add-div_right, div-eq_of_lt, div-lt_iff_lt-mul}
use native.Mathlib.Omega.{arith}
use native.Mathlib.Decide.{ℕ_discrete, dec_lt}
use lib.Dec.{eqb, ltb}
use lib.ListN.{length, get_or, length-append}
use borrow.Author.Tests.{eq-eqb, ne_eqb, le-ltb, lt-ltb, eqb-true, not-false}
use Rattle.symbology.specs.Ranges.{tally, tabulate, those}
use Rattle.symbology.specs.Bits.{differing}
use Rattle.symbology.proofs.Ranges.{and_left, and_right}
use Rattle.laws.proofs.Ranges.{those_ext, by, tally_le, tally_none}

-- ---- factors

pub left_pos : (a b c : ℕ) → c < a * b → 0 < a
left_pos zero b c h = absurd (omega arith)
left_pos (suc a) b c h = omega arith

pub right_pos : (a b c : ℕ) → c < a * b → 0 < b
right_pos a zero c h = absurd (omega arith)
right_pos a (suc b) c h = omega arith

-- ---- numbers below a bound

pub number_suc : (f : ℕ → Bool) (n : ℕ) → length (those (suc n) f) ≡ length (those n f) + tally (f n)
unfolding those
number_suc f n = length-append (those n f) (cond (f n) (n ∷ []) []) ∙ ap (λ (k : ℕ). length (those n f) + k) (one (f n))
  where
    one : (b : Bool) → length (cond b (n ∷ []) []) ≡ tally b
    one true = refl
    one false = refl

pub number_zero : (f : ℕ → Bool) → length (those 0 f) ≡ 0
unfolding those
number_zero f = refl

pub number_ext : (f g : ℕ → Bool) (n : ℕ) → ((i : ℕ) → i < n → f i ≡ g i) → length (those n f) ≡ length (those n g)
number_ext f g n h = ap length (those_ext n f g h)

pub number_split : (f : ℕ → Bool) (m n : ℕ) → length (those (m + n) f) ≡ length (those m f) + length (those n (λ i. f (m + i)))
number_split f m zero = ap (λ (k : ℕ). length (those k f)) (add-zero m) ∙ omega (arith, number_zero (λ i. f (m + i)))
number_split f m (suc n) =
    ap (λ (k : ℕ). length (those k f)) (add-suc m n)
    ∙ omega (arith, number_suc f (m + n), number_suc (λ i. f (m + i)) n, number_split f m n)

pub number_front : (f : ℕ → Bool) (n : ℕ) → length (those (suc n) f) ≡ tally (f 0) + length (those n (λ i. f (suc i)))
number_front f zero = omega (arith, number_suc f 0, number_zero f, number_zero (λ i. f (suc i)))
number_front f (suc n) = omega (arith, number_suc f (suc n), number_front f n, number_suc (λ i. f (suc i)) n)

pub number_most : (f : ℕ → Bool) (n : ℕ) → length (those n f) ≤ n
number_most f zero = omega (arith, number_zero f)
number_most f (suc n) = omega (arith, number_suc f n, tally_le (f n), number_most f n)

pub number_none : (f : ℕ → Bool) (n : ℕ) → ((i : ℕ) → i < n → f i ≡ false) → length (those n f) ≡ 0
number_none f zero h = number_zero f
number_none f (suc n) h =
    let last : tally (f n) ≡ 0 = ap tally (h n (omega arith)) in
    omega (arith, number_suc f n, number_none f n (λ i l. h i (omega arith)))

pub number_all : (f : ℕ → Bool) (n : ℕ) → ((i : ℕ) → i < n → f i ≡ true) → length (those n f) ≡ n
number_all f zero h = number_zero f
number_all f (suc n) h =
    let last : tally (f n) ≡ 1 = ap tally (h n (omega arith)) in
    omega (arith, number_suc f n, number_all f n (λ i l. h i (omega arith)))

-- a word differs from itself in no bit
pub differing_self : (x : List ℕ) → differing x x ≡ 0
unfolding differing
differing_self x =
    number_none (λ i. not (eqb (get_or x i 0) (get_or x i 0))) (length x) (λ i h. ap not (eq-eqb (get_or x i 0) (get_or x i 0) refl))

-- a bit in front of both: whether these differ is added
pub differing_cons : (b c : ℕ) (x y : List ℕ) → differing (b ∷ x) (c ∷ y) ≡ tally (not (eqb b c)) + differing x y
unfolding differing
differing_cons b c x y = number_front (λ i. not (eqb (get_or (b ∷ x) i 0) (get_or (c ∷ y) i 0))) (length x)

-- words of one length that differ in no bit are the same
pub differing_none : (x y : List ℕ) → length x ≡ length y → differing x y ≡ 0 → x ≡ y
differing_none [] [] l e = refl
differing_none [] (c ∷ y) l e = absurd (omega arith)
differing_none (b ∷ x) [] l e = absurd (omega arith)
differing_none (b ∷ x) (c ∷ y) l e =
    let both = differing_cons b c x y in
    let here : b ≡ c = eqb-true b c (not-false (eqb b c) (tally_none (not (eqb b c)) (omega (arith, both)))) in
    let behind : x ≡ y = differing_none x y (omega arith) (omega (arith, both)) in
    ap₂ (λ (z : ℕ) (zs : List ℕ). z ∷ zs) here behind

-- and from another in no more bits than it has
pub differing_most : (x y : List ℕ) → differing x y ≤ length x
unfolding differing
differing_most x y = number_most (λ i. not (eqb (get_or x i 0) (get_or y i 0))) (length x)

-- one number below n is k
pub number_one : (k n : ℕ) → k < n → length (those n (λ i. eqb k i)) ≡ 1
number_one k zero h = absurd (omega arith)
number_one k (suc n) h =
    elim (ℕ_discrete k n) [
      | yes e ↦
          let last : tally (eqb k n) ≡ 1 = ap tally (eq-eqb k n e) in
          let none : length (those n (λ i. eqb k i)) ≡ 0 = number_none (λ i. eqb k i) n (λ i l. ne_eqb k i (λ (s : k ≡ i). omega arith)) in
          omega (arith, number_suc (λ i. eqb k i) n)
      | no e ↦
          let last : tally (eqb k n) ≡ 0 = ap tally (ne_eqb k n e) in
          omega (arith, number_suc (λ i. eqb k i) n, number_one k n (omega arith))
    ]

-- of the numbers below t * w, w have the quotient r by w
pub number_quotient : (w r t : ℕ) → r < t → length (those (t * w) (λ c. eqb (c / w) r)) ≡ w
number_quotient w r zero h = absurd (omega arith)
number_quotient w r (suc t) h =
    let f : ℕ → Bool = λ c. eqb (c / w) r in
    let split : length (those (suc t * w) f) ≡ length (those (t * w) f) + length (those w (λ i. f (t * w + i))) =
    ap (λ (k : ℕ). length (those k f)) (suc-mul t w) ∙ number_split f (t * w) w in
    elim (ℕ_discrete r t) [
      | yes e ↦
          let early : length (those (t * w) f) ≡ 0 =
          number_none f (t * w) (λ c l. ne_eqb (c / w) r (λ (s : c / w ≡ r). omega (arith, less c l))) in
          let all : length (those w (λ i. f (t * w + i))) ≡ w =
          number_all (λ i. f (t * w + i)) w (λ i l. eq-eqb ((t * w + i) / w) r (quotient i l ∙ sym e)) in
          omega arith
      | no e ↦
          let late : length (those w (λ i. f (t * w + i))) ≡ 0 =
          number_none (λ i. f (t * w + i)) w
          (λ i l. ne_eqb ((t * w + i) / w) r (λ (s : (t * w + i) / w ≡ r). omega (arith, quotient i l))) in
          omega (arith, number_quotient w r t (omega arith))
    ]
  where
    less : (c : ℕ) → c < t * w → c / w < t
    less c l = (div-lt_iff_lt-mul (right_pos t w c l)).1 l

    quotient : (i : ℕ) → i < w → (t * w + i) / w ≡ t
    quotient i l = mul-add-div_right (omega arith) t i ∙ ap (λ (k : ℕ). t + k) (div-eq_of_lt l) ∙ add-zero t

-- ---- elements of a list

module _ {A : Type 0} (f : A → Bool) where
  -- how many elements pass the test
  unfoldable pub count : List A → ℕ
  count [] = 0
  count (x ∷ xs) = tally (f x) + count xs

  pub count_append : (xs ys : List A) → count (xs ++ ys) ≡ count xs + count ys
  unfolding count
  count_append [] ys = omega arith
  count_append (x ∷ xs) ys = omega (arith, count_append xs ys)

  count_along : {xs ys : List A} → Permᴰ xs ys → count xs ≡ count ys
  unfolding count
  count_along Permᴰ.nil = refl
  count_along (Permᴰ.cons e d) = omega (arith, ap (λ (x : A). tally (f x)) e, count_along d)
  count_along (Permᴰ.swap p q) = omega (arith, ap (λ (x : A). tally (f x)) p, ap (λ (x : A). tally (f x)) q)
  count_along (Permᴰ.trans d e) = count_along d ∙ count_along e

  -- As many elements of a permuted list pass.
  pub count_perm : {xs ys : List A} → Perm xs ys → count xs ≡ count ys
  count_perm {xs} {ys} p = ∥∥₁_elim p (ℕ_set (count xs) (count ys)) count_along

  -- as many numbers below n pass at their entry of a table as entries of the table do
  pub count_tabulate : (g : ℕ → A) (n : ℕ) → length (those n (λ i. f (g i))) ≡ count (tabulate n g)
  unfolding count tabulate
  count_tabulate g zero = number_zero (λ i. f (g i))
  count_tabulate g (suc n) =
      omega (arith, number_suc (λ i. f (g i)) n, count_append (tabulate n g) (g n ∷ []), count_tabulate g n)

-- ---- two tests, and rows of their own

pub number_both : (n : ℕ) (f : ℕ → Bool) → length (those n f) + length (those n (λ i. not (f i))) ≡ n
unfolding those
number_both zero f = refl
number_both (suc n) f =
    let one : tally (f n) + tally (not (f n)) ≡ 1 = go (f n) in
    omega (arith, number_suc f n, number_suc (λ i. not (f i)) n, number_both n f)
  where
    go : (b : Bool) → tally b + tally (not b) ≡ 1
    go true = refl
    go false = refl

-- a test that holds at one number at most
pub number_single : (n : ℕ) (f : ℕ → Bool) → ((c d : ℕ) → c < n → d < n → f c ≡ true → f d ≡ true → c ≡ d) → length (those n f) ≤ 1
unfolding those
number_single zero f h = omega arith
number_single (suc n) f h =
    by (f n)
    (λ o.
    let none : length (those n f) ≡ 0 =
    number_none f n (λ c l. by (f c) (λ p. absurd (let e : c ≡ n = h c n (omega arith) (omega arith) p o in omega arith)) (λ z. z)) in
    let one : tally (f n) ≡ 1 = ap tally o in
    omega (arith, number_suc f n))
    (λ z.
    let none : tally (f n) ≡ 0 = ap tally z in
    omega (arith, number_suc f n, number_single n f (λ c d p q. h c d (omega arith) (omega arith))))

pub number_parts : (n : ℕ) (f g h : ℕ → Bool) → ((c : ℕ) → c < n → tally (f c) ≤ tally (g c) + tally (h c))
    → length (those n f) ≤ length (those n g) + length (those n h)
unfolding those
number_parts zero f g h p = omega arith
number_parts (suc n) f g h p =
    omega (arith, number_suc f n, number_suc g n, number_suc h n, p n (omega arith), number_parts n f g h (λ c l. p c (omega arith)))

module _ (n : ℕ) (f : ℕ → Bool) (row : ℕ → ℕ)
    (one : (c d : ℕ) → c < n → d < n → f c ≡ true → f d ≡ true → row c ≡ row d → c ≡ d) where
  number_rows : (k : ℕ) → length (those n (λ c. f c && ltb (row c) k)) ≤ k
  number_rows zero = omega (arith, number_none (λ c. f c && ltb (row c) 0) n (λ c h. go (f c) (row c)))
    where
      go : (b : Bool) (x : ℕ) → (b && ltb x 0) ≡ false
      go true x = le-ltb x 0 (omega arith)
      go false x = refl
  number_rows (suc k) =
      omega (
        arith,
        number_rows k,
        last,
        number_parts n (λ c. f c && ltb (row c) (suc k)) (λ c. f c && ltb (row c) k) (λ c. f c && eqb (row c) k) (λ c h. go (f c) (row c)),
      )
    where
      last : length (those n (λ c. f c && eqb (row c) k)) ≤ 1
      last = number_single n (λ c. f c && eqb (row c) k) (λ c d p q u v. one c d p q
          (and_left (f c) (eqb (row c) k) u) (and_left (f d) (eqb (row d) k) v)
          (eqb-true (row c) k (and_right (f c) (eqb (row c) k) u) ∙ sym (eqb-true (row d) k (and_right (f d) (eqb (row d) k) v))))

      go : (b : Bool) (x : ℕ) → tally (b && ltb x (suc k)) ≤ tally (b && ltb x k) + tally (b && eqb x k)
      go true x =
          elim (ℕ_discrete x k) [
            | yes e ↦ rw (eq-eqb x k e, lt-ltb x (suc k) (omega arith)) (omega arith)
            | no e ↦ elim (dec_lt x k) [
              | yes l ↦ rw (lt-ltb x k l, lt-ltb x (suc k) (omega arith)) (omega arith)
              | no l ↦ rw (le-ltb x (suc k) (omega arith)) (omega arith)
            ]
          ]
      go false x = omega arith

  -- no more numbers pass a test than there are rows, if each has a row of its own
  pub rows_bound : (k : ℕ) → ((c : ℕ) → c < n → f c ≡ true → row c < k) → length (those n f) ≤ k
  rows_bound k low =
      let none = number_none (λ c. false) n (λ c h. refl) in
      let parts = number_parts n f (λ c. f c && ltb (row c) k) (λ c. false) (λ c h. go c h) in
      omega (arith, number_rows k, none, parts)
    where
      go : (c : ℕ) → c < n → tally (f c) ≤ tally (f c && ltb (row c) k) + 0
      go c h =
          by (f c) (λ o. rw (o, lt-ltb (row c) k (low c h o)) (omega arith)) (λ z. rw z (omega arith))
