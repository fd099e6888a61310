-- Laws of sums over ranges of numbers, and of lists joined over them.
-- Assumes nothing.
use Prim.Native.Nat.{ℕ, zero, suc, ◌+◌, ◌*◌, ◌≤◌, ◌<◌, ◌-◌}
use mathlib.Core.List.{List, ◌++◌, append-nil, append_assoc}
use mathlib.Core.Path.{◌≡◌, refl, sym, ap, ◌∙◌}
use native.Mathlib.Nat.{zero-add, add-zero, suc-add, add_assoc, suc-mul, mul-zero, mul-add}
use native.Mathlib.Omega.{arith}
use native.Mathlib.Decide.{ℕ_discrete}
use lib.ListN.{length, length-append}
use Rattle.symbology.specs.Ranges.{sum_from, join_from}

-- ---- sums

pub sum_ext : (f g : ℕ → ℕ) (a n : ℕ) → ((i : ℕ) → a ≤ i → i < a + n → f i ≡ g i) → sum_from a n f ≡ sum_from a n g
unfolding sum_from
sum_ext f g a zero h = refl
sum_ext f g a (suc n) h =
    omega (arith, h a (omega arith) (omega arith), sum_ext f g (suc a) n (λ i p q. h i (omega arith) (omega arith)))

pub sum_split : (f : ℕ → ℕ) (a m n : ℕ) → sum_from a (m + n) f ≡ sum_from a m f + sum_from (a + m) n f
unfolding sum_from
sum_split f a zero n = rw (zero-add n, add-zero a, zero-add (sum_from a n f))
sum_split f a (suc m) n =
    rw (suc-add m n)
    (ap (λ (x : ℕ). f a + x) (sum_split f (suc a) m n ∙ rw (omega_step a m) refl)
    ∙ sym (add_assoc (f a) (sum_from (suc a) m f) (sum_from (a + suc m) n f)))
  where
    omega_step : (a m : ℕ) → suc a + m ≡ a + suc m
    omega_step a m = omega arith

pub sum_shift : (f : ℕ → ℕ) (a n : ℕ) → sum_from (suc a) n f ≡ sum_from a n (λ i. f (suc i))
unfolding sum_from
sum_shift f a zero = refl
sum_shift f a (suc n) = omega (arith, sum_shift f (suc a) n)

pub sum_snoc : (f : ℕ → ℕ) (a n : ℕ) → sum_from a (suc n) f ≡ sum_from a n f + f (a + n)
unfolding sum_from
sum_snoc f a zero = rw (add-zero a) (omega arith)
sum_snoc f a (suc n) =
    let later : sum_from (suc a) (suc n) f ≡ sum_from (suc a) n f + f (suc a + n) = sum_snoc f (suc a) n in
    let same : f (suc a + n) ≡ f (a + suc n) = ap f (omega arith) in
    omega arith

pub sum_zero : (f : ℕ → ℕ) (a n : ℕ) → ((i : ℕ) → a ≤ i → i < a + n → f i ≡ 0) → sum_from a n f ≡ 0
unfolding sum_from
sum_zero f a zero h = refl
sum_zero f a (suc n) h =
    omega (arith, h a (omega arith) (omega arith), sum_zero f (suc a) n (λ i p q. h i (omega arith) (omega arith)))

pub sum_add : (f g : ℕ → ℕ) (a n : ℕ) → sum_from a n (λ i. f i + g i) ≡ sum_from a n f + sum_from a n g
unfolding sum_from
sum_add f g a zero = refl
sum_add f g a (suc n) = omega (arith, sum_add f g (suc a) n)

pub sum_const : (x a n : ℕ) → sum_from a n (λ i. x) ≡ n * x
unfolding sum_from
sum_const x a zero = omega arith
sum_const x a (suc n) = omega (arith, sum_const x (suc a) n, suc-mul n x)

-- a sum from a on as one from 0 on
pub sum_from_lem : (f : ℕ → ℕ) (a n : ℕ) → sum_from a n f ≡ sum_from 0 n (λ i. f (a + i))
sum_from_lem f zero n = sum_ext f (λ i. f (0 + i)) 0 n (λ i p q. ap f (omega arith))
sum_from_lem f (suc a) n =
    sum_shift f a n ∙ sum_from_lem (λ i. f (suc i)) a n
    ∙ sum_ext (λ i. f (suc (a + i))) (λ i. f (suc a + i)) 0 n (λ i p q. ap f (omega arith))

-- a sum of sums in the other order
pub sum_swap : (f : ℕ → ℕ → ℕ) (a m b n : ℕ) → sum_from a m (λ i. sum_from b n (f i)) ≡ sum_from b n (λ j. sum_from a m (λ i. f i j))
unfolding sum_from
sum_swap f a zero b n = sym (sum_zero (λ j. 0) b n (λ j p q. refl))
sum_swap f a (suc m) b n =
    ap (λ (s : ℕ). sum_from b n (f a) + s) (sum_swap f (suc a) m b n) ∙ sym (sum_add (f a) (λ j. sum_from (suc a) m (λ i. f i j)) b n)

-- two functions that differ by d at one number
pub sum_point : (f g : ℕ → ℕ) (d k a n : ℕ) → a ≤ k → k < a + n → f k ≡ g k + d
    → ((i : ℕ) → a ≤ i → i < a + n → (i ≡ k → ⊥) → f i ≡ g i) → sum_from a n f ≡ sum_from a n g + d
unfolding sum_from
sum_point f g d k a zero low high here others = absurd (omega arith)
sum_point f g d k a (suc n) low high here others =
    elim (ℕ_discrete a k) [
      | yes e ↦
          let first : f a ≡ g a + d = rw e here in
          omega (arith, sum_ext f g (suc a) n (λ i p q. others i (omega arith) (omega arith) (λ s. omega arith)))
      | no e ↦
          let first : f a ≡ g a = others a (omega arith) (omega arith) e in
          let least : suc a ≤ k = omega arith in
          let most : k < suc a + n = omega arith in
          omega (arith, sum_point f g d k (suc a) n least most here (λ i p q. others i (omega arith) (omega arith)))
    ]

-- fewer terms add to no more
pub sum_prefix : (f : ℕ → ℕ) (a m n : ℕ) → m ≤ n → sum_from a m f ≤ sum_from a n f
sum_prefix f a m n h =
    let parts : sum_from a n f ≡ sum_from a m f + sum_from (a + m) (n - m) f =
    ap (λ (k : ℕ). sum_from a k f) (omega arith) ∙ sum_split f a m (n - m) in
    omega arith

pub sum_scale : (x : ℕ) (f : ℕ → ℕ) (a n : ℕ) → sum_from a n (λ i. x * f i) ≡ x * sum_from a n f
unfolding sum_from
sum_scale x f a zero = sym (mul-zero x)
sum_scale x f a (suc n) = rw (sum_scale x f (suc a) n) (sym (mul-add x (f a) (sum_from (suc a) n f)))

-- ---- joined lists

module _ {A : Type 0} where
  pub length_join : (f : ℕ → List A) (a n : ℕ) → length (join_from a n f) ≡ sum_from a n (λ i. length (f i))
  unfolding join_from sum_from
  length_join f a zero = refl
  length_join f a (suc n) = length-append (f a) (join_from (suc a) n f) ∙ rw (length_join f (suc a) n)

  pub join_snoc : (f : ℕ → List A) (a n : ℕ) → join_from a (suc n) f ≡ join_from a n f ++ f (a + n)
  unfolding join_from
  join_snoc f a zero = rw (add-zero a) (append-nil (f a))
  join_snoc f a (suc n) =
      let later : join_from (suc a) (suc n) f ≡ join_from (suc a) n f ++ f (suc a + n) = join_snoc f (suc a) n in
      let same : f (suc a + n) ≡ f (a + suc n) = ap f (omega arith) in
      ap (λ (x : List A). f a ++ x) (later ∙ ap (λ (x : List A). join_from (suc a) n f ++ x) same)
      ∙ sym (append_assoc (f a) (join_from (suc a) n f) (f (a + suc n)))
