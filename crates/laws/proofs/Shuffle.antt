-- Laws of the permutation of a list: it keeps the elements, its inverse undoes it, and it does not depend on what the elements are.
-- Assumes nothing.
use Prim.Native.Nat.{ℕ, zero, suc, ◌≤◌, ◌<◌}
use mathlib.Core.Path.{◌≡◌, refl, ap, ◌∙◌}
use mathlib.Core.List.Perm
use mathlib.Core.List.{List, [], ◌∷◌, map, Perm}
use native.Mathlib.Nat.{le_of_suc-le-suc}
use native.Mathlib.Omega.{arith}
use lib.ListN.{length, get_or, set, length-set, length-map}
use lib.Seq.{get_or-set_same, set-set, set-get_or}
use Rattle.symbology.specs.Generator.{next_state, draw}
use Rattle.symbology.specs.Shuffle.{drawn_place, exchanged, shuffled_first, shuffled, unshuffled_first, unshuffled}
use Rattle.laws.proofs.Generator.{draw_lt}
use Rattle.laws.proofs.Place.{place_lt}

-- The place drawn with n places left is below n.
pub drawn_lt : (s n : ℕ) → 0 < n → n ≤ 4096 → drawn_place (next_state s) n < n
unfolding drawn_place
drawn_lt s n some few = place_lt (draw (next_state s)) n (draw_lt s) some few

module _ {A : Type 0} (z : A) where
  -- ---- one exchange

  pub length_exchanged : (i j : ℕ) (xs : List A) → length (exchanged z i j xs) ≡ length xs
  unfolding exchanged
  length_exchanged i j xs = length-set (set xs i (get_or xs j z)) j (get_or xs i z) ∙ length-set xs i (get_or xs j z)

  -- the head exchanged with an element of the tail
  head_perm : (x : A) (j : ℕ) (xs : List A) → j < length xs → Perm (x ∷ xs) (get_or xs j z ∷ set xs j x)
  head_perm x j [] h = absurd (omega arith)
  head_perm x zero (y ∷ xs) h = Perm.swap y x xs
  head_perm x (suc j) (y ∷ xs) h =
      Perm.trans (Perm.swap y x xs)
      (Perm.trans (Perm.cons y (head_perm x j xs (le_of_suc-le-suc h))) (Perm.swap (get_or xs j z) y (set xs j x)))

  exchanged_perm : (i j : ℕ) (xs : List A) → i < length xs → j < length xs → Perm xs (exchanged z i j xs)
  unfolding exchanged
  exchanged_perm i j [] p q = absurd (omega arith)
  exchanged_perm zero zero (x ∷ xs) p q = Perm.refl (x ∷ xs)
  exchanged_perm zero (suc j) (x ∷ xs) p q = head_perm x j xs (le_of_suc-le-suc q)
  exchanged_perm (suc i) zero (x ∷ xs) p q = head_perm x i xs (le_of_suc-le-suc p)
  exchanged_perm (suc i) (suc j) (x ∷ xs) p q = Perm.cons x (exchanged_perm i j xs (le_of_suc-le-suc p) (le_of_suc-le-suc q))

  head_twice : (x : A) (j : ℕ) (xs : List A) → j < length xs → get_or (set xs j x) j z ∷ set (set xs j x) j (get_or xs j z) ≡ x ∷ xs
  head_twice x j xs h = rw (get_or-set_same xs j x z h, set-set xs j x (get_or xs j z), set-get_or xs j z)

  exchanged_twice : (i j : ℕ) (xs : List A) → i < length xs → j < length xs → exchanged z i j (exchanged z i j xs) ≡ xs
  unfolding exchanged
  exchanged_twice i j [] p q = refl
  exchanged_twice zero zero (x ∷ xs) p q = refl
  exchanged_twice zero (suc j) (x ∷ xs) p q = head_twice x j xs (le_of_suc-le-suc q)
  exchanged_twice (suc i) zero (x ∷ xs) p q = head_twice x i xs (le_of_suc-le-suc p)
  exchanged_twice (suc i) (suc j) (x ∷ xs) p q =
      ap (λ (l : List A). x ∷ l) (exchanged_twice i j xs (le_of_suc-le-suc p) (le_of_suc-le-suc q))

  set_every : (P : A → Type 0) (v : A) → P v → (j : ℕ) (xs : List A) → ((i : ℕ) → P (get_or xs i z)) → (i : ℕ) → P (get_or (set xs j v) i z)
  set_every P v p j [] h i = h i
  set_every P v p zero (x ∷ xs) h zero = p
  set_every P v p zero (x ∷ xs) h (suc i) = h (suc i)
  set_every P v p (suc j) (x ∷ xs) h zero = h zero
  set_every P v p (suc j) (x ∷ xs) h (suc i) = set_every P v p j xs (λ k. h (suc k)) i

  exchanged_every : (P : A → Type 0) (i j : ℕ) (xs : List A) → ((k : ℕ) → P (get_or xs k z)) → (k : ℕ) → P (get_or (exchanged z i j xs) k z)
  unfolding exchanged
  exchanged_every P i j xs h = set_every P (get_or xs i z) (h i) j (set xs i (get_or xs j z)) (set_every P (get_or xs j z) (h j) i xs h)

  -- ---- length

  length_first : (n s : ℕ) (xs : List A) → length (shuffled_first z n s xs) ≡ length xs
  unfolding shuffled_first
  length_first zero s xs = refl
  length_first (suc n) s xs =
      let p : ℕ = drawn_place (next_state s) (suc n) in
      length_first n (next_state s) (exchanged z p n xs) ∙ length_exchanged p n xs

  -- A permuted list is as long as the list.
  pub length_shuffled : (s : ℕ) (xs : List A) → length (shuffled z s xs) ≡ length xs
  unfolding shuffled
  length_shuffled s xs = length_first (length xs) s xs

  length_unfirst : (n s : ℕ) (xs : List A) → length (unshuffled_first z n s xs) ≡ length xs
  unfolding unshuffled_first
  length_unfirst zero s xs = refl
  length_unfirst (suc n) s xs =
      length_exchanged (drawn_place (next_state s) (suc n)) n (unshuffled_first z n (next_state s) xs) ∙ length_unfirst n (next_state s) xs

  -- A list with the permutation undone is as long as the list.
  pub length_unshuffled : (s : ℕ) (xs : List A) → length (unshuffled z s xs) ≡ length xs
  unfolding unshuffled
  length_unshuffled s xs = length_unfirst (length xs) s xs

  -- ---- permutation

  first_perm : (n s : ℕ) (xs : List A) → n ≤ length xs → n ≤ 4096 → Perm xs (shuffled_first z n s xs)
  unfolding shuffled_first
  first_perm zero s xs h few = Perm.refl xs
  first_perm (suc n) s xs h few =
      let p : ℕ = drawn_place (next_state s) (suc n) in
      let low : p < suc n = drawn_lt s (suc n) (omega arith) few in
      Perm.trans (exchanged_perm p n xs (omega arith) h)
      (first_perm n (next_state s) (exchanged z p n xs) (omega (arith, length_exchanged p n xs)) (omega arith))

  -- A permuted list has the elements of the list, each as often.
  pub shuffled_perm : (s : ℕ) (xs : List A) → length xs ≤ 4096 → Perm xs (shuffled z s xs)
  unfolding shuffled
  shuffled_perm s xs few = first_perm (length xs) s xs (omega arith) few

  -- ---- the inverse

  unfirst_first : (n s : ℕ) (xs : List A) → n ≤ length xs → n ≤ 4096 → unshuffled_first z n s (shuffled_first z n s xs) ≡ xs
  unfolding shuffled_first unshuffled_first
  unfirst_first zero s xs h few = refl
  unfirst_first (suc n) s xs h few =
      let p : ℕ = drawn_place (next_state s) (suc n) in
      let low : p < suc n = drawn_lt s (suc n) (omega arith) few in
      ap (λ (l : List A). exchanged z p n l)
      (unfirst_first n (next_state s) (exchanged z p n xs) (omega (arith, length_exchanged p n xs)) (omega arith))
      ∙ exchanged_twice p n xs (omega arith) h

  -- A permuted list with the permutation undone is the list.
  pub unshuffled_shuffled : (s : ℕ) (xs : List A) → length xs ≤ 4096 → unshuffled z s (shuffled z s xs) ≡ xs
  unfolding shuffled unshuffled
  unshuffled_shuffled s xs few =
      ap (λ (n : ℕ). unshuffled_first z n s (shuffled_first z (length xs) s xs)) (length_first (length xs) s xs)
      ∙ unfirst_first (length xs) s xs (omega arith) few

  first_unfirst : (n s : ℕ) (xs : List A) → n ≤ length xs → n ≤ 4096 → shuffled_first z n s (unshuffled_first z n s xs) ≡ xs
  unfolding shuffled_first unshuffled_first
  first_unfirst zero s xs h few = refl
  first_unfirst (suc n) s xs h few =
      let p : ℕ = drawn_place (next_state s) (suc n) in
      let low : p < suc n = drawn_lt s (suc n) (omega arith) few in
      let ys : List A = unshuffled_first z n (next_state s) xs in
      let l : length ys ≡ length xs = length_unfirst n (next_state s) xs in
      ap (λ (x : List A). shuffled_first z n (next_state s) x) (exchanged_twice p n ys (omega arith) (omega arith))
      ∙ first_unfirst n (next_state s) xs (omega arith) (omega arith)

  -- A list with the permutation undone, permuted, is the list.
  pub shuffled_unshuffled : (s : ℕ) (xs : List A) → length xs ≤ 4096 → shuffled z s (unshuffled z s xs) ≡ xs
  unfolding shuffled unshuffled
  shuffled_unshuffled s xs few =
      ap (λ (n : ℕ). shuffled_first z n s (unshuffled_first z (length xs) s xs)) (length_unfirst (length xs) s xs)
      ∙ first_unfirst (length xs) s xs (omega arith) few

  -- ---- a property of all elements

  first_every : (P : A → Type 0) (n s : ℕ) (xs : List A) → ((i : ℕ) → P (get_or xs i z)) → (i : ℕ)
      → P (get_or (shuffled_first z n s xs) i z)
  unfolding shuffled_first
  first_every P zero s xs h = h
  first_every P (suc n) s xs h =
      let p : ℕ = drawn_place (next_state s) (suc n) in
      first_every P n (next_state s) (exchanged z p n xs) (exchanged_every P p n xs h)

  -- A property of all elements is one of all elements of the permuted list.
  pub shuffled_every : (P : A → Type 0) (s : ℕ) (xs : List A)
      → ((i : ℕ) → P (get_or xs i z)) → (i : ℕ) → P (get_or (shuffled z s xs) i z)
  unfolding shuffled
  shuffled_every P s xs h = first_every P (length xs) s xs h

  unfirst_every : (P : A → Type 0) (n s : ℕ) (xs : List A) → ((i : ℕ) → P (get_or xs i z)) → (i : ℕ)
      → P (get_or (unshuffled_first z n s xs) i z)
  unfolding unshuffled_first
  unfirst_every P zero s xs h = h
  unfirst_every P (suc n) s xs h =
      exchanged_every P (drawn_place (next_state s) (suc n)) n (unshuffled_first z n (next_state s) xs)
      (unfirst_every P n (next_state s) xs h)

  -- A property of all elements is one of all elements of the list with the permutation undone.
  pub unshuffled_every : (P : A → Type 0) (s : ℕ) (xs : List A)
      → ((i : ℕ) → P (get_or xs i z)) → (i : ℕ) → P (get_or (unshuffled z s xs) i z)
  unfolding unshuffled
  unshuffled_every P s xs h = unfirst_every P (length xs) s xs h

-- ---- the elements as functions of others

module _ {A B : Type 0} (z : A) (w : B) (f : A → B) where
  map_set : (xs : List A) (i : ℕ) (a : A) → map f (set xs i a) ≡ set (map f xs) i (f a)
  map_set [] i a = refl
  map_set (x ∷ xs) zero a = refl
  map_set (x ∷ xs) (suc i) a = ap (λ (l : List B). f x ∷ l) (map_set xs i a)

  map_get_or : (xs : List A) (i : ℕ) → i < length xs → get_or (map f xs) i w ≡ f (get_or xs i z)
  map_get_or [] i h = absurd (omega arith)
  map_get_or (x ∷ xs) zero h = refl
  map_get_or (x ∷ xs) (suc i) h = map_get_or xs i (le_of_suc-le-suc h)

  exchanged_map : (i j : ℕ) (xs : List A) → i < length xs → j < length xs → exchanged w i j (map f xs) ≡ map f (exchanged z i j xs)
  unfolding exchanged
  exchanged_map i j xs p q =
      rw (map_get_or xs i p, map_get_or xs j q, map_set (set xs i (get_or xs j z)) j (get_or xs i z), map_set xs i (get_or xs j z))

  first_map : (n s : ℕ) (xs : List A) → n ≤ length xs → n ≤ 4096 → shuffled_first w n s (map f xs) ≡ map f (shuffled_first z n s xs)
  unfolding shuffled_first
  first_map zero s xs h few = refl
  first_map (suc n) s xs h few =
      let p : ℕ = drawn_place (next_state s) (suc n) in
      let low : p < suc n = drawn_lt s (suc n) (omega arith) few in
      ap (λ (l : List B). shuffled_first w n (next_state s) l) (exchanged_map p n xs (omega arith) h)
      ∙ first_map n (next_state s) (exchanged z p n xs) (omega (arith, length_exchanged z p n xs)) (omega arith)

  unfirst_map : (n s : ℕ) (xs : List A) → n ≤ length xs → n ≤ 4096 → unshuffled_first w n s (map f xs) ≡ map f (unshuffled_first z n s xs)
  unfolding unshuffled_first
  unfirst_map zero s xs h few = refl
  unfirst_map (suc n) s xs h few =
      let p : ℕ = drawn_place (next_state s) (suc n) in
      let low : p < suc n = drawn_lt s (suc n) (omega arith) few in
      let ys : List A = unshuffled_first z n (next_state s) xs in
      let l : length ys ≡ length xs = length_unfirst z n (next_state s) xs in
      ap (λ (x : List B). exchanged w p n x) (unfirst_map n (next_state s) xs (omega arith) (omega arith))
      ∙ exchanged_map p n ys (omega arith) (omega arith)

-- The permuted list of the values of f is the list of the values of f on the permuted list, whatever stands past the lists' ends.
pub shuffled_map : {A B : Type 0} (z : A) (w : B) (f : A → B) (s : ℕ) (xs : List A)
    → length xs ≤ 4096 → shuffled w s (map f xs) ≡ map f (shuffled z s xs)
unfolding shuffled
shuffled_map z w f s xs few =
    ap (λ (n : ℕ). shuffled_first w n s (map f xs)) (length-map xs f) ∙ first_map z w f (length xs) s xs (omega arith) few

-- The same holds for the list with the permutation undone.
pub unshuffled_map : {A B : Type 0} (z : A) (w : B) (f : A → B) (s : ℕ) (xs : List A)
    → length xs ≤ 4096 → unshuffled w s (map f xs) ≡ map f (unshuffled z s xs)
unfolding unshuffled
unshuffled_map z w f s xs few =
    ap (λ (n : ℕ). unshuffled_first w n s (map f xs)) (length-map xs f) ∙ unfirst_map z w f (length xs) s xs (omega arith) few
