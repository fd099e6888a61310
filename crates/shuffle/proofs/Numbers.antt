-- Items of two bytes each are the numbers of two bytes of the buffer, and the buffer is changed only where they lie.
-- Assumes nothing.
use Prim.Native.Nat.{ℕ, zero, suc, ◌+◌, ◌*◌, ◌≤◌, ◌<◌}
use mathlib.Core.Path.{◌≡◌, refl, sym, ap, ap₂, ◌∙◌}
use mathlib.Core.List.{List, [], ◌∷◌}
use native.Mathlib.Decide.{ℕ_discrete}
use native.Mathlib.Omega.{arith}
use lib.ListN.{length, get_or, set, length-set}
use lib.Seq.{get_or-set_same, get_or-set_other, ext_get_or}
use Rattle.symbology.specs.Generator.{next_state}
use Rattle.symbology.specs.Shuffle.{drawn_place, exchanged, shuffled_first, shuffled}
use Rattle.laws.proofs.Shuffle.{length_exchanged, drawn_lt}
use Rattle.lent.specs.Changes.{Span, span, Outside, Changed}
use Rattle.lent.specs.Buffer.{number_at, numbers_at}
use Rattle.lent.proofs.Buffer.{length_numbers, numbers_at_lem, number_same}
use Rattle.lent.proofs.Changes.{changed_none, changed_set}
use Rattle.shuffle.specs.Items.{exchanged_first, exchanged_items, permuted_items}
use Rattle.shuffle.specs.Numbers.{NumbersShuffled}

-- ---- one exchange

module _ (i j : ℕ) (xs : List ℕ) (h : i < length xs) (g : j < length xs) where
  at_second : get_or (exchanged 0 i j xs) j 0 ≡ get_or xs i 0
  unfolding exchanged
  at_second = get_or-set_same (set xs i (get_or xs j 0)) j (get_or xs i 0) 0 (omega (arith, length-set xs i (get_or xs j 0)))

  at_first : get_or (exchanged 0 i j xs) i 0 ≡ get_or xs j 0
  unfolding exchanged
  at_first =
      elim (ℕ_discrete i j) [
        | yes e ↦ ap (λ (k : ℕ). get_or (exchanged 0 i j xs) k 0) e ∙ at_second ∙ ap (λ (k : ℕ). get_or xs k 0) e
        | no e ↦ get_or-set_other (set xs i (get_or xs j 0)) j i (get_or xs i 0) 0 e ∙ get_or-set_same xs i (get_or xs j 0) 0 h
      ]

elsewhere : (i j k : ℕ) (xs : List ℕ) → (k ≡ i → ⊥) → (k ≡ j → ⊥) → get_or (exchanged 0 i j xs) k 0 ≡ get_or xs k 0
unfolding exchanged
elsewhere i j k xs e f =
    get_or-set_other (set xs i (get_or xs j 0)) j k (get_or xs i 0) 0 f ∙ get_or-set_other xs i k (get_or xs j 0) 0 e

changed_exchanged : {ss : List Span} {before after : List ℕ} → Changed ss before after
    → (i j : ℕ) → (Outside ss i → ⊥) → (Outside ss j → ⊥) → Changed ss before (exchanged 0 i j after)
unfolding exchanged
changed_exchanged {after = after} c i j h g = changed_set (changed_set c i (get_or after j 0) h) j (get_or after i 0) g

-- ---- two numbers exchanged

-- the lower bytes, and then the upper bytes
both_bytes : (at i j : ℕ) (xs : List ℕ)
    → exchanged_items 2 at i j xs ≡ exchanged 0 (at + 2 * i + 1) (at + 2 * j + 1) (exchanged 0 (at + 2 * i) (at + 2 * j) xs)
unfolding exchanged_first
both_bytes at i j xs =
    let first : at + 2 * i + 0 ≡ at + 2 * i = omega arith in
    let second : at + 2 * j + 0 ≡ at + 2 * j = omega arith in
    ap₂ (λ (p q : ℕ). exchanged 0 (at + 2 * i + 1) (at + 2 * j + 1) (exchanged 0 p q xs)) first second

module _ (xs : List ℕ) (at n i j : ℕ) (h : i < n) (g : j < n) (room : at + 2 * n ≤ length xs) where
  lower : List ℕ
  lower = exchanged 0 (at + 2 * i) (at + 2 * j) xs

  both : List ℕ
  both = exchanged 0 (at + 2 * i + 1) (at + 2 * j + 1) lower

  long : length lower ≡ length xs
  unfolding lower
  long = length_exchanged 0 (at + 2 * i) (at + 2 * j) xs

  low_byte : (m : ℕ) → get_or both (at + 2 * m) 0 ≡ get_or lower (at + 2 * m) 0
  unfolding both
  low_byte m = elsewhere (at + 2 * i + 1) (at + 2 * j + 1) (at + 2 * m) lower (λ e. omega arith) (λ e. omega arith)

  high_byte : (m : ℕ) → get_or lower (at + 2 * m + 1) 0 ≡ get_or xs (at + 2 * m + 1) 0
  unfolding lower
  high_byte m = elsewhere (at + 2 * i) (at + 2 * j) (at + 2 * m + 1) xs (λ e. omega arith) (λ e. omega arith)

  number_second : number_at both (at + 2 * j) ≡ number_at xs (at + 2 * i)
  unfolding both lower
  number_second =
      ap₂ (λ (x y : ℕ). x + 256 * y) (low_byte j ∙ at_second (at + 2 * i) (at + 2 * j) xs (omega arith) (omega arith))
      (at_second (at + 2 * i + 1) (at + 2 * j + 1) lower (omega (arith, long)) (omega (arith, long)) ∙ high_byte i)

  number_first : number_at both (at + 2 * i) ≡ number_at xs (at + 2 * j)
  unfolding both lower
  number_first =
      ap₂ (λ (x y : ℕ). x + 256 * y) (low_byte i ∙ at_first (at + 2 * i) (at + 2 * j) xs (omega arith) (omega arith))
      (at_first (at + 2 * i + 1) (at + 2 * j + 1) lower (omega (arith, long)) (omega (arith, long)) ∙ high_byte j)

  number_elsewhere : (m : ℕ) → (m ≡ i → ⊥) → (m ≡ j → ⊥) → number_at both (at + 2 * m) ≡ number_at xs (at + 2 * m)
  unfolding both lower
  number_elsewhere m e f =
      number_same xs both (at + 2 * m)
      (low_byte m ∙ elsewhere (at + 2 * i) (at + 2 * j) (at + 2 * m) xs (λ r. e (omega arith)) (λ r. f (omega arith)))
      (elsewhere (at + 2 * i + 1) (at + 2 * j + 1) (at + 2 * m + 1) lower (λ r. e (omega arith)) (λ r. f (omega arith)) ∙ high_byte m)

  numbers_both : numbers_at both at n ≡ exchanged 0 i j (numbers_at xs at n)
  numbers_both =
      let ns : List ℕ = numbers_at xs at n in
      let all : length ns ≡ n = length_numbers xs at n in
      ext_get_or 0 (numbers_at both at n) (exchanged 0 i j ns) (length_numbers both at n ∙ sym (length_exchanged 0 i j ns ∙ all))
      (λ m l.
      let low : m < n = omega (arith, length_numbers both at n) in
      numbers_at_lem both at n m low
      ∙ elim (ℕ_discrete m j) [
        | yes e ↦
            rw e
            (number_second
            ∙ sym (at_second i j ns (omega (arith, all)) (omega (arith, all)) ∙ numbers_at_lem xs at n i h))
        | no e ↦ elim (ℕ_discrete m i) [
          | yes f ↦
              rw f
              (number_first
              ∙ sym (at_first i j ns (omega (arith, all)) (omega (arith, all)) ∙ numbers_at_lem xs at n j g))
          | no f ↦ number_elsewhere m f e ∙ sym (elsewhere i j m ns f e ∙ numbers_at_lem xs at n m low)
        ]
      ])

  numbers_exchanged : numbers_at (exchanged_items 2 at i j xs) at n ≡ exchanged 0 i j (numbers_at xs at n)
  unfolding both lower
  numbers_exchanged = ap (λ (l : List ℕ). numbers_at l at n) (both_bytes at i j xs) ∙ numbers_both

-- The exchange of two numbers changes the buffer where the numbers lie.
exchanged_changed : {at n : ℕ} {before after : List ℕ} (i j : ℕ) → Changed (span at (at + 2 * n) ∷ []) before after → i < n → j < n
    → Changed (span at (at + 2 * n) ∷ []) before (exchanged_items 2 at i j after)
exchanged_changed {at} {n} {before} {after} i j c h g =
    rw (both_bytes at i j after)
    (changed_exchanged
    (changed_exchanged c (at + 2 * i) (at + 2 * j) (λ o. omega (arith, o.0 (omega arith))) (λ o. omega (arith, o.0 (omega arith))))
    (at + 2 * i + 1) (at + 2 * j + 1) (λ o. omega (arith, o.0 (omega arith))) (λ o. omega (arith, o.0 (omega arith))))

-- ---- all exchanges

-- The last k numbers left of n, permuted from the state s.
first_numbers : (before ys : List ℕ) (at n k s : ℕ) → k ≤ n → n ≤ 4096 → at + 2 * n ≤ length before
    → Changed (span at (at + 2 * n) ∷ []) before ys
    → Changed (span at (at + 2 * n) ∷ []) before (permuted_items 2 at k s ys)
    × (numbers_at (permuted_items 2 at k s ys) at n ≡ shuffled_first 0 k s (numbers_at ys at n))
unfolding permuted_items shuffled_first
first_numbers before ys at n zero s h few room c = (c, refl)
first_numbers before ys at n (suc k) s h few room c =
    let p : ℕ = drawn_place (next_state s) (suc k) in
    let low : p < suc k = drawn_lt s (suc k) (omega arith) (omega arith) in
    let next = first_numbers before (exchanged_items 2 at p k ys) at n k (next_state s) (omega arith) few room
    (exchanged_changed p k c (omega arith) (omega arith)) in (
      next.0,
      next.1
          ∙ ap (shuffled_first 0 k (next_state s))
          (numbers_exchanged ys at n p k (omega arith) (omega arith) (omega (arith, c.long))),
    )

pub numbers_permuted : (xs : List ℕ) (at n s : ℕ) → n ≤ 4096 → at + 2 * n ≤ length xs
    → NumbersShuffled at n s xs (permuted_items 2 at n s xs)
unfolding shuffled
numbers_permuted xs at n s few room =
    let all = first_numbers xs xs at n n s (omega arith) few room (changed_none (span at (at + 2 * n) ∷ []) xs) in
    record {
      changed = all.0;
      numbers_are = all.1 ∙ ap (λ (k : ℕ). shuffled_first 0 k s (numbers_at xs at n)) (sym (length_numbers xs at n));
    }
