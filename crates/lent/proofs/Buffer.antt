-- Parts of a buffer, as lists and as code lends them and gets them back, and numbers of two bytes stored and read.
-- Assumes nothing.
use Prim.Native.Nat.{ℕ, ◌+◌, ◌-◌, ◌*◌, ◌/◌, ◌%◌, ◌≤◌, ◌<◌}
use mathlib.Core.Path.{◌≡◌, refl, sym, ap, ap₂, ◌∙◌}
use mathlib.Core.List.{List, [], ◌∷◌, ◌++◌}
use native.Mathlib.Decide.{dec_lt, ℕ_discrete}
use native.Mathlib.Numerals.{add-one}
use native.Mathlib.Omega.{arith}
use lib.ListN.{length, get_or, take, drop, set, length-set, length-drop, get_or-append, get_or-eq_default}
use lib.Seq.{length-take-le, get_or-take, get_or-drop, get_or-set_same, get_or-set_other, get_or-append-add, take_at, drop_at, take-take}
use lib.Seq.{ext_get_or}
use borrow.Rule.Slice.PartMut.{put_mid, same_len_mid}
use Rattle.symbology.specs.Ranges.{tabulate}
use Rattle.laws.proofs.Ranges.{length_tabulate, get_d_tabulate, tabulate_ext}
use Rattle.lent.specs.Changes.{span, Changed}
use Rattle.lent.specs.Buffer.{part, number_at, numbers_at, stored_number}

-- ---- parts

pub length_part : (xs : List ℕ) (at n : ℕ) → at + n ≤ length xs → length (part xs at n) ≡ n
length_part xs at n h = length-take-le n (drop at xs) (omega (arith, length-drop at xs))

pub part_at : (xs : List ℕ) (at n i : ℕ) → i < n → get_or (part xs at n) i 0 ≡ get_or xs (at + i) 0
part_at xs at n i h = get_or-take n (drop at xs) i 0 h ∙ get_or-drop at xs i 0

-- Past its end a part has 0.
pub part_past : (xs : List ℕ) (at n i : ℕ) → at + n ≤ length xs → n ≤ i → get_or (part xs at n) i 0 ≡ 0
part_past xs at n i h l = get_or-eq_default (part xs at n) 0 {n = i} (omega (arith, length_part xs at n h))

-- A list is the part of a buffer that has its elements.
pub part_is : (xs : List ℕ) (at n : ℕ) (ys : List ℕ) → at + n ≤ length xs → length ys ≡ n
    → ((i : ℕ) → i < n → get_or xs (at + i) 0 ≡ get_or ys i 0) → part xs at n ≡ ys
part_is xs at n ys h l same =
    ext_get_or 0 (part xs at n) ys (length_part xs at n h ∙ sym l)
    (λ i g. let inside : i < n = omega (arith, length_part xs at n h) in part_at xs at n i inside ∙ same i inside)

-- Parts of two buffers are equal where their elements are.
pub part_same : (xs ys : List ℕ) (at n : ℕ) → at + n ≤ length xs → at + n ≤ length ys
    → ((i : ℕ) → at ≤ i → i < at + n → get_or ys i 0 ≡ get_or xs i 0) → part ys at n ≡ part xs at n
part_same xs ys at n h g same =
    part_is ys at n (part xs at n) g (length_part xs at n h)
    (λ i l. same (at + i) (omega arith) (omega arith) ∙ sym (part_at xs at n i l))

-- the width of a part that code lends from one place up to another
lent_width : (at n : ℕ) → at + n - at ≡ n
lent_width at n = omega arith

-- such a part, and its length
pub part_lent : (xs : List ℕ) (at n : ℕ) → part xs at (at + n - at) ≡ part xs at n
part_lent xs at n = ap (part xs at) (lent_width at n)

pub length_lent : (xs : List ℕ) (at n : ℕ) → at + n ≤ length xs → length (part xs at (at + n - at)) ≡ n
length_lent xs at n room = ap length (part_lent xs at n) ∙ length_part xs at n room

-- a part of a part, from its first place on
part_front : (xs : List ℕ) (at n k : ℕ) → k ≤ n → take k (part xs at n) ≡ part xs at k
part_front xs at n k h = take-take k n (drop at xs) h

-- what lies behind the first k places of a part
part_behind : (xs : List ℕ) (at n k : ℕ) → k ≤ n → at + n ≤ length xs → drop k (part xs at n) ≡ part xs (at + k) (n - k)
part_behind xs at n k h room =
    sym (part_is xs (at + k) (n - k) (drop k (part xs at n)) (omega arith)
    (length-drop k (part xs at n) ∙ ap (λ (m : ℕ). m - k) (length_part xs at n room))
    (λ i g.
    let place : at + k + i ≡ at + (k + i) = omega arith in
    ap (λ (j : ℕ). get_or xs j 0) place ∙ sym (get_or-drop k (part xs at n) i 0 ∙ part_at xs at n (k + i) (omega arith))))

-- ---- numbers of two bytes

pub length_numbers : (xs : List ℕ) (at n : ℕ) → length (numbers_at xs at n) ≡ n
unfolding numbers_at
length_numbers xs at n = length_tabulate n (λ i. number_at xs (at + 2 * i))

pub numbers_at_lem : (xs : List ℕ) (at n i : ℕ) → i < n → get_or (numbers_at xs at n) i 0 ≡ number_at xs (at + 2 * i)
unfolding numbers_at
numbers_at_lem xs at n i h = get_d_tabulate n (λ j. number_at xs (at + 2 * j)) 0 i h

-- no number, and one number more
pub numbers_none : (xs : List ℕ) (at : ℕ) → numbers_at xs at 0 ≡ []
unfolding numbers_at tabulate
numbers_none xs at = refl

pub numbers_last : (xs : List ℕ) (at n : ℕ) → numbers_at xs at (n + 1) ≡ numbers_at xs at n ++ (number_at xs (at + 2 * n) ∷ [])
unfolding numbers_at tabulate
numbers_last xs at n = rw (add-one n) refl

-- Numbers of two buffers are equal where their bytes are.
pub number_same : (xs ys : List ℕ) (at : ℕ) → get_or ys at 0 ≡ get_or xs at 0 → get_or ys (at + 1) 0 ≡ get_or xs (at + 1) 0
    → number_at ys at ≡ number_at xs at
number_same xs ys at e f = ap₂ (λ (x y : ℕ). x + 256 * y) e f

pub numbers_same : (xs ys : List ℕ) (at n : ℕ) → ((i : ℕ) → at ≤ i → i < at + 2 * n → get_or ys i 0 ≡ get_or xs i 0)
    → numbers_at ys at n ≡ numbers_at xs at n
unfolding numbers_at
numbers_same xs ys at n same =
    tabulate_ext n (λ i. number_at ys (at + 2 * i)) (λ i. number_at xs (at + 2 * i))
    (λ i h.
    let place : ℕ = at + 2 * i in
    number_same xs ys place (same place (omega arith) (omega arith)) (same (place + 1) (omega arith) (omega arith)))

pub length_stored : (xs : List ℕ) (at v : ℕ) → length (stored_number xs at v) ≡ length xs
unfolding stored_number
length_stored xs at v = length-set (set xs at (v % 256)) (at + 1) (v / 256) ∙ length-set xs at (v % 256)

-- A number stored is read back.
pub stored_there : (xs : List ℕ) (at v : ℕ) → at + 2 ≤ length xs → number_at (stored_number xs at v) at ≡ v
unfolding stored_number
stored_there xs at v h =
    let low : get_or (set (set xs at (v % 256)) (at + 1) (v / 256)) at 0 ≡ v % 256 =
    get_or-set_other (set xs at (v % 256)) (at + 1) at (v / 256) 0 (λ e. omega arith) ∙ get_or-set_same xs at (v % 256) 0 (omega arith) in
    let high : get_or (set (set xs at (v % 256)) (at + 1) (v / 256)) (at + 1) 0 ≡ v / 256 =
    get_or-set_same (set xs at (v % 256)) (at + 1) (v / 256) 0 (omega (arith, length-set xs at (v % 256))) in
    omega arith

-- Other bytes stay.
pub stored_other : (xs : List ℕ) (at v i : ℕ) → (i ≡ at → ⊥) → (i ≡ at + 1 → ⊥) → get_or (stored_number xs at v) i 0 ≡ get_or xs i 0
unfolding stored_number
stored_other xs at v i e f =
    get_or-set_other (set xs at (v % 256)) (at + 1) i (v / 256) 0 f ∙ get_or-set_other xs at i (v % 256) 0 e

-- Of the numbers from a place on, one is stored.
pub stored_numbers : (xs : List ℕ) (at n j v : ℕ) → j < n → at + 2 * n ≤ length xs
    → numbers_at (stored_number xs (at + 2 * j) v) at n ≡ set (numbers_at xs at n) j v
stored_numbers xs at n j v h room =
    let ys : List ℕ = stored_number xs (at + 2 * j) v in
    ext_get_or 0 (numbers_at ys at n) (set (numbers_at xs at n) j v)
    (length_numbers ys at n ∙ sym (length-set (numbers_at xs at n) j v ∙ length_numbers xs at n))
    (λ i l.
    let inside : i < n = omega (arith, length_numbers ys at n) in
    numbers_at_lem ys at n i inside
    ∙ elim (ℕ_discrete i j) [
      | yes e ↦
          rw e
          (stored_there xs (at + 2 * j) v (omega arith)
          ∙ sym (get_or-set_same (numbers_at xs at n) j v 0 (omega (arith, length_numbers xs at n))))
      | no e ↦
          number_same xs ys (at + 2 * i) (stored_other xs (at + 2 * j) v (at + 2 * i) (λ f. e (omega arith)) (λ f. omega arith))
          (stored_other xs (at + 2 * j) v (at + 2 * i + 1) (λ f. omega arith) (λ f. e (omega arith)))
          ∙ sym (get_or-set_other (numbers_at xs at n) j i v 0 e ∙ numbers_at_lem xs at n i inside)
    ])

-- ---- a part that was lent and came back

module _ (at n : ℕ) (xs ys : List ℕ) (room : at + n ≤ length xs) (long : length ys ≡ n) where
  pub length_put : length (put_mid at n xs ys) ≡ length xs
  length_put = same_len_mid at n xs ys (long ∙ sym (length_part xs at n room))

  -- the part is what came back
  pub part_put : part (put_mid at n xs ys) at n ≡ ys
  part_put =
      let front : List ℕ = take at xs in
      let rest : List ℕ = drop n (drop at xs) in
      ap (take n) (drop_at front (ys ++ rest) at (length-take-le at xs (omega arith))) ∙ take_at ys rest n long

  -- all else is as it was
  pub changed_put : Changed (span at (at + n) ∷ []) xs (put_mid at n xs ys)
  changed_put =
      let front : List ℕ = take at xs in
      let rest : List ℕ = drop n (drop at xs) in
      let short : length front ≡ at = length-take-le at xs (omega arith) in
      record {
        long = length_put;
        kept = λ i o.
            elim (dec_lt i at) [
              | yes h ↦ get_or-append front (ys ++ rest) 0 i (omega arith) ∙ get_or-take at xs i 0 h
              | no h ↦
                  let behind : at + n ≤ i = o.0 (omega arith) in
                  let k : ℕ = i - (at + n) in
                  let place : i ≡ length front + (length ys + k) = omega arith in
                  let inside : at + (n + k) ≡ i = omega arith in
                  ap (λ (j : ℕ). get_or (front ++ (ys ++ rest)) j 0) place
                  ∙ get_or-append-add front (ys ++ rest) (length ys + k) 0
                  ∙ get_or-append-add ys rest k 0
                  ∙ get_or-drop n (drop at xs) k 0
                  ∙ get_or-drop at xs (n + k) 0
                  ∙ ap (λ (j : ℕ). get_or xs j 0) inside
            ];
      }

-- the buffer after a list came back for the n places from a place on, as code lends them
abbrev pub given_back : ℕ → ℕ → List ℕ → List ℕ → List ℕ
given_back at n xs ys = put_mid at (at + n - at) xs ys

module _ (at n : ℕ) (xs ys : List ℕ) (room : at + n ≤ length xs) (long : length ys ≡ n) where
  pub length_back : length (given_back at n xs ys) ≡ length xs
  length_back = rw (lent_width at n) (length_put at n xs ys room long)

  pub part_back : part (given_back at n xs ys) at n ≡ ys
  part_back = rw (lent_width at n) (part_put at n xs ys room long)

  -- the first k places of the part
  pub front_back : (k : ℕ) → k ≤ n → part (given_back at n xs ys) at k ≡ take k ys
  front_back k h = sym (part_front (given_back at n xs ys) at n k h) ∙ ap (take k) part_back

  -- the others
  pub behind_back : (k : ℕ) → k ≤ n → part (given_back at n xs ys) (at + k) (at + n - (at + k)) ≡ drop k ys
  behind_back k h =
      let rest : at + n - (at + k) ≡ n - k = omega arith in
      ap (part (given_back at n xs ys) (at + k)) rest
      ∙ sym (part_behind (given_back at n xs ys) at n k h (omega (arith, length_back)))
      ∙ ap (drop k) part_back
