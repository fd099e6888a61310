-- Laws of the mending rule: no row of A names a place twice, what a turned bit does to the unmet checks, and what the suspect bit
-- and the end of the rule mean.
-- Assumes nothing.
use Prim.Native.Nat.{ℕ, zero, suc, ◌+◌, ◌-◌, ◌≤◌, ◌<◌}
use mathlib.Core.Path.{◌≡◌, refl, sym, ap, ◌∙◌, subst, subst⁻¹}
use mathlib.Core.Bool.{Bool, true, false, cond, ◌||◌}
use mathlib.Core.Logic.{inl, inr}
use mathlib.Core.List.{List, [], ◌∷◌, ◌++◌}
use native.Mathlib.Nat.{zero-add}
use native.Mathlib.Omega.{arith}
use native.Mathlib.Decide.{ℕ_discrete, dec_lt}
use lib.Dec.{eqb}
use lib.ListN.{length, get_or, length-set, length-map, get_or-eq_default}
use lib.Seq.{get_or-set_same, get_or-set_other, set_out}
use borrow.Author.Tests.{ltb-true, ltb-false, eqb-true, eqb-false, lt-ltb, le-ltb, eq-eqb, ne_eqb}
use Rattle.symbology.specs.Ranges.{tabulate, those, has}
use Rattle.symbology.specs.Bits.{AllBits}
use Rattle.symbology.specs.Matrix.{BitMatrix, check_of, checks_of}
use Rattle.symbology.specs.Rule.{bit_sum, unmet, unmet_count, unmet_at, met_at, is_suspect, suspect, turned, ends, places_of}
use Rattle.symbology.specs.Steps.{LowestSuspect, Ended}
use Rattle.symbology.proofs.Ranges.{clash}
use Rattle.laws.proofs.Ranges.{by, or_left, or_right, or_none, lowest_to, lowest_holds, lowest_before}
use Rattle.laws.proofs.Ranges.{lowest_none, length_tabulate, get_d_tabulate, has_append, has_those_past}
use Rattle.laws.proofs.Ranges.{lowest_is, those_out, those_ascending, those_in, has_at, Ascending}

-- ---- checks that name no place twice

-- the check names no place twice
abbrev pub Once : List ℕ → Type 0
Once [] = Unit {0}
Once (j ∷ js) = (has j js ≡ false) × Once js

-- none of the checks names a place twice; past their end stands the empty check
abbrev pub AllOnce : List (List ℕ) → Type 0
AllOnce cs = (i : ℕ) → Once (get_or cs i [])

-- The places of a check that names none twice differ from one another.
pub once_apart : (c : List ℕ) → Once c → (p q : ℕ) → p < q → q < length c → get_or c p 0 ≡ get_or c q 0 → ⊥
once_apart [] o p q l h e = omega arith
once_apart (x ∷ c) o p zero l h e = omega arith
once_apart (x ∷ c) o zero (suc q) l h e = clash (subst⁻¹ (λ (k : ℕ). has k c ≡ true) e (has_at c q (omega arith))) o.0
once_apart (x ∷ c) o (suc p) (suc q) l h e = once_apart c o.1 p q (omega arith) (omega arith) e

once_snoc : (c : List ℕ) (n : ℕ) → Once c → has n c ≡ false → Once (c ++ (n ∷ []))
unfolding has
once_snoc [] n o h = (refl, tt)
once_snoc (x ∷ c) n o h =
    let apart : eqb x n ≡ false = ne_eqb x n (λ e. eqb-false n x (or_left (eqb n x) (has n c) h) (sym e)) in (
      has_append x c (n ∷ []) ∙ or_none (has x c) (eqb x n || false) o.0 (rw apart refl),
      once_snoc c n o.1 (or_right (eqb n x) (has n c) h),
    )

-- The numbers at which a test holds are named once each.
pub once_those : (n : ℕ) (f : ℕ → Bool) → Once (those n f)
unfolding those
once_those zero f = tt
once_those (suc n) f =
    by (f n) (λ e. subst⁻¹ Once (those_in n f e) (once_snoc (those n f) n (once_those n f) (has_those_past f n n (omega arith))))
    (λ e. subst⁻¹ Once (those_out n f e) (once_those n f))

-- The checks of a matrix name no column twice.
pub checks_once : (k n : ℕ) (a : BitMatrix) → AllOnce (checks_of k n a)
unfolding checks_of check_of
checks_once k n a i =
    elim (dec_lt i k) [
      | yes h ↦ rw (get_d_tabulate k (check_of n a) [] i h) (once_those n (a i))
      | no h ↦ rw (get_or-eq_default (tabulate k (check_of n a)) [] {n = i} (omega (arith, length_tabulate k (check_of n a)))) tt
    ]

-- The columns that a check of a matrix names ascend.
pub check_ascends : (n : ℕ) (a : BitMatrix) (i : ℕ) → Ascending (check_of n a i)
unfolding check_of
check_ascends n a i = those_ascending n (a i)

-- ---- a turned bit

-- Turning a bit keeps the word's length.
pub length_turned : (w : List ℕ) (j : ℕ) → length (turned w j) ≡ length w
unfolding turned
length_turned w j = length-set w j (1 - get_or w j 0)

pub turned_there : (w : List ℕ) (j : ℕ) → j < length w → get_or (turned w j) j 0 ≡ 1 - get_or w j 0
unfolding turned
turned_there w j h = get_or-set_same w j (1 - get_or w j 0) 0 h

pub turned_elsewhere : (w : List ℕ) (j i : ℕ) → (i ≡ j → ⊥) → get_or (turned w j) i 0 ≡ get_or w i 0
unfolding turned
turned_elsewhere w j i h = get_or-set_other w j i (1 - get_or w j 0) 0 h

turned_outside : (w : List ℕ) (j : ℕ) → length w ≤ j → turned w j ≡ w
unfolding turned
turned_outside w j h = set_out w j (1 - get_or w j 0) h

-- A word of bits with a bit turned is one of bits.
pub turned_bits : (w : List ℕ) (j : ℕ) → AllBits w → AllBits (turned w j)
turned_bits w j b i =
    elim (dec_lt j (length w)) [
      | yes l ↦ elim (ℕ_discrete i j) [
        | yes e ↦ rw e (omega (arith, turned_there w j l))
        | no e ↦ omega (arith, turned_elsewhere w j i e, b i)
      ]
      | no l ↦ rw (turned_outside w j (omega arith)) (b i)
    ]

sum_kept : (c w : List ℕ) (j : ℕ) → has j c ≡ false → bit_sum c (turned w j) ≡ bit_sum c w
unfolding bit_sum has
sum_kept [] w j h = refl
sum_kept (x ∷ c) w j h =
    let apart : x ≡ j → ⊥ = λ e. eqb-false j x (or_left (eqb j x) (has j c) h) (sym e) in
    omega (arith, turned_elsewhere w j x apart, sum_kept c w j (or_right (eqb j x) (has j c) h))

sum_changed : (c w : List ℕ) (j : ℕ) → Once c → j < length w → has j c ≡ true
    → bit_sum c (turned w j) + get_or w j 0 ≡ bit_sum c w + (1 - get_or w j 0)
unfolding bit_sum has
sum_changed [] w j o l h = clash h refl
sum_changed (x ∷ c) w j o l h =
    elim (ℕ_discrete x j) [
      | yes e ↦
          let new : get_or (turned w j) x 0 ≡ 1 - get_or w j 0 = rw e (turned_there w j l) in
          let old : get_or w x 0 ≡ get_or w j 0 = ap (λ (k : ℕ). get_or w k 0) e in
          omega (arith, sum_kept c w j (subst (λ (k : ℕ). has k c ≡ false) e o.0))
      | no e ↦ omega (arith, turned_elsewhere w j x e, sum_changed c w j o.1 l (rw (ne_eqb j x (λ s. e (sym s))) at h))
    ]

-- A turned bit changes a check exactly where the check names it.
pub unmet_change : (c w : List ℕ) (j : ℕ) → Once c → AllBits w → j < length w
    → unmet c (turned w j) + cond (has j c) (unmet c w) 0 ≡ unmet c w + cond (has j c) (1 - unmet c w) 0
unfolding unmet
unmet_change c w j o b l =
    by (has j c) (λ e. rw e (omega (arith, sum_changed c w j o l e, b j)))
    (λ e. rw e (omega (arith, sum_kept c w j e)))

-- Not more checks are unmet than there are.
unmet_most : (cs : List (List ℕ)) (w : List ℕ) → unmet_count cs w ≤ length cs
unfolding unmet unmet_count
unmet_most [] w = omega arith
unmet_most (c ∷ cs) w = omega (arith, unmet_most cs w)

-- Of the checks of a matrix with k rows at most k are unmet.
pub unmet_few : (k n : ℕ) (a : BitMatrix) (w : List ℕ) → unmet_count (checks_of k n a) w ≤ k
unfolding checks_of
unmet_few k n a w = omega (arith, unmet_most (checks_of k n a) w, length_tabulate k (check_of n a))

-- Turning bit j changes the unmet count by the met checks that bit j stands in less the unmet ones.
pub unmet_after : (cs : List (List ℕ)) (w : List ℕ) (j : ℕ) → AllOnce cs → AllBits w → j < length w
    → unmet_count cs (turned w j) + unmet_at cs w j ≡ unmet_count cs w + met_at cs w j
unfolding unmet_count unmet_at met_at
unmet_after [] w j o b l = refl
unmet_after (c ∷ cs) w j o b l = omega (arith, unmet_change c w j (o 0) b l, unmet_after cs w j (λ i. o (suc i)) b l)

-- Turning a bit that stands in more unmet than met checks lowers the unmet count.
pub step_lowers : (cs : List (List ℕ)) (w : List ℕ) (j : ℕ) → AllOnce cs → AllBits w → j < length w → met_at cs w j < unmet_at cs w j
    → unmet_count cs (turned w j) < unmet_count cs w
step_lowers cs w j o b l h = omega (arith, unmet_after cs w j o b l)

-- ---- the suspect bit

pub suspect_to : (cs : List (List ℕ)) (w : List ℕ) → suspect cs w ≤ length w
unfolding suspect
suspect_to cs w = omega (arith, lowest_to (is_suspect cs w) (length w) 0)

-- Where the search for the suspect bit finds one, it is the lowest.
pub suspect_lowest : (cs : List (List ℕ)) (w : List ℕ) → suspect cs w < length w → LowestSuspect cs w (suspect cs w)
unfolding suspect is_suspect
suspect_lowest cs w h =
    let j : ℕ = suspect cs w in
    record {
      inside = h;
      suspected = ltb-true (met_at cs w j) (unmet_at cs w j) (lowest_holds (is_suspect cs w) (length w) 0 (omega arith));
      none_below = λ i l. ltb-false (met_at cs w i) (unmet_at cs w i) (lowest_before (is_suspect cs w) (length w) 0 i (omega arith) l);
    }

-- The lowest suspect bit is the one that the search finds.
pub lowest_suspect : (cs : List (List ℕ)) (w : List ℕ) (j : ℕ) → LowestSuspect cs w j → suspect cs w ≡ j
unfolding suspect is_suspect
lowest_suspect cs w j s =
    lowest_is (is_suspect cs w) (length w) 0 j (omega arith) (omega (arith, s.inside))
    (λ i h l. le-ltb (met_at cs w i) (unmet_at cs w i) (s.none_below i l))
    (λ h. lt-ltb (met_at cs w j) (unmet_at cs w j) s.suspected)

-- Where the search gives the word's length, no bit is suspect.
pub suspect_none : (cs : List (List ℕ)) (w : List ℕ) → suspect cs w ≡ length w → (j : ℕ) → j < length w → unmet_at cs w j ≤ met_at cs w j
unfolding suspect is_suspect
suspect_none cs w e j h =
    ltb-false (met_at cs w j) (unmet_at cs w j) (lowest_before (is_suspect cs w) (length w) 0 j (omega arith) (omega arith))

-- Where no bit is suspect, the search gives the word's length.
pub none_suspect : (cs : List (List ℕ)) (w : List ℕ) → ((j : ℕ) → j < length w → unmet_at cs w j ≤ met_at cs w j) → suspect cs w ≡ length w
unfolding suspect is_suspect
none_suspect cs w h =
    lowest_none (is_suspect cs w) (length w) 0 (λ i a b. le-ltb (met_at cs w i) (unmet_at cs w i) (h i (omega arith))) ∙ zero-add (length w)

-- ---- the end

-- Where the test of the end holds, the rule ends.
pub ends_means : (cs : List (List ℕ)) (w : List ℕ) → ends cs w ≡ true → Ended cs w
unfolding ends
ends_means cs w e =
    by (eqb (unmet_count cs w) 0) (λ z. inl (eqb-true (unmet_count cs w) 0 z))
    (λ z. inr (suspect_none cs w (eqb-true (suspect cs w) (length w) (rw z at e))))

-- Where the test of the end fails, some check is unmet and some bit is suspect.
pub goes_means : (cs : List (List ℕ)) (w : List ℕ) → ends cs w ≡ false → (0 < unmet_count cs w) × (suspect cs w < length w)
unfolding ends
goes_means cs w e =
    let met : Bool = eqb (unmet_count cs w) 0 in
    let none : Bool = eqb (suspect cs w) (length w) in
    let some : unmet_count cs w ≡ 0 → ⊥ = eqb-false (unmet_count cs w) 0 (or_left met none e) in
    let found : suspect cs w ≡ length w → ⊥ = eqb-false (suspect cs w) (length w) (or_right met none e) in
    (omega arith, omega (arith, suspect_to cs w))

-- Where the rule ends, the test of the end holds.
pub ended_ends : (cs : List (List ℕ)) (w : List ℕ) → Ended cs w → ends cs w ≡ true
unfolding ends
ended_ends cs w (inl e) = rw (eq-eqb (unmet_count cs w) 0 e) refl
ended_ends cs w (inr h) = go (eqb (unmet_count cs w) 0) (eq-eqb (suspect cs w) (length w) (none_suspect cs w h))
  where
    go : (t : Bool) → eqb (suspect cs w) (length w) ≡ true → (t || eqb (suspect cs w) (length w)) ≡ true
    go true e = refl
    go false e = e

-- ---- places

-- each bit has its place
pub length_places : (js : List ℕ) → length (places_of js) ≡ length js
unfolding places_of
length_places js = length-map js _
