-- Laws of tests, of searches and of lists over ranges of numbers.
-- Assumes nothing.
use Prim.Native.Nat.{ℕ, zero, suc, ◌+◌, ◌≤◌, ◌<◌}
use mathlib.Core.Path.{◌≡◌, refl, sym, ap, ◌∙◌, subst⁻¹, ap₂}
use mathlib.Core.Bool.{Bool, true, false, cond, ◌&&◌, ◌||◌, or-true}
use mathlib.Core.List.{List, [], ◌∷◌, ◌++◌, append-nil}
use native.Mathlib.Omega.{arith}
use native.Mathlib.Decide.{ℕ_discrete, dec_lt}
use lib.Dec.{eqb, ltb, leb}
use lib.ListN.{length, get_or, length-append, get_or-append}
use lib.Seq.{get_or_at, ext_get_or}
use borrow.Author.Tests.{eq-eqb, ne_eqb, lt-ltb, leb-true, le-ltb}
use Rattle.symbology.specs.Ranges.{tally, all_below, tabulate, those, lowest, has, all_hold, within}
use Rattle.symbology.proofs.Ranges.{clash, and_left, and_right}

-- ---- tests

-- case on a test, with what it says
pub by {ℓ} : {X : Type ℓ} (b : Bool) → (b ≡ true → X) → (b ≡ false → X) → X
by true f g = f refl
by false f g = g refl

pub and_both : (a b : Bool) → a ≡ true → b ≡ true → (a && b) ≡ true
and_both true b p q = q
and_both false b p q = p

pub or_left : (a b : Bool) → (a || b) ≡ false → a ≡ false
or_left true b e = e
or_left false b e = refl

pub or_right : (a b : Bool) → (a || b) ≡ false → b ≡ false
or_right true b e = clash refl e
or_right false b e = e

pub or_none : (a b : Bool) → a ≡ false → b ≡ false → (a || b) ≡ false
or_none true b p q = p
or_none false b p q = q

pub within_low : (low high n : ℕ) → within low high n ≡ true → low ≤ n
within_low low high n e = leb-true low n (and_left (leb low n) (leb n high) e)

pub within_high : (low high n : ℕ) → within low high n ≡ true → n ≤ high
within_high low high n e = leb-true n high (and_right (leb low n) (leb n high) e)

-- the test of a list that all hold, at each place
pub at_each : (ts : List Bool) → all_hold ts ≡ true → (i : ℕ) → get_or ts i true ≡ true
unfolding all_hold
at_each [] e i = refl
at_each (t ∷ ts) e zero = and_left t (all_hold ts) e
at_each (t ∷ ts) e (suc i) = at_each ts (and_right t (all_hold ts) e) i

-- ---- a test at all numbers below a bound

pub all_below_lem : (f : ℕ → Bool) (n : ℕ) → ((i : ℕ) → i < n → f i ≡ true) → all_below n f ≡ true
unfolding all_below
all_below_lem f zero h = refl
all_below_lem f (suc n) h = and_both (all_below n f) (f n) (all_below_lem f n (λ i k. h i (omega arith))) (h n (omega arith))

pub below_ext : (n : ℕ) (f g : ℕ → Bool) → ((i : ℕ) → i < n → f i ≡ g i) → all_below n f ≡ all_below n g
unfolding all_below
below_ext zero f g h = refl
below_ext (suc n) f g h = ap₂ ◌&&◌ (below_ext n f g (λ i l. h i (omega arith))) (h n (omega arith))

-- ---- 1 where a test holds, else 0

pub tally_le : (t : Bool) → tally t ≤ 1
tally_le true = omega arith
tally_le false = omega arith

pub tally_none : (t : Bool) → tally t ≡ 0 → t ≡ false
tally_none true e = absurd (omega arith)
tally_none false e = refl

-- ---- the lowest number at which a test holds

pub lowest_skip : (f : ℕ → Bool) (n j : ℕ) → f j ≡ false → lowest f (suc n) j ≡ lowest f n (suc j)
unfolding lowest
lowest_skip f n j e = rw e refl

pub lowest_found : (f : ℕ → Bool) (n j : ℕ) → f j ≡ true → lowest f (suc n) j ≡ j
unfolding lowest
lowest_found f n j e = rw e refl

pub lowest_from : (f : ℕ → Bool) (n j : ℕ) → j ≤ lowest f n j
unfolding lowest
lowest_from f zero j = omega arith
lowest_from f (suc n) j =
    by (f j) (λ e. omega (arith, lowest_found f n j e)) (λ e. omega (arith, lowest_skip f n j e, lowest_from f n (suc j)))

pub lowest_to : (f : ℕ → Bool) (n j : ℕ) → lowest f n j ≤ j + n
unfolding lowest
lowest_to f zero j = omega arith
lowest_to f (suc n) j =
    by (f j) (λ e. omega (arith, lowest_found f n j e)) (λ e. omega (arith, lowest_skip f n j e, lowest_to f n (suc j)))

pub lowest_holds : (f : ℕ → Bool) (n j : ℕ) → lowest f n j < j + n → f (lowest f n j) ≡ true
lowest_holds f zero j h = absurd (omega (arith, lowest_from f zero j))
lowest_holds f (suc n) j h =
    by (f j) (λ e. rw (lowest_found f n j e) e)
    (λ e. rw (lowest_skip f n j e) (lowest_holds f n (suc j) (omega (arith, lowest_skip f n j e))))

pub lowest_before : (f : ℕ → Bool) (n j i : ℕ) → j ≤ i → i < lowest f n j → f i ≡ false
unfolding lowest
lowest_before f zero j i a b = absurd (omega arith)
lowest_before f (suc n) j i a b =
    by (f j) (λ e. absurd (omega (arith, lowest_found f n j e)))
    (λ e. elim (ℕ_discrete i j) [
      | yes s ↦ subst⁻¹ (λ (k : ℕ). f k ≡ false) s e
      | no s ↦ lowest_before f n (suc j) i (omega arith) (omega (arith, lowest_skip f n j e))
    ])

pub lowest_none : (f : ℕ → Bool) (n j : ℕ) → ((i : ℕ) → j ≤ i → i < j + n → f i ≡ false) → lowest f n j ≡ j + n
lowest_none f n j h =
    elim (dec_lt (lowest f n j) (j + n)) [
      | yes l ↦ clash (lowest_holds f n j l) (h (lowest f n j) (lowest_from f n j) l)
      | no l ↦ omega (arith, lowest_to f n j)
    ]

-- the number at which it holds, or the end, where it holds at none before
pub lowest_is : (f : ℕ → Bool) (n j k : ℕ) → j ≤ k → k ≤ j + n → ((i : ℕ) → j ≤ i → i < k → f i ≡ false) → (k < j + n → f k ≡ true)
    → lowest f n j ≡ k
lowest_is f n j k h g none here =
    elim (dec_lt (lowest f n j) k) [
      | yes l ↦ clash (lowest_holds f n j (omega arith)) (none (lowest f n j) (lowest_from f n j) l)
      | no l ↦
          elim (dec_lt k (lowest f n j)) [
            | yes m ↦ clash (here (omega (arith, lowest_to f n j))) (lowest_before f n j k h m)
            | no m ↦ omega arith
          ]
    ]

pub lowest_ext : (f g : ℕ → Bool) (n j : ℕ) → ((i : ℕ) → j ≤ i → i < j + n → f i ≡ g i) → lowest f n j ≡ lowest g n j
unfolding lowest
lowest_ext f g zero j h = refl
lowest_ext f g (suc n) j h =
    rw (h j (omega arith) (omega arith), lowest_ext f g n (suc j) (λ i a b. h i (omega arith) (omega arith)))

-- a search finds a number below its end where the test holds at one of them
pub lowest_some : (f : ℕ → Bool) (n i : ℕ) → i < n → f i ≡ true → lowest f n 0 < n
lowest_some f n i h e =
    elim (dec_lt (lowest f n 0) n) [
      | yes less ↦ less
      | no more ↦ clash e (lowest_before f n 0 i (omega arith) (omega arith))
    ]

-- one of n + 1 numbers: one of the first n, or the last
pub lowest_more : (f : ℕ → Bool) (n : ℕ) → ltb (lowest f (suc n) 0) (suc n) ≡ (ltb (lowest f n 0) n || f n)
lowest_more f n =
    elim (dec_lt (lowest f n 0) n) [
      | yes less ↦
          let holds : f (lowest f n 0) ≡ true = lowest_holds f n 0 (omega arith) in
          lt-ltb (lowest f (suc n) 0) (suc n) (lowest_some f (suc n) (lowest f n 0) (omega arith) holds)
          ∙ rw (lt-ltb (lowest f n 0) n less)
      | no more ↦
          rw (le-ltb (lowest f n 0) n (omega arith))
          (by (f n) (λ e. lt-ltb (lowest f (suc n) 0) (suc n) (lowest_some f (suc n) n (omega arith) e) ∙ sym e)
          (λ e. le-ltb (lowest f (suc n) 0) (suc n) (omega (arith, lowest_none f (suc n) 0 (λ i p q. earlier more i e q))) ∙ sym e))
    ]
  where
    earlier : (lowest f n 0 < n → ⊥) → (i : ℕ) → f n ≡ false → i < 0 + suc n → f i ≡ false
    earlier more i e q =
        elim (ℕ_discrete i n) [
          | yes same ↦ rw same e
          | no other ↦ lowest_before f n 0 i (omega arith) (omega arith)
        ]

-- ---- tables

module _ {A : Type 0} where
  pub length_tabulate : (n : ℕ) (f : ℕ → A) → length (tabulate n f) ≡ n
  unfolding tabulate
  length_tabulate zero f = refl
  length_tabulate (suc n) f = omega (arith, length-append (tabulate n f) (f n ∷ []), length_tabulate n f)

  pub tabulate_ext : (n : ℕ) (f g : ℕ → A) → ((i : ℕ) → i < n → f i ≡ g i) → tabulate n f ≡ tabulate n g
  unfolding tabulate
  tabulate_ext zero f g h = refl
  tabulate_ext (suc n) f g h = rw (tabulate_ext n f g (λ i k. h i (omega arith)), h n (omega arith))

  pub get_d_tabulate : (n : ℕ) (f : ℕ → A) (z : A) (i : ℕ) → i < n → get_or (tabulate n f) i z ≡ f i
  unfolding tabulate
  get_d_tabulate zero f z i h = absurd (omega arith)
  get_d_tabulate (suc n) f z i h =
      elim (ℕ_discrete i n) [
        | yes e ↦ get_or_at (tabulate n f) (f n) [] z i (omega (arith, length_tabulate n f)) ∙ ap f (sym e)
        | no e ↦ get_or-append (tabulate n f) (f n ∷ []) z i (omega (arith, length_tabulate n f)) ∙ get_d_tabulate n f z i (omega arith)
      ]

pub tabulate_get_or : {A : Type 0} (z : A) (xs : List A) (n : ℕ) → length xs ≡ n → tabulate n (λ j. get_or xs j z) ≡ xs
tabulate_get_or z xs n e =
    ext_get_or z (tabulate n (λ j. get_or xs j z)) xs (length_tabulate n (λ j. get_or xs j z) ∙ sym e)
    (λ i h. get_d_tabulate n (λ j. get_or xs j z) z i (omega (arith, length_tabulate n (λ j. get_or xs j z))))

-- ---- membership

pub has_none : (c : ℕ) → has c [] ≡ false
unfolding has
has_none c = refl

pub has_first : (x : ℕ) (l : List ℕ) → has x (x ∷ l) ≡ true
unfolding has
has_first x l = ap (λ (b : Bool). b || has x l) (eq-eqb x x refl)

pub has_later : (c x : ℕ) (l : List ℕ) → (c ≡ x → ⊥) → has c (x ∷ l) ≡ has c l
unfolding has
has_later c x l h = ap (λ (b : Bool). b || has c l) (ne_eqb c x h)

pub has_wider : (c x : ℕ) (l : List ℕ) → has c l ≡ true → has c (x ∷ l) ≡ true
unfolding has
has_wider c x l o = ap (λ (b : Bool). eqb c x || b) o ∙ or-true (eqb c x)

pub has_append : (n : ℕ) (a b : List ℕ) → has n (a ++ b) ≡ (has n a || has n b)
unfolding has
has_append n [] b = refl
has_append n (x ∷ a) b = go (eqb n x) (has_append n a b)
  where
    go : (t : Bool) → has n (a ++ b) ≡ (has n a || has n b) → (t || has n (a ++ b)) ≡ ((t || has n a) || has n b)
    go true e = refl
    go false e = e

pub has_at : (c : List ℕ) (q : ℕ) → q < length c → has (get_or c q 0) c ≡ true
unfolding has
has_at [] q h = absurd (omega arith)
has_at (x ∷ c) zero h = rw (eq-eqb x x refl) refl
has_at (x ∷ c) (suc q) h = go (eqb (get_or c q 0) x) (has_at c q (omega arith))
  where
    go : (t : Bool) → has (get_or c q 0) c ≡ true → (t || has (get_or c q 0) c) ≡ true
    go true e = refl
    go false e = e

-- ---- the numbers at which a test holds

-- a number other than n stands among those below n + 1 as it does among those below n
has_skipped : (f : ℕ → Bool) (n j : ℕ) → (j ≡ n → ⊥) → has j (those (suc n) f) ≡ has j (those n f)
unfolding those has
has_skipped f n j h = has_append j (those n f) (cond (f n) (n ∷ []) []) ∙ go (f n) (has j (those n f)) (ne_eqb j n h)
  where
    go : (b a : Bool) → eqb j n ≡ false → (a || has j (cond b (n ∷ []) [])) ≡ a
    go true true e = refl
    go true false e = rw e refl
    go false true e = refl
    go false false e = refl

-- no number from n on is one of those below n
pub has_those_past : (f : ℕ → Bool) (n j : ℕ) → n ≤ j → has j (those n f) ≡ false
unfolding those has
has_those_past f zero j h = refl
has_those_past f (suc n) j h = has_skipped f n j (λ e. omega arith) ∙ has_those_past f n j (omega arith)

-- a number below n is one of those exactly when the test holds at it
pub has_those : (f : ℕ → Bool) (n j : ℕ) → j < n → has j (those n f) ≡ f j
unfolding those has
has_those f zero j h = absurd (omega arith)
has_those f (suc n) j h =
    elim (ℕ_discrete j n) [
      | yes e ↦
          rw e
          (has_append n (those n f) (cond (f n) (n ∷ []) [])
          ∙ go (f n) (has n (those n f)) (has_those_past f n n (omega arith)) (eq-eqb n n refl))
      | no e ↦ has_skipped f n j e ∙ has_those f n j (omega arith)
    ]
  where
    go : (b a : Bool) → a ≡ false → eqb n n ≡ true → (a || has n (cond b (n ∷ []) [])) ≡ b
    go true true e d = refl
    go true false e d = rw d refl
    go false true e d = e
    go false false e d = refl

pub those_in : (n : ℕ) (f : ℕ → Bool) → f n ≡ true → those (suc n) f ≡ those n f ++ (n ∷ [])
unfolding those
those_in n f e = rw e refl

pub those_out : (n : ℕ) (f : ℕ → Bool) → f n ≡ false → those (suc n) f ≡ those n f
unfolding those
those_out n f e = rw (e, append-nil (those n f)) refl

pub those_ext : (n : ℕ) (f g : ℕ → Bool) → ((i : ℕ) → i < n → f i ≡ g i) → those n f ≡ those n g
unfolding those
those_ext zero f g h = refl
those_ext (suc n) f g h =
    ap₂ (λ (l : List ℕ) (t : Bool). l ++ cond t (n ∷ []) []) (those_ext n f g (λ i l. h i (omega arith))) (h n (omega arith))

-- each number of the list is below n
abbrev pub AllUnder : ℕ → List ℕ → Type 0
AllUnder n c = (q : ℕ) → q < length c → get_or c q 0 < n

-- each number of the list is above those before it
abbrev pub Ascending : List ℕ → Type 0
Ascending c = (p q : ℕ) → p < q → q < length c → get_or c p 0 < get_or c q 0

under_snoc : (c : List ℕ) (n : ℕ) → AllUnder n c → AllUnder (suc n) (c ++ (n ∷ []))
under_snoc c n u q h =
    elim (dec_lt q (length c)) [
      | yes l ↦ omega (arith, get_or-append c (n ∷ []) 0 q l, u q l)
      | no l ↦ omega (arith, get_or_at c n [] 0 q (omega (arith, length-append c (n ∷ []))))
    ]

ascending_snoc : (c : List ℕ) (n : ℕ) → Ascending c → AllUnder n c → Ascending (c ++ (n ∷ []))
ascending_snoc c n a u p q l h =
    let len : length (c ++ (n ∷ [])) ≡ length c + 1 = length-append c (n ∷ []) in
    let first : get_or (c ++ (n ∷ [])) p 0 ≡ get_or c p 0 = get_or-append c (n ∷ []) 0 p (omega arith) in
    elim (dec_lt q (length c)) [
      | yes k ↦ omega (arith, get_or-append c (n ∷ []) 0 q k, a p q l k)
      | no k ↦ omega (arith, get_or_at c n [] 0 q (omega arith), u p (omega arith))
    ]

pub those_under : (n : ℕ) (f : ℕ → Bool) → AllUnder n (those n f)
unfolding those
those_under zero f = λ q h. absurd (omega arith)
those_under (suc n) f =
    by (f n) (λ e. subst⁻¹ (AllUnder (suc n)) (those_in n f e) (under_snoc (those n f) n (those_under n f)))
    (λ e. subst⁻¹ (AllUnder (suc n)) (those_out n f e) (λ q h. omega (arith, those_under n f q h)))

pub those_ascending : (n : ℕ) (f : ℕ → Bool) → Ascending (those n f)
unfolding those
those_ascending zero f = λ p q l h. absurd (omega arith)
those_ascending (suc n) f =
    by (f n) (λ e. subst⁻¹ Ascending (those_in n f e) (ascending_snoc (those n f) n (those_ascending n f) (those_under n f)))
    (λ e. subst⁻¹ Ascending (those_out n f e) (those_ascending n f))
