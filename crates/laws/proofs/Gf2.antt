-- Sums and dot products over the field of two elements: a bit is a Bool, addition is xor, a word is a function from places to bits.
-- A word of the kernel of a matrix meets each of its first k rows; and the two ways to say so of a list of bits are one.
-- Assumes nothing.
use Prim.Native.Nat.{ℕ, zero, suc, ◌+◌, ◌%◌, ◌≤◌, ◌<◌}
use mathlib.Core.Path.{◌≡◌, refl, sym, ap, ap₂, ◌∙◌, subst⁻¹}
use mathlib.Core.Bool.{Bool, true, false, cond, not, ◌&&◌, xor, and-true, and-false}
use mathlib.Core.List.{List, [], ◌∷◌, ◌++◌}
use native.Mathlib.Nat.{add-zero, add-suc}
use native.Mathlib.Omega.{arith}
use native.Mathlib.Decide.{ℕ_discrete}
use lib.Dec.{eqb}
use lib.ListN.{get_or}
use borrow.Author.Tests.{eq-eqb, ne_eqb, eqb-true, eqb-false}
use Rattle.symbology.specs.Ranges.{tally, those, tabulate}
use Rattle.symbology.specs.Matrix.{BitMatrix, check_of, checks_of}
use Rattle.symbology.specs.Rule.{bit_sum, unmet, unmet_count}
use Rattle.laws.specs.Gf2.{parity, dot, Meets}
use Rattle.laws.proofs.Ranges.{by, tally_none}

-- ---- one bit

pub xor_none : (b : Bool) → xor b false ≡ b
unfolding xor
xor_none true = refl
xor_none false = refl

pub none_xor : (b : Bool) → xor false b ≡ b
unfolding xor
none_xor true = refl
none_xor false = refl

pub xor_same : (b : Bool) → xor b b ≡ false
unfolding xor
xor_same true = refl
xor_same false = refl

pub xor_comm : (a b : Bool) → xor a b ≡ xor b a
unfolding xor
xor_comm true true = refl
xor_comm true false = refl
xor_comm false true = refl
xor_comm false false = refl

xor_assoc : (a b c : Bool) → xor (xor a b) c ≡ xor a (xor b c)
unfolding xor
xor_assoc true true true = refl
xor_assoc true true false = refl
xor_assoc true false true = refl
xor_assoc true false false = refl
xor_assoc false true true = refl
xor_assoc false true false = refl
xor_assoc false false true = refl
xor_assoc false false false = refl

-- adding a bit twice takes it away
pub xor_back : (a b : Bool) → xor a (xor b a) ≡ b
unfolding xor
xor_back true true = refl
xor_back true false = refl
xor_back false true = refl
xor_back false false = refl

pub xor_true : (b : Bool) → xor true b ≡ not b
unfolding xor
xor_true true = refl
xor_true false = refl

pub xor_equal : (a b : Bool) → xor a b ≡ false → a ≡ b
unfolding xor
xor_equal true true e = refl
xor_equal true false e = e
xor_equal false true e = sym e
xor_equal false false e = refl

xor_four : (a b c d : Bool) → xor (xor a b) (xor c d) ≡ xor (xor a c) (xor b d)
unfolding xor
xor_four true true true true = refl
xor_four true true true false = refl
xor_four true true false true = refl
xor_four true true false false = refl
xor_four true false true true = refl
xor_four true false true false = refl
xor_four true false false true = refl
xor_four true false false false = refl
xor_four false true true true = refl
xor_four false true true false = refl
xor_four false true false true = refl
xor_four false true false false = refl
xor_four false false true true = refl
xor_four false false true false = refl
xor_four false false false true = refl
xor_four false false false false = refl

pub and_xor : (a b c : Bool) → (a && xor b c) ≡ xor (a && b) (a && c)
and_xor true b c = refl
and_xor false b c = sym (xor_none false)

pub xor_and : (a b c : Bool) → (xor a b && c) ≡ xor (a && c) (b && c)
unfolding xor
xor_and true true true = refl
xor_and true true false = refl
xor_and true false true = refl
xor_and true false false = refl
xor_and false true true = refl
xor_and false true false = refl
xor_and false false true = refl
xor_and false false false = refl

-- a product is 0 where its first bit is 0 whenever the second is 1
pub and_no : (a b : Bool) → (b ≡ true → a ≡ false) → (a && b) ≡ false
and_no true true h = h refl
and_no true false h = refl
and_no false b h = refl

-- ---- sums

pub parity_ext : (n : ℕ) (f g : ℕ → Bool) → ((i : ℕ) → i < n → f i ≡ g i) → parity n f ≡ parity n g
unfolding parity
parity_ext zero f g h = refl
parity_ext (suc n) f g h = ap₂ xor (parity_ext n f g (λ i k. h i (omega arith))) (h n (omega arith))

pub parity_xor : (n : ℕ) (f g : ℕ → Bool) → parity n (λ i. xor (f i) (g i)) ≡ xor (parity n f) (parity n g)
unfolding parity
parity_xor zero f g = sym (xor_none false)
parity_xor (suc n) f g = ap (λ (b : Bool). xor b (xor (f n) (g n))) (parity_xor n f g) ∙ xor_four (parity n f) (parity n g) (f n) (g n)

-- the parity of two stretches
pub parity_add : (m n : ℕ) (f : ℕ → Bool) → parity (m + n) f ≡ xor (parity m f) (parity n (λ i. f (m + i)))
unfolding parity
parity_add m zero f = ap (λ (z : ℕ). parity z f) (add-zero m) ∙ sym (xor_none (parity m f))
parity_add m (suc n) f =
    ap (λ (z : ℕ). parity z f) (add-suc m n)
    ∙ ap (λ (b : Bool). xor b (f (m + n))) (parity_add m n f)
    ∙ xor_assoc (parity m f) (parity n (λ i. f (m + i))) (f (m + n))

-- the terms from n on are 0
pub parity_short : (n m : ℕ) (f : ℕ → Bool) → n ≤ m → ((i : ℕ) → n ≤ i → i < m → f i ≡ false) → parity m f ≡ parity n f
unfolding parity
parity_short n zero f h z = let e : n ≡ 0 = omega arith in ap (λ (k : ℕ). parity k f) (sym e)
parity_short n (suc m) f h z =
    elim (ℕ_discrete n (suc m)) [
      | yes e ↦ ap (λ (k : ℕ). parity k f) (sym e)
      | no e ↦
          ap₂ xor (parity_short n m f (omega arith) (λ i g l. z i g (omega arith))) (z m (omega arith) (omega arith))
          ∙ xor_none (parity n f)
    ]

pub parity_scale : (n : ℕ) (b : Bool) (f : ℕ → Bool) → parity n (λ i. b && f i) ≡ (b && parity n f)
unfolding parity
parity_scale zero b f = sym (and-false b)
parity_scale (suc n) b f = ap (λ (c : Bool). xor c (b && f n)) (parity_scale n b f) ∙ sym (and_xor b (parity n f) (f n))

pub parity_none : (n : ℕ) (f : ℕ → Bool) → ((i : ℕ) → i < n → f i ≡ false) → parity n f ≡ false
unfolding parity
parity_none zero f h = refl
parity_none (suc n) f h = ap₂ xor (parity_none n f (λ i k. h i (omega arith))) (h n (omega arith)) ∙ xor_none false

-- all terms but one are 0
pub parity_only : (n p : ℕ) (f : ℕ → Bool) → p < n → ((i : ℕ) → i < n → (i ≡ p → ⊥) → f i ≡ false) → parity n f ≡ f p
unfolding parity
parity_only zero p f l h = absurd (omega arith)
parity_only (suc n) p f l h =
    elim (ℕ_discrete n p) [
      | yes e ↦ ap₂ xor (parity_none n f (λ i k. h i (omega arith) (λ d. omega arith))) (ap f e) ∙ none_xor (f p)
      | no e ↦ ap₂ xor (parity_only n p f (omega arith) (λ i k. h i (omega arith))) (h n (omega arith) e) ∙ xor_none (f p)
    ]

-- ---- dot products

pub dot_ext : (n : ℕ) (a b v w : ℕ → Bool) → ((j : ℕ) → j < n → a j ≡ b j) → ((j : ℕ) → j < n → v j ≡ w j) → dot n a v ≡ dot n b w
dot_ext n a b v w p q = parity_ext n (λ j. a j && v j) (λ j. b j && w j) (λ j h. ap₂ ◌&&◌ (p j h) (q j h))

pub dot_xor : (n : ℕ) (a v w : ℕ → Bool) → dot n a (λ j. xor (v j) (w j)) ≡ xor (dot n a v) (dot n a w)
dot_xor n a v w =
    parity_ext n (λ j. a j && xor (v j) (w j)) (λ j. xor (a j && v j) (a j && w j)) (λ j h. and_xor (a j) (v j) (w j))
    ∙ parity_xor n (λ j. a j && v j) (λ j. a j && w j)

pub xor_dot : (n : ℕ) (a b w : ℕ → Bool) → dot n (λ j. xor (a j) (b j)) w ≡ xor (dot n a w) (dot n b w)
xor_dot n a b w =
    parity_ext n (λ j. xor (a j) (b j) && w j) (λ j. xor (a j && w j) (b j && w j)) (λ j h. xor_and (a j) (b j) (w j))
    ∙ parity_xor n (λ j. a j && w j) (λ j. b j && w j)

pub scale_dot : (n : ℕ) (b : Bool) (a w : ℕ → Bool) → dot n (λ j. b && a j) w ≡ (b && dot n a w)
scale_dot n b a w =
    parity_ext n (λ j. (b && a j) && w j) (λ j. b && (a j && w j)) (λ j h. go b (a j) (w j))
    ∙ parity_scale n b (λ j. a j && w j)
  where
    go : (b x y : Bool) → ((b && x) && y) ≡ (b && (x && y))
    go true x y = refl
    go false x y = refl

-- a word with bit p turned
unfoldable pub turn : ℕ → (ℕ → Bool) → ℕ → Bool
turn p w j = xor (eqb j p) (w j)

pub turn_at : (p : ℕ) (w : ℕ → Bool) → turn p w p ≡ not (w p)
unfolding turn
turn_at p w = ap (λ (b : Bool). xor b (w p)) (eq-eqb p p refl) ∙ xor_true (w p)

pub turn_past : (p : ℕ) (w : ℕ → Bool) (j : ℕ) → (j ≡ p → ⊥) → turn p w j ≡ w j
unfolding turn
turn_past p w j h = ap (λ (b : Bool). xor b (w j)) (ne_eqb j p h) ∙ none_xor (w j)

pub dot_unit : (n : ℕ) (a : ℕ → Bool) (p : ℕ) → p < n → dot n a (λ j. eqb j p) ≡ a p
dot_unit n a p h =
    parity_only n p (λ j. a j && eqb j p) h (λ i l e. ap (λ (b : Bool). a i && b) (ne_eqb i p e) ∙ and-false (a i))
    ∙ ap (λ (b : Bool). a p && b) (eq-eqb p p refl) ∙ and-true (a p)

pub dot_turn : (n : ℕ) (a w : ℕ → Bool) (p : ℕ) → p < n → dot n a (turn p w) ≡ xor (a p) (dot n a w)
unfolding turn
dot_turn n a w p h = dot_xor n a (λ j. eqb j p) w ∙ ap (λ (b : Bool). xor b (dot n a w)) (dot_unit n a p h)

-- ---- the kernel

pub meets_xor : (k n : ℕ) (a : BitMatrix) (v w : ℕ → Bool) → Meets k n a v → Meets k n a w → Meets k n a (λ j. xor (v j) (w j))
meets_xor k n a v w p q i h = dot_xor n (a i) v w ∙ ap₂ xor (p i h) (q i h) ∙ xor_none false

pub meets_ext : (k n : ℕ) (a b : BitMatrix) (v w : ℕ → Bool) → ((i : ℕ) → i < k → (j : ℕ) → j < n → a i j ≡ b i j)
    → ((j : ℕ) → j < n → v j ≡ w j) → Meets k n a v → Meets k n b w
meets_ext k n a b v w p q m i h = sym (dot_ext n (a i) (b i) v w (p i h) q) ∙ m i h

-- ---- words that are lists

-- bit j of a word that is a list
abbrev pub bit_at : List ℕ → ℕ → Bool
bit_at w j = eqb (get_or w j 0 % 2) 1

-- bits with the same test are the same
pub bit_same : (x y : ℕ) → x ≤ 1 → y ≤ 1 → eqb (x % 2) 1 ≡ eqb (y % 2) 1 → x ≡ y
bit_same x y p q e =
    by (eqb (x % 2) 1) (λ t. let s : x % 2 ≡ 1 = eqb-true (x % 2) 1 t in let u : y % 2 ≡ 1 = eqb-true (y % 2) 1 (sym e ∙ t) in omega arith)
    (λ t. let s : x % 2 ≡ 1 → ⊥ = eqb-false (x % 2) 1 t in let u : y % 2 ≡ 1 → ⊥ = eqb-false (y % 2) 1 (sym e ∙ t) in omega arith)

-- The bits of two checks joined add to the sum of their sums.
pub bit_sum_append : (a b : List ℕ) (w : List ℕ) → bit_sum (a ++ b) w ≡ bit_sum a w + bit_sum b w
unfolding bit_sum
bit_sum_append [] b w = omega arith
bit_sum_append (j ∷ a) b w = omega (arith, bit_sum_append a b w)

-- One more check adds 1 to the unmet count where it is unmet.
pub unmet_count_snoc : (cs : List (List ℕ)) (c : List ℕ) (w : List ℕ) → unmet_count (cs ++ (c ∷ [])) w ≡ unmet_count cs w + unmet c w
unfolding unmet_count
unmet_count_snoc [] c w = omega arith
unmet_count_snoc (x ∷ cs) c w = omega (arith, unmet_count_snoc cs c w)

-- one more number added
pub odd_step : (s y : ℕ) (p : Bool) → s % 2 ≡ tally p → (s + y) % 2 ≡ tally (xor p (eqb (y % 2) 1))
odd_step s y p e =
    by (eqb (y % 2) 1)
    (λ t. rw t (let o : y % 2 ≡ 1 = eqb-true (y % 2) 1 t in odd p e o))
    (λ t. rw (t, xor_none p) (even (eqb-false (y % 2) 1 t)))
  where
    odd : (p : Bool) → s % 2 ≡ tally p → y % 2 ≡ 1 → (s + y) % 2 ≡ tally (xor p true)
    odd true e o = rw (xor_same true) (omega arith)
    odd false e o = rw (none_xor true) (omega arith)

    even : (y % 2 ≡ 1 → ⊥) → (s + y) % 2 ≡ tally p
    even o = omega (arith, e)

-- the bits of a row's check add to an odd number exactly when the dot product is 1
pub unmet_dot : (n : ℕ) (f : ℕ → Bool) (w : List ℕ) → unmet (those n f) w ≡ tally (dot n f (bit_at w))
unfolding unmet those bit_sum parity
unmet_dot zero f w = refl
unmet_dot (suc n) f w = ap (λ (x : ℕ). x % 2) (bit_sum_append (those n f) (cond (f n) (n ∷ []) []) w) ∙ go (f n) (unmet_dot n f w)
  where
    go : (t : Bool) → bit_sum (those n f) w % 2 ≡ tally (dot n f (bit_at w))
        → (bit_sum (those n f) w + bit_sum (cond t (n ∷ []) []) w) % 2 ≡ tally (xor (dot n f (bit_at w)) (t && bit_at w n))
    go true e = rw (add-zero (get_or w n 0)) (odd_step (bit_sum (those n f) w) (get_or w n 0) (dot n f (bit_at w)) e)
    go false e = rw (add-zero (bit_sum (those n f) w), xor_none (dot n f (bit_at w))) e

unmet_more : (k n : ℕ) (a : BitMatrix) (w : List ℕ)
    → unmet_count (checks_of (suc k) n a) w ≡ unmet_count (checks_of k n a) w + tally (dot n (a k) (bit_at w))
unfolding checks_of check_of tabulate
unmet_more k n a w =
    unmet_count_snoc (tabulate k (check_of n a)) (those n (a k)) w
    ∙ ap (λ (x : ℕ). unmet_count (tabulate k (check_of n a)) w + x) (unmet_dot n (a k) w)

-- a word whose every check is met is in the kernel
pub unmet_meets : (k n : ℕ) (a : BitMatrix) (w : List ℕ) → unmet_count (checks_of k n a) w ≡ 0 → Meets k n a (bit_at w)
unmet_meets zero n a w e i h = absurd (omega arith)
unmet_meets (suc k) n a w e i h =
    let more = unmet_more k n a w in
    elim (ℕ_discrete i k) [
      | yes s ↦ subst⁻¹ (λ (x : ℕ). dot n (a x) (bit_at w) ≡ false) s (tally_none (dot n (a k) (bit_at w)) (omega arith))
      | no s ↦ unmet_meets k n a w (omega arith) i (omega arith)
    ]

-- every check of a word of the kernel is met
pub meets_none : (k n : ℕ) (a : BitMatrix) (w : List ℕ) → Meets k n a (bit_at w) → unmet_count (checks_of k n a) w ≡ 0
unfolding checks_of tabulate unmet_count
meets_none zero n a w m = refl
meets_none (suc k) n a w m =
    unmet_more k n a w ∙ ap₂ ◌+◌ (meets_none k n a w (λ i h. m i (omega arith))) (ap tally (m k (omega arith)))
