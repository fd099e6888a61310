-- Check columns by what they are to the kernel of a matrix: the kernel has exactly one word with given bits in the message columns.
-- Everything that follows from the definition of check columns follows from these two laws of them.
-- Assumes nothing.
use Prim.Native.Nat.{ℕ, zero, suc, ◌≤◌, ◌<◌}
use mathlib.Core.Path.{◌≡◌, sym, ap, ap₂, ◌∙◌, subst⁻¹}
use mathlib.Core.Bool.{Bool, true, false, ◌&&◌, xor, and-true, and-false}
use native.Mathlib.Omega.{arith}
use native.Mathlib.Decide.{ℕ_discrete, dec_lt}
use lib.Dec.{ltb}
use borrow.Author.Tests.{lt-ltb, le-ltb}
use Rattle.symbology.specs.Matrix.{BitMatrix}
use Rattle.symbology.proofs.Ranges.{clash}
use Rattle.laws.proofs.Ranges.{by}
use Rattle.laws.proofs.Gf2.{parity_none, meets_xor, xor_none, none_xor, xor_same, xor_equal}
use Rattle.laws.specs.Gf2.{Meets}

-- column j is the sum of later check columns: a word of the kernel whose first 1 is at j and whose other ones are in check columns
pub record Dependency (k n : ℕ) (a : BitMatrix) (chk : ℕ → Bool) (j : ℕ) (d : ℕ → Bool) : Type 0 where
  pub one : d j ≡ true
  pub before : (i : ℕ) → i < j → d i ≡ false
  pub after : (i : ℕ) → j < i → i < n → d i ≡ true → chk i ≡ true
  pub met : Meets k n a d

-- a check column is no sum of later check columns, a message column is one
pub record CheckColumnLaws (k n : ℕ) (a : BitMatrix) (chk : ℕ → Bool) : Type 0 where
  pub free : (j : ℕ) → j < n → chk j ≡ true → (d : ℕ → Bool) → Dependency k n a chk j d → ⊥
  pub bound : (j : ℕ) → j < n → chk j ≡ false → (d : ℕ → Bool) × Dependency k n a chk j d

-- the kernel's word with the bits b in the message columns below m, and 0 in the message columns from m on
pub record Solution (k n : ℕ) (a : BitMatrix) (chk b : ℕ → Bool) (m : ℕ) : Type 0 where
  pub word : ℕ → Bool
  pub met : Meets k n a word
  pub given : (c : ℕ) → c < n → chk c ≡ false → word c ≡ (b c && ltb c m)

ltb_step : (c m : ℕ) → (c ≡ m → ⊥) → ltb c m ≡ ltb c (suc m)
ltb_step c m h =
    elim (dec_lt c m) [
      | yes l ↦ lt-ltb c m l ∙ sym (lt-ltb c (suc m) (omega arith))
      | no l ↦ le-ltb c m (omega arith) ∙ sym (le-ltb c (suc m) (omega arith))
    ]

module _ (k n : ℕ) (a : BitMatrix) (chk : ℕ → Bool) (law : CheckColumnLaws k n a chk) where
  -- ---- at most one word

  unique_below : (v w : ℕ → Bool) → Meets k n a v → Meets k n a w → ((c : ℕ) → c < n → chk c ≡ false → v c ≡ w c)
      → (m : ℕ) → m ≤ n → (c : ℕ) → c < m → v c ≡ w c
  unique_below v w p q same zero l c h = absurd (omega arith)
  unique_below v w p q same (suc m) l c h =
      elim (ℕ_discrete c m) [
        | yes e ↦ subst⁻¹ (λ (x : ℕ). v x ≡ w x) e (by (chk m) (at (unique_below v w p q same m (omega arith))) (same m l))
        | no e ↦ unique_below v w p q same m (omega arith) c (omega arith)
      ]
    where
      zero_where : (i : ℕ) → v i ≡ w i → xor (v i) (w i) ≡ false
      zero_where i e = ap (λ (b : Bool). xor b (w i)) e ∙ xor_same (w i)

      at : ((c : ℕ) → c < m → v c ≡ w c) → chk m ≡ true → v m ≡ w m
      at earlier t =
          by (xor (v m) (w m))
          (λ o. absurd (law.free m l t (λ i. xor (v i) (w i)) (record {
            one = o;
            before = λ i g. zero_where i (earlier i g);
            after = λ i g g' o'. by (chk i) (λ y. y) (λ y. clash o' (zero_where i (same i g' y)));
            met = meets_xor k n a v w p q;
          })))
          (xor_equal (v m) (w m))

  -- Two words of the kernel with the same bits in the message columns are the same.
  pub unique : (v w : ℕ → Bool) → Meets k n a v → Meets k n a w → ((c : ℕ) → c < n → chk c ≡ false → v c ≡ w c)
      → (c : ℕ) → c < n → v c ≡ w c
  unique v w p q same = unique_below v w p q same n (omega arith)

  -- ---- at least one word

  -- the message column m brings nothing: it is a check column, or its bit is 0
  solution_keep : (b : ℕ → Bool) (m : ℕ) → (chk m ≡ false → b m ≡ false) → Solution k n a chk b m → Solution k n a chk b (suc m)
  solution_keep b m z s = record { word = s.word; met = s.met; given = λ c h t. s.given c h t ∙ more c t }
    where
      more : (c : ℕ) → chk c ≡ false → (b c && ltb c m) ≡ (b c && ltb c (suc m))
      more c t =
          elim (ℕ_discrete c m) [
            | yes e ↦
                let none : b c ≡ false = subst⁻¹ (λ (x : ℕ). chk x ≡ false → b x ≡ false) e z t in
                ap (λ (x : Bool). x && ltb c m) none ∙ sym (ap (λ (x : Bool). x && ltb c (suc m)) none)
            | no e ↦ ap (λ (x : Bool). b c && x) (ltb_step c m e)
          ]

  -- it brings the word of the kernel that makes it a sum of check columns
  solution_add : (b : ℕ → Bool) (m : ℕ) → m < n → chk m ≡ false → b m ≡ true → Solution k n a chk b m → Solution k n a chk b (suc m)
  solution_add b m l t o s = record {
    word = λ c. xor (s.word c) (d c);
    met = meets_xor k n a s.word d s.met dep.met;
    given = given;
  }
    where
      d : ℕ → Bool
      d = (law.bound m l t).0

      dep : Dependency k n a chk m d
      dep = (law.bound m l t).1

      elsewhere : (c : ℕ) → c < n → chk c ≡ false → (c ≡ m → ⊥) → d c ≡ false
      elsewhere c h y e =
          elim (dec_lt c m) [
            | yes g ↦ dep.before c g
            | no g ↦ by (d c) (λ u. clash (dep.after c (omega arith) h u) y) (λ u. u)
          ]

      given : (c : ℕ) → c < n → chk c ≡ false → xor (s.word c) (d c) ≡ (b c && ltb c (suc m))
      given c h y =
          elim (ℕ_discrete c m) [
            | yes e ↦
                ap₂ xor (s.given c h y ∙ ap (λ (x : Bool). b c && x) (le-ltb c m (omega arith)) ∙ and-false (b c)) (ap d e ∙ dep.one)
                ∙ none_xor true ∙ sym (ap₂ ◌&&◌ (ap b e ∙ o) (lt-ltb c (suc m) (omega arith)))
            | no e ↦ ap₂ xor (s.given c h y) (elsewhere c h y e) ∙ xor_none (b c && ltb c m) ∙ ap (λ (x : Bool). b c && x) (ltb_step c m e)
          ]

  solution_below : (b : ℕ → Bool) (m : ℕ) → m ≤ n → Solution k n a chk b m
  solution_below b zero l = record {
    word = λ c. false;
    met = λ i h. parity_none n (λ j. a i j && false) (λ j g. and-false (a i j));
    given = λ c h t. sym (ap (λ (x : Bool). b c && x) (le-ltb c 0 (omega arith)) ∙ and-false (b c));
  }
  solution_below b (suc m) l =
      let s = solution_below b m (omega arith) in
      by (chk m) (λ t. solution_keep b m (λ f. clash t f) s)
      (λ t. by (b m) (λ o. solution_add b m l t o s) (λ z. solution_keep b m (λ f. z) s))

  -- The kernel has a word with any given bits in the message columns.
  pub exists : (b : ℕ → Bool) → (w : ℕ → Bool) × Meets k n a w × ((c : ℕ) → c < n → chk c ≡ false → w c ≡ b c)
  exists b =
      let s = solution_below b n (omega arith) in
      (s.word, s.met, λ c h t. s.given c h t ∙ ap (λ (x : Bool). b c && x) (lt-ltb c n h) ∙ and-true (b c))
