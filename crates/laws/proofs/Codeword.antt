-- The codeword of a message: of all words with the message's bits in the message columns exactly one meets every check, and the
-- definition's search finds it.
-- Assumes nothing.
use Prim.Native.Nat.{ℕ, zero, suc, ◌+◌, ◌-◌, ◌%◌, ◌≤◌, ◌<◌}
use mathlib.Core.Path.{◌≡◌, refl, sym, ap, ap₂, ◌∙◌, subst⁻¹}
use mathlib.Core.Bool.{Bool, true, false, cond, not, ◌&&◌}
use mathlib.Core.Logic.{◌⊎◌, inl, inr}
use mathlib.Core.List.Memᴰ
use mathlib.Core.List.{List, [], ◌∷◌, ◌++◌, map, Memᴰ}
use native.Mathlib.Nat.{add-zero, sub-zero, suc-sub-suc}
use native.Mathlib.Omega.{arith}
use native.Mathlib.Decide.{ℕ_discrete, dec_lt}
use lib.Dec.{eqb}
use lib.ListN.{length, get_or, drop, replicate, get_or-eq_default}
use lib.Seq.{get_or-drop, drop-drop, ext_get_or}
use borrow.Author.Tests.{eq-eqb, eqb-true, not-true}
use Rattle.symbology.specs.Ranges.{tally, those, tabulate}
use Rattle.symbology.specs.Bits.{AllBits}
use Rattle.symbology.specs.Matrix.{BitMatrix, checks_of}
use Rattle.symbology.specs.Rule.{unmet_count}
use Rattle.symbology.specs.Codeword.{is_check_column, message_columns, carries, words, first_word, codeword, message_bits}
use Rattle.symbology.proofs.Ranges.{clash, and_left, and_right}
use Rattle.laws.proofs.Ranges.{by, and_both, length_tabulate, get_d_tabulate, tally_le}
use Rattle.laws.proofs.Gf2.{meets_ext, bit_at, bit_same, unmet_meets, meets_none}
use Rattle.laws.specs.Gf2.{dot, Meets}
use Rattle.laws.proofs.Kernel.{unique, exists}
use Rattle.laws.proofs.Columns.{check_laws}
use Rattle.laws.proofs.Elimination.{solved}
use Rattle.laws.specs.Elimination.{Inv}
use Rattle.laws.proofs.Bits.{bit_tally, tally_bit}

-- ---- the message's bits in the message columns

carries_append : (a b : List ℕ) (m w : List ℕ) → carries (a ++ b) m w ≡ (carries a m w && carries b (drop (length a) m) w)
unfolding carries
carries_append [] b m w = refl
carries_append (c ∷ a) b m w =
    ap (λ (x : Bool). eqb (get_or w c 0) (get_or m 0 0) && x)
    (carries_append a b (drop 1 m) w ∙ ap (λ (l : List ℕ). carries a (drop 1 m) w && carries b l w) (drop-drop (length a) 1 m ∙ next))
    ∙ sym (go (eqb (get_or w c 0) (get_or m 0 0)) (carries a (drop 1 m) w) (carries b (drop (suc (length a)) m) w))
  where
    next : drop (1 + length a) m ≡ drop (suc (length a)) m
    next = let e : 1 + length a ≡ suc (length a) = omega arith in ap (λ (x : ℕ). drop x m) e

    go : (x y z : Bool) → (x && y && z) ≡ (x && (y && z))
    go true y z = refl
    go false y z = refl

-- in column c the word has the message's bit number so many as there are message columns before c
pub carries_at : (n : ℕ) (f : ℕ → Bool) (m w : List ℕ) → carries (those n f) m w ≡ true
    → (c : ℕ) → c < n → f c ≡ true → get_or w c 0 ≡ get_or m (length (those c f)) 0
unfolding those carries
carries_at zero f m w e c h t = absurd (omega arith)
carries_at (suc n) f m w e c h t =
    elim (ℕ_discrete c n) [
      | yes s ↦
          let at_last = last (f n) (sym (ap f s) ∙ t) (and_right earlier later both) in
          subst⁻¹ (λ (c : ℕ). get_or w c 0 ≡ get_or m (length (those c f)) 0) s at_last
      | no s ↦ carries_at n f m w (and_left earlier later both) c (omega arith) t
    ]
  where
    earlier : Bool
    earlier = carries (those n f) m w

    later : Bool
    later = carries (cond (f n) (n ∷ []) []) (drop (length (those n f)) m) w

    both : (earlier && later) ≡ true
    both = sym (carries_append (those n f) (cond (f n) (n ∷ []) []) m w) ∙ e

    last : (b : Bool) → b ≡ true → carries (cond b (n ∷ []) []) (drop (length (those n f)) m) w ≡ true
        → get_or w n 0 ≡ get_or m (length (those n f)) 0
    last true t o =
        let past : ℕ = length (those n f) in
        let next : ℕ = get_or (drop past m) 0 0 in
        eqb-true (get_or w n 0) next (and_left (eqb (get_or w n 0) next) true o)
        ∙ get_or-drop past m 0 0 ∙ ap (λ (x : ℕ). get_or m x 0) (add-zero past)
    last false t o = clash t refl

-- and such a word carries the message
pub carries_all : (n : ℕ) (f : ℕ → Bool) (m w : List ℕ)
    → ((c : ℕ) → c < n → f c ≡ true → get_or w c 0 ≡ get_or m (length (those c f)) 0) → carries (those n f) m w ≡ true
unfolding those carries
carries_all zero f m w h = refl
carries_all (suc n) f m w h =
    carries_append (those n f) (cond (f n) (n ∷ []) []) m w
    ∙ ap₂ ◌&&◌ (carries_all n f m w (λ c l. h c (omega arith))) (last (f n) refl)
  where
    last : (b : Bool) → f n ≡ b → carries (cond b (n ∷ []) []) (drop (length (those n f)) m) w ≡ true
    last true t =
        and_both (eqb (get_or w n 0) (get_or (drop (length (those n f)) m) 0 0)) true
        (eq-eqb (get_or w n 0) (get_or (drop (length (those n f)) m) 0 0)
        (h n (omega arith) t ∙ sym (get_or-drop (length (those n f)) m 0 0 ∙ ap (λ (x : ℕ). get_or m x 0) (add-zero (length (those n f))))))
        refl
    last false t = refl

-- the bits in the columns are the message and zeros
carries_back : (cs m w : List ℕ) → length m ≤ length cs → carries cs m w ≡ true
    → map (λ j. get_or w j 0) cs ≡ m ++ replicate {A = ℕ} (length cs - length m) 0
unfolding carries
carries_back [] [] w l e = refl
carries_back [] (x ∷ m) w l e = absurd (omega arith)
carries_back (c ∷ cs) [] w l e =
    let first = eqb-true (get_or w c 0) 0 (and_left (eqb (get_or w c 0) 0) (carries cs [] w) e) in
    let rest = carries_back cs [] w (omega arith) (and_right (eqb (get_or w c 0) 0) (carries cs [] w) e) in
    rw (sub-zero (suc (length cs))) (ap₂ ◌∷◌ first (rest ∙ ap (λ (x : ℕ). replicate {A = ℕ} x 0) (sub-zero (length cs))))
carries_back (c ∷ cs) (x ∷ m) w l e =
    let first = eqb-true (get_or w c 0) x (and_left (eqb (get_or w c 0) x) (carries cs m w) e) in
    let rest = carries_back cs m w (omega arith) (and_right (eqb (get_or w c 0) x) (carries cs m w) e) in
    rw (suc-sub-suc (length cs) (length m)) (ap₂ ◌∷◌ first rest)

-- ---- the search

-- every word of n bits is among the words
words_have : (n : ℕ) (w : List ℕ) → length w ≡ n → AllBits w → Memᴰ w (words n)
unfolding words
words_have zero [] e b = Memᴰ.head refl
words_have zero (x ∷ w) e b = absurd (omega arith)
words_have (suc n) [] e b = absurd (omega arith)
words_have (suc n) (x ∷ w) e b = go (words_have n w (omega arith) (λ i. b (suc i))) (b 0)
  where
    go : Memᴰ w (words n) → x ≤ 1 → Memᴰ (x ∷ w) (map (λ w. 0 ∷ w) (words n) ++ map (λ w. 1 ∷ w) (words n))
    go m l =
        elim (ℕ_discrete x 0) [
          | yes z ↦ Memᴰ.cast (ap (λ (y : ℕ). y ∷ w) z) (Memᴰ.append_left (map (λ w. 1 ∷ w) (words n)) (Memᴰ.map (λ w. 0 ∷ w) m))
          | no z ↦
              let o : x ≡ 1 = omega arith in
              Memᴰ.cast (ap (λ (y : ℕ). y ∷ w) o) (Memᴰ.append_right (map (λ w. 0 ∷ w) (words n)) (Memᴰ.map (λ w. 1 ∷ w) m))
        ]

-- and only those are
words_are : (n : ℕ) (w : List ℕ) → Memᴰ w (words n) → (length w ≡ n) × AllBits w
unfolding words
words_are zero w m = let e = Memᴰ.eq_of_singleton m in (ap length e, λ i. rw e (omega arith))
words_are (suc n) w m = go (words_are n) (Memᴰ.append_cases (map (λ w. 0 ∷ w) (words n)) m)
  where
    longer : (x : ℕ) (v : List ℕ) → x ≤ 1 → AllBits v → AllBits (x ∷ v)
    longer x v l b zero = l
    longer x v l b (suc i) = b i

    one : (x : ℕ) → x ≤ 1 → ((v : List ℕ) → Memᴰ v (words n) → (length v ≡ n) × AllBits v) → Memᴰ w (map (λ w. x ∷ w) (words n))
        → (length w ≡ suc n) × AllBits w
    one x l below m =
        let p = Memᴰ.of_map (λ w. x ∷ w) (words n) m in
        let q = below p.0 p.1 in
        (sym (ap length p.2) ∙ ap suc q.0, λ i. rw (sym p.2) (longer x p.0 l q.1 i))

    go : ((v : List ℕ) → Memᴰ v (words n) → (length v ≡ n) × AllBits v)
        → Memᴰ w (map (λ w. 0 ∷ w) (words n)) ⊎ Memᴰ w (map (λ w. 1 ∷ w) (words n)) → (length w ≡ suc n) × AllBits w
    go below (inl m) = one 0 (omega arith) below m
    go below (inr m) = one 1 (omega arith) below m

-- the first word that passes is one of the words and passes
first_found : (f : List ℕ → Bool) (ws : List (List ℕ)) (w : List ℕ) → Memᴰ w ws → f w ≡ true
    → Memᴰ (first_word f ws) ws × (f (first_word f ws) ≡ true)
unfolding first_word
first_found f [] w m o = absurd (Memᴰ.not-nil m)
first_found f (x ∷ ws) w m o =
    by (f x) (λ p. rw p (Memᴰ.head refl, p)) (λ z. rw z (go z (λ m. first_found f ws w m o) (Memᴰ.cases_cons m)))
  where
    go : f x ≡ false → (Memᴰ w ws → Memᴰ (first_word f ws) ws × (f (first_word f ws) ≡ true)) → (w ≡ x) ⊎ Memᴰ w ws
        → Memᴰ (first_word f ws) (x ∷ ws) × (f (first_word f ws) ≡ true)
    go z below (inl e) = clash (sym (ap f e) ∙ o) z
    go z below (inr m) = let p = below m in (Memᴰ.tail p.0, p.1)

-- ---- the codeword

-- the word is a codeword of the message
pub record IsCodeword (k n : ℕ) (a : BitMatrix) (m w : List ℕ) : Type 0 where
  pub wide : length w ≡ n
  pub are_bits : AllBits w
  pub carried : carries (message_columns k n a) m w ≡ true
  pub met : unmet_count (checks_of k n a) w ≡ 0

module _ {k n : ℕ} {a : BitMatrix} {m : List ℕ} where
  -- the bit of a codeword in a message column
  pub carried_at : {w : List ℕ} → IsCodeword k n a m w → (c : ℕ) → c < n → is_check_column k n a c ≡ false
      → get_or w c 0 ≡ get_or m (length (those c (λ j. not (is_check_column k n a j)))) 0
  unfolding message_columns
  carried_at {w} p c h z = carries_at n (λ j. not (is_check_column k n a j)) m w p.carried c h (ap not z)

  -- A message has only one codeword.
  pub codeword_only : {v w : List ℕ} → IsCodeword k n a m v → IsCodeword k n a m w → v ≡ w
  codeword_only {v} {w} p q =
      ext_get_or 0 v w (p.wide ∙ sym q.wide) (λ i h. bit_same (get_or v i 0) (get_or w i 0) (p.are_bits i) (q.are_bits i)
      (unique k n a (is_check_column k n a) (check_laws k n a) (bit_at v) (bit_at w)
      (unmet_meets k n a v p.met) (unmet_meets k n a w q.met) same i (omega (arith, p.wide))))
    where
      same : (c : ℕ) → c < n → is_check_column k n a c ≡ false → bit_at v c ≡ bit_at w c
      same c h z = ap (λ (x : ℕ). eqb (x % 2) 1) (carried_at p c h z ∙ sym (carried_at q c h z))

  -- the search finds a codeword where there is one
  codeword_first : {w : List ℕ} → IsCodeword k n a m w → IsCodeword k n a m (codeword k n a m)
  unfolding codeword
  codeword_first {w} p =
      let found = first_found test (words n) w (words_have n w p.wide p.are_bits)
      (and_both (holds w) (none w) p.carried (eq-eqb (unmet_count checks w) 0 p.met)) in
      let c : List ℕ = first_word test (words n) in
      let word = words_are n c found.0 in
      record {
        wide = word.0;
        are_bits = word.1;
        carried = and_left (holds c) (none c) found.1;
        met = eqb-true (unmet_count checks c) 0 (and_right (holds c) (none c) found.1);
      }
    where
      checks : List (List ℕ)
      checks = checks_of k n a

      holds : List ℕ → Bool
      holds w = carries (message_columns k n a) m w

      none : List ℕ → Bool
      none w = eqb (unmet_count checks w) 0

      test : List ℕ → Bool
      test w = holds w && none w

  -- The definition's search finds the codeword.
  pub codeword_found : {w : List ℕ} → IsCodeword k n a m w → codeword k n a m ≡ w
  codeword_found p = codeword_only (codeword_first p) p

  -- The message columns of a codeword hold the message, and 0 in the spare ones.
  pub message_in_lem : {w : List ℕ} → IsCodeword k n a m w → length m ≤ length (message_columns k n a)
      → message_bits k n a w ≡ m ++ replicate (length (message_columns k n a) - length m) 0
  unfolding message_bits
  message_in_lem {w} p l = carries_back (message_columns k n a) m w l p.carried

-- ---- it exists

module _ (k n : ℕ) (a : BitMatrix) (m : List ℕ) (bits : AllBits m) where
  -- the bit of the message that column c takes if it is a message column
  taken : ℕ → Bool
  taken c = bit_at m (length (those c (λ j. not (is_check_column k n a j))))

  -- the word of the kernel with those bits, as a list
  some_word : List ℕ
  some_word = tabulate n (λ c. tally ((exists k n a (is_check_column k n a) (check_laws k n a) taken).0 c))

  some_codeword : IsCodeword k n a m some_word
  unfolding some_word taken message_columns
  some_codeword = record {
    wide = length_tabulate n (λ c. tally (v c));
    are_bits = λ i. elim (dec_lt i n) [
      | yes h ↦ rw (at i h) (tally_le (v i))
      | no h ↦ rw (get_or-eq_default some_word 0 {n = i} (omega (arith, length_tabulate n (λ c. tally (v c))))) (omega arith)
    ];
    carried = carries_all n (λ j. not (is_check_column k n a j)) m some_word (λ c h t.
        at c h ∙ ap tally (solution.2 c h (not-true (is_check_column k n a c) t))
        ∙ tally_bit (get_or m (place c) 0) (bits (place c)));
    met = meets_none k n a some_word (meets_ext k n a a v (bit_at some_word) (λ i h j g. refl)
        (λ c h. sym (ap (λ (x : ℕ). eqb (x % 2) 1) (at c h) ∙ bit_tally (v c))) solution.1);
  }
    where
      solution : (w : ℕ → Bool) × Meets k n a w × ((c : ℕ) → c < n → is_check_column k n a c ≡ false → w c ≡ taken c)
      solution = exists k n a (is_check_column k n a) (check_laws k n a) taken

      v : ℕ → Bool
      v = solution.0

      place : ℕ → ℕ
      place c = length (those c (λ j. not (is_check_column k n a j)))

      at : (c : ℕ) → c < n → get_or some_word c 0 ≡ tally (v c)
      at c h = get_d_tabulate n (λ c. tally (v c)) 0 c h

  -- Every message has a codeword, and it is the one that the definition's search finds.
  pub codeword_is : IsCodeword k n a m (codeword k n a m)
  codeword_is = codeword_first some_codeword

  -- The message columns of the codeword give the message back, and 0 in the spare ones.
  pub message_back : length m ≤ length (message_columns k n a)
      → message_bits k n a (codeword k n a m) ≡ m ++ replicate (length (message_columns k n a) - length m) 0
  message_back = message_in_lem codeword_is

-- ---- from elimination

-- Elimination to the end gives the codeword: the message's bits in the message columns, and in each check column the sum of the earlier
-- bits in the ones of its row.
pub codeword_filled : (k n : ℕ) (a : BitMatrix) (m : List ℕ) (r : BitMatrix) (used : ℕ → Bool) (row : ℕ → ℕ)
    → Inv k n a (is_check_column k n a) r used row 0 → (w : List ℕ) → length w ≡ n → AllBits w
    → ((c : ℕ) → c < n → is_check_column k n a c ≡ false
    → get_or w c 0 ≡ get_or m (length (those c (λ j. not (is_check_column k n a j)))) 0)
    → ((c : ℕ) → c < n → is_check_column k n a c ≡ true → bit_at w c ≡ dot c (r (row c)) (bit_at w))
    → codeword k n a m ≡ w
unfolding message_columns
codeword_filled k n a m r used row inv w wide are_bits message check = codeword_found (record {
  wide = wide;
  are_bits = are_bits;
  carried = carries_all n (λ j. not (is_check_column k n a j)) m w (λ c h t. message c h (not-true (is_check_column k n a c) t));
  met = meets_none k n a w (solved k n a (is_check_column k n a) r used row inv (bit_at w) check);
})
