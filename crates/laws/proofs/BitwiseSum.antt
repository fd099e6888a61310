-- The bitwise sum of two words, and what keeps it: the exchanges of a permutation, and the code of any matrix.
-- Assumes nothing.
use Prim.Native.Nat.{ℕ, zero, suc, ◌+◌, ◌%◌, ◌<◌}
use mathlib.Core.Path.{◌≡◌, refl, sym, ap, ap₂, ◌∙◌}
use mathlib.Core.Bool.{not, xor}
use mathlib.Core.List.{List}
use native.Mathlib.Omega.{arith}
use native.Mathlib.Decide.{ℕ_discrete, dec_lt}
use lib.Dec.{eqb}
use lib.ListN.{length, get_or, set, length-set, get_or-eq_default}
use lib.Seq.{ext_get_or, get_or-set_same, get_or-set_other}
use borrow.Author.Tests.{not-true}
use Rattle.symbology.specs.Ranges.{tally}
use Rattle.symbology.specs.Bits.{AllBits, bitwise_sum}
use Rattle.symbology.specs.Generator.{next_state}
use Rattle.symbology.specs.Shuffle.{drawn_place, exchanged, shuffled_first}
use Rattle.symbology.specs.Matrix.{BitMatrix}
use Rattle.symbology.specs.Codeword.{is_check_column, message_columns, codeword}
use Rattle.laws.proofs.Ranges.{length_tabulate, get_d_tabulate}
use Rattle.laws.proofs.Bits.{tally_bit, bit_tally}
use Rattle.laws.proofs.Gf2.{bit_at, odd_step, meets_xor, meets_ext, unmet_meets, meets_none}
use Rattle.laws.specs.Gf2.{Meets}
use Rattle.laws.proofs.Shuffle.{length_exchanged}
use Rattle.laws.proofs.Codeword.{IsCodeword, carries_all, carried_at, codeword_is, codeword_found}

-- ---- bit by bit

-- The sum of two words is as long as they are.
pub length_sum : (x y : List ℕ) → length (bitwise_sum x y) ≡ length x
unfolding bitwise_sum
length_sum x y = length_tabulate (length x) (λ i. (get_or x i 0 + get_or y i 0) % 2)

-- Each bit of the sum, and past its end, where 0 stands in all three.
pub get_or_sum : (x y : List ℕ) → length x ≡ length y → (i : ℕ) → get_or (bitwise_sum x y) i 0 ≡ (get_or x i 0 + get_or y i 0) % 2
unfolding bitwise_sum
get_or_sum x y e i =
    elim (dec_lt i (length x)) [
      | yes h ↦ get_d_tabulate (length x) (λ i. (get_or x i 0 + get_or y i 0) % 2) 0 i h
      | no h ↦
          let past : (w : List ℕ) → length w ≡ length x → get_or w i 0 ≡ 0 = λ w l. get_or-eq_default w 0 {n = i} (omega arith) in
          rw (past (bitwise_sum x y) (length_sum x y), past x refl, past y (sym e)) refl
    ]

-- The sum of two words consists of bits, whatever they consist of.
pub sum_bits : (x y : List ℕ) → length x ≡ length y → AllBits (bitwise_sum x y)
sum_bits x y e i = omega (arith, get_or_sum x y e i)

-- a bit of the sum as a test
sum_odd : (a b : ℕ) → eqb ((a + b) % 2 % 2) 1 ≡ xor (eqb (a % 2) 1) (eqb (b % 2) 1)
sum_odd a b =
    ap (λ (x : ℕ). eqb (x % 2) 1) (odd_step a b (eqb (a % 2) 1) first) ∙ bit_tally (xor (eqb (a % 2) 1) (eqb (b % 2) 1))
  where
    first : a % 2 ≡ tally (eqb (a % 2) 1)
    first =
        let twice : a % 2 % 2 ≡ a % 2 = omega arith in
        sym (tally_bit (a % 2) (omega arith)) ∙ ap (λ (x : ℕ). tally (eqb x 1)) twice

-- ---- exchanges

-- a place set in both words is set in their sum
set_sum : (x y : List ℕ) (i a b : ℕ)
    → length x ≡ length y
    → set (bitwise_sum x y) i ((a + b) % 2) ≡ bitwise_sum (set x i a) (set y i b)
set_sum x y i a b e =
    let c : ℕ = (a + b) % 2 in
    let z : List ℕ = bitwise_sum x y in
    let long : length (set z i c) ≡ length x = length-set z i c ∙ length_sum x y in
    let same : length (set x i a) ≡ length (set y i b) = length-set x i a ∙ e ∙ sym (length-set y i b) in
    ext_get_or 0 (set z i c) (bitwise_sum (set x i a) (set y i b))
    (long ∙ sym (length_sum (set x i a) (set y i b) ∙ length-set x i a)) (λ k h.
    let inside : k < length z = omega (arith, length_sum x y) in
    rw (get_or_sum (set x i a) (set y i b) same k)
    (elim (ℕ_discrete k i) [
      | yes s ↦ rw
          (s, get_or-set_same z i c 0 (omega arith), get_or-set_same x i a 0 (omega arith), get_or-set_same y i b 0 (omega arith)) refl
      | no s ↦ rw (get_or-set_other z i k c 0 s, get_or-set_other x i k a 0 s, get_or-set_other y i k b 0 s) (get_or_sum x y e k)
    ]))

exchanged_sum : (i j : ℕ) (x y : List ℕ) → length x ≡ length y
    → exchanged 0 i j (bitwise_sum x y) ≡ bitwise_sum (exchanged 0 i j x) (exchanged 0 i j y)
unfolding exchanged
exchanged_sum i j x y e =
    rw (get_or_sum x y e i, get_or_sum x y e j, set_sum x y i (get_or x j 0) (get_or y j 0) e)
    (set_sum (set x i (get_or x j 0)) (set y i (get_or y j 0)) j (get_or x i 0) (get_or y i 0)
    (length-set x i (get_or x j 0) ∙ e ∙ sym (length-set y i (get_or y j 0))))

-- The exchanges of a permutation keep sums, whatever places are drawn: past the end stands 0, in the sum as in both words.
pub first_sum : (n s : ℕ) (x y : List ℕ) → length x ≡ length y
    → shuffled_first 0 n s (bitwise_sum x y) ≡ bitwise_sum (shuffled_first 0 n s x) (shuffled_first 0 n s y)
unfolding shuffled_first
first_sum zero s x y e = refl
first_sum (suc n) s x y e =
    let p : ℕ = drawn_place (next_state s) (suc n) in
    ap (λ (w : List ℕ). shuffled_first 0 n (next_state s) w) (exchanged_sum p n x y e)
    ∙ first_sum n (next_state s) (exchanged 0 p n x) (exchanged 0 p n y)
    (length_exchanged 0 p n x ∙ e ∙ sym (length_exchanged 0 p n y))

-- ---- the code

module _ {k n : ℕ} {a : BitMatrix} {x y v w : List ℕ}
    (e : length x ≡ length y) (p : IsCodeword k n a x v) (q : IsCodeword k n a y w) where
  same_length : length v ≡ length w
  same_length = p.wide ∙ sym q.wide

  -- the sum of two words that meet every row does so
  sum_meets : Meets k n a (bit_at (bitwise_sum v w))
  sum_meets =
      meets_ext k n a a (λ j. xor (bit_at v j) (bit_at w j)) (bit_at (bitwise_sum v w)) (λ i h j g. refl)
      (λ j h. sym (ap (λ (b : ℕ). eqb (b % 2) 1) (get_or_sum v w same_length j) ∙ sum_odd (get_or v j 0) (get_or w j 0)))
      (meets_xor k n a (bit_at v) (bit_at w) (unmet_meets k n a v p.met) (unmet_meets k n a w q.met))

  -- The sum of two codewords is a codeword of the sum of their messages.
  pub sum_codeword : IsCodeword k n a (bitwise_sum x y) (bitwise_sum v w)
  unfolding message_columns
  sum_codeword = record {
    wide = length_sum v w ∙ p.wide;
    are_bits = sum_bits v w same_length;
    carried = carries_all n (λ j. not (is_check_column k n a j)) (bitwise_sum x y) (bitwise_sum v w) (λ c h t.
        let z = not-true (is_check_column k n a c) t in
        get_or_sum v w same_length c
        ∙ ap₂ (λ (i j : ℕ). (i + j) % 2) (carried_at p c h z) (carried_at q c h z)
        ∙ sym (get_or_sum x y e _));
    met = meets_none k n a (bitwise_sum v w) sum_meets;
  }

-- The codeword of a sum is the sum of the codewords, for the code of any matrix.
pub codeword_sum : (k n : ℕ) (a : BitMatrix) (x y : List ℕ) → AllBits x → AllBits y → length x ≡ length y
    → codeword k n a (bitwise_sum x y) ≡ bitwise_sum (codeword k n a x) (codeword k n a y)
codeword_sum k n a x y u v e = codeword_found (sum_codeword e (codeword_is k n a x u) (codeword_is k n a y v))
