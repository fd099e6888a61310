-- Laws of numbers as bits, and of lists of bits and bytes.
-- Assumes nothing.
use Prim.Native.Nat.{ℕ, zero, suc, ◌+◌, ◌*◌, ◌/◌, ◌%◌, ◌^◌, ◌≤◌, ◌<◌}
use mathlib.Core.Bool.{Bool, true, false}
use mathlib.Core.Path.{◌≡◌, refl, sym, ap, ◌∙◌}
use mathlib.Core.List.{List, [], ◌∷◌, ◌++◌}
use native.Mathlib.Nat.{pow-suc, mul_assoc, mul-le-mul_right}
use native.Mathlib.Numerals.{add-one}
use native.Mathlib.Omega.{arith}
use lib.ListN.{length, get_or, take, drop, length-append, replicate, length-take}
use lib.Seq.{get_or-drop, take-suc}
use lib.Pow.{pow_mono}
use lib.Dec.{eqb}
use borrow.Author.Tests.{eqb-true, eqb-false}
use Rattle.symbology.specs.Ranges.{join_from, tally}
use Rattle.symbology.specs.Bits.{AllBits, value, bits}
use Rattle.laws.proofs.Ranges.{by}

pub length_bits : (w n : ℕ) → length (bits w n) ≡ w
unfolding bits
length_bits zero n = refl
length_bits (suc w) n = omega (arith, length-append (bits w (n / 2)) (n % 2 ∷ []), length_bits w (n / 2))

-- one bit more behind
pub value_snoc : (bs : List ℕ) (b : ℕ) → value (bs ++ (b ∷ [])) ≡ 2 * value bs + b % 2
unfolding value
value_snoc [] b = omega arith
value_snoc (x ∷ bs) b =
    let l : length (bs ++ (b ∷ [])) ≡ suc (length bs) = length-append bs (b ∷ []) ∙ add-one (length bs) in
    let p : x % 2 * 2 ^ length (bs ++ (b ∷ [])) ≡ x % 2 * 2 ^ length bs * 2 =
    rw (l, pow-suc 2 (length bs)) (sym (mul_assoc (x % 2) (2 ^ length bs) 2)) in
    omega (arith, value_snoc bs b)

pub value_bits : (w n : ℕ) → n < 2 ^ w → value (bits w n) ≡ n
unfolding bits value
value_bits zero n h = omega arith
value_bits (suc w) n h =
    let half : n / 2 < 2 ^ w = omega (arith, pow-suc 2 w) in
    omega (arith, value_snoc (bits w (n / 2)) (n % 2), value_bits w (n / 2) half)

pub value_lt : (bs : List ℕ) → value bs < 2 ^ length bs
unfolding value
value_lt [] = omega arith
value_lt (b ∷ bs) =
    let top : b % 2 * 2 ^ length bs ≤ 1 * 2 ^ length bs = mul-le-mul_right (2 ^ length bs) (omega arith) in
    omega (arith, top, value_lt bs, pow-suc 2 (length bs))

-- the first n bits of a list from their number
pub bits_take : (n : ℕ) (bs : List ℕ) → AllBits bs → n ≤ length bs → bits n (value (take n bs)) ≡ take n bs
unfolding bits
bits_take zero bs h l = refl
bits_take (suc n) bs h l =
    let b : ℕ = get_or bs n 0 in
    let small : b ≤ 1 = h n in
    let v : value (take (suc n) bs) ≡ 2 * value (take n bs) + b % 2 = ap value (take-suc bs n 0 l) ∙ value_snoc (take n bs) b in
    let upper : value (take (suc n) bs) / 2 ≡ value (take n bs) = omega arith in
    let lower : value (take (suc n) bs) % 2 ≡ b = omega arith in
    rw (upper, lower, bits_take n bs h (omega arith)) (sym (take-suc bs n 0 l))

-- ---- lists of bits

pub append_bits : (a b : List ℕ) → AllBits a → AllBits b → AllBits (a ++ b)
append_bits [] b p q i = q i
append_bits (x ∷ a) b p q zero = p 0
append_bits (x ∷ a) b p q (suc i) = append_bits a b (λ k. p (suc k)) q i

pub bits_are : (w n : ℕ) → AllBits (bits w n)
unfolding bits
bits_are zero n = λ i. omega arith
bits_are (suc w) n = append_bits (bits w (n / 2)) (n % 2 ∷ []) (bits_are w (n / 2)) last
  where
    last : AllBits (n % 2 ∷ [])
    last zero = omega arith
    last (suc i) = omega arith

-- what every element of a list has, and 0, which stands past its end, every element of its parts has
pub take_every : (P : ℕ → Type 0) (n : ℕ) (a : List ℕ) → P 0 → ((i : ℕ) → P (get_or a i 0)) → (i : ℕ) → P (get_or (take n a) i 0)
take_every P zero a z p i = z
take_every P (suc n) [] z p i = z
take_every P (suc n) (x ∷ a) z p zero = p 0
take_every P (suc n) (x ∷ a) z p (suc i) = take_every P n a z (λ k. p (suc k)) i

pub drop_every : (P : ℕ → Type 0) (n : ℕ) (a : List ℕ) → ((i : ℕ) → P (get_or a i 0)) → (i : ℕ) → P (get_or (drop n a) i 0)
drop_every P n a p i = rw (get_or-drop n a i 0) (p (n + i))

pub take_bits : (n : ℕ) (a : List ℕ) → AllBits a → AllBits (take n a)
take_bits n a = take_every (λ (b : ℕ). b ≤ 1) n a (omega arith)

pub drop_bits : (n : ℕ) (a : List ℕ) → AllBits a → AllBits (drop n a)
drop_bits n a = drop_every (λ (b : ℕ). b ≤ 1) n a

pub zero_bits : (n : ℕ) → AllBits (replicate n 0)
zero_bits zero i = omega arith
zero_bits (suc n) zero = omega arith
zero_bits (suc n) (suc i) = zero_bits n i

pub join_bits : (f : ℕ → List ℕ) (a n : ℕ) → ((i : ℕ) → AllBits (f i)) → AllBits (join_from a n f)
unfolding join_from
join_bits f a zero h = λ i. omega arith
join_bits f a (suc n) h = append_bits (f a) (join_from (suc a) n f) (h a) (join_bits f (suc a) n h)

pub value_take : (n : ℕ) (bs : List ℕ) → value (take n bs) < 2 ^ n
value_take n bs =
    let few : length (take n bs) ≤ n = omega (arith, length-take n bs) in
    omega (arith, value_lt (take n bs), pow_mono few)

pub tally_bit : (x : ℕ) → x ≤ 1 → tally (eqb (x % 2) 1) ≡ x
tally_bit x l =
    by (eqb (x % 2) 1) (λ o. ap tally o ∙ (let e : x % 2 ≡ 1 = eqb-true (x % 2) 1 o in omega arith))
    (λ z. ap tally z ∙ (let e : x % 2 ≡ 1 → ⊥ = eqb-false (x % 2) 1 z in omega arith))

-- the test of a bit that stands for a Bool
pub bit_tally : (b : Bool) → eqb (tally b % 2) 1 ≡ b
bit_tally true = refl
bit_tally false = refl
