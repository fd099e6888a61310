-- Laws of the end mark in the net bits, and of the stuffing bits.
-- Assumes nothing.
use Prim.Native.Nat.{ℕ, zero, suc, ◌-◌, ◌%◌, ◌≤◌, ◌<◌}
use mathlib.Core.Path.{◌≡◌, refl, sym, ap, ◌∙◌}
use mathlib.Core.Logic.{◌↔◌}
use mathlib.Core.Bool.{Bool, true, false}
use mathlib.Core.List.{List, [], ◌∷◌, ◌++◌}
use native.Mathlib.Omega.{arith}
use native.Mathlib.Decide.{dec_lt}
use lib.Dec.{eqb}
use lib.ListN.{length, get_or, take, replicate, length-append, length-replicate, get_or-eq_default}
use lib.Seq.{take_at, length-take-le, ext_get_or}
use borrow.Author.Tests.{eq-eqb, ne_eqb, eqb-true, eqb-false}
use Rattle.symbology.specs.Ranges.{tally, tabulate}
use Rattle.symbology.specs.Bits.{AllBits, any_one}
use Rattle.symbology.specs.Net.{with_end_mark, up_to_last_one, stream_in, stuffing}
use Rattle.symbology.proofs.Ranges.{clash}
use Rattle.laws.proofs.Ranges.{by, or_left, or_right, or_none, length_tabulate, get_d_tabulate, tally_le, tally_none}
use Rattle.laws.proofs.Bits.{append_bits, zero_bits}

-- ---- bits up to the last 1

-- the one step of the count, by the count behind
last_behind : (b : ℕ) (bs : List ℕ) → 0 < up_to_last_one bs → up_to_last_one (b ∷ bs) ≡ suc (up_to_last_one bs)
unfolding up_to_last_one
last_behind b bs h = rw (ne_eqb (up_to_last_one bs) 0 (λ e. omega arith)) refl

last_here : (b : ℕ) (bs : List ℕ) → up_to_last_one bs ≡ 0 → up_to_last_one (b ∷ bs) ≡ tally (eqb (b % 2) 1)
unfolding up_to_last_one
last_here b bs h = rw h refl

-- the bits up to the last 1 are no more than the bits
pub up_to_le : (net : List ℕ) → up_to_last_one net ≤ length net
unfolding up_to_last_one
up_to_le [] = omega arith
up_to_le (b ∷ bs) = elim (dec_lt 0 (up_to_last_one bs)) [
  | yes h ↦ omega (arith, last_behind b bs h, up_to_le bs)
  | no h ↦ omega (arith, last_here b bs (omega arith), tally_le (eqb (b % 2) 1))
]

-- where no bit is 1, the last 1 stands nowhere
pub none_up_to : (net : List ℕ) → any_one net ≡ false → up_to_last_one net ≡ 0
unfolding up_to_last_one any_one
none_up_to [] e = refl
none_up_to (b ∷ bs) e =
    last_here b bs (none_up_to bs (or_right (eqb (b % 2) 1) (any_one bs) e)) ∙ ap tally (or_left (eqb (b % 2) 1) (any_one bs) e)

-- where the last 1 stands nowhere, no bit is 1
pub up_to_none : (net : List ℕ) → up_to_last_one net ≡ 0 → any_one net ≡ false
unfolding any_one
up_to_none [] e = refl
up_to_none (b ∷ bs) e = elim (dec_lt 0 (up_to_last_one bs)) [
  | yes h ↦ absurd (omega (arith, last_behind b bs h))
  | no h ↦
      let behind : up_to_last_one bs ≡ 0 = omega arith in
      or_none (eqb (b % 2) 1) (any_one bs) (tally_none (eqb (b % 2) 1) (sym (last_here b bs behind) ∙ e)) (up_to_none bs behind)
]

-- Test 11: no net bit is 1 exactly when there are no bits up to the last 1.
pub none_one : (net : List ℕ) → any_one net ≡ false ↔ up_to_last_one net ≡ 0
none_one net = (none_up_to net, up_to_none net)

-- where some bit is 1, at least one bit stands up to the last 1
pub some_up_to : (net : List ℕ) → any_one net ≡ true → 0 < up_to_last_one net
some_up_to net e = elim (dec_lt 0 (up_to_last_one net)) [
  | yes h ↦ h
  | no h ↦ clash e (up_to_none net (omega arith))
]

-- no bit of zeros is 1
pub any_zeros : (n : ℕ) → any_one (replicate n 0) ≡ false
unfolding any_one
any_zeros zero = refl
any_zeros (suc n) = any_zeros n

-- ---- the end mark

-- a 1 with zeros behind it is the last
pub up_to_one : (bs : List ℕ) (b k : ℕ) → b % 2 ≡ 1 → up_to_last_one (bs ++ b ∷ replicate k 0) ≡ suc (length bs)
up_to_one [] b k o = last_here b (replicate k 0) (none_up_to (replicate k 0) (any_zeros k)) ∙ rw (eq-eqb (b % 2) 1 o)
up_to_one (x ∷ bs) b k o =
    let later : up_to_last_one (bs ++ b ∷ replicate k 0) ≡ suc (length bs) = up_to_one bs b k o in
    last_behind x (bs ++ b ∷ replicate k 0) (omega arith) ∙ ap suc later

-- the last 1 of net bits is their end mark
pub up_to_net : (n : ℕ) (stream : List ℕ) → up_to_last_one (with_end_mark n stream) ≡ suc (length stream)
unfolding with_end_mark
up_to_net n stream = up_to_one stream 1 (n - suc (length stream)) refl

-- Net bits give back their stream.
pub net_back : (n : ℕ) (stream : List ℕ) → stream_in (with_end_mark n stream) ≡ stream
unfolding stream_in with_end_mark
net_back n stream =
    let zeros : ℕ = n - suc (length stream) in
    rw (up_to_one stream 1 zeros refl) (take_at stream (1 ∷ replicate zeros 0) (suc (length stream) - 1) (omega arith))

-- a stream shorter than the net bits fills them with its end mark and the zeros
pub length_net : (n : ℕ) (stream : List ℕ) → length stream < n → length (with_end_mark n stream) ≡ n
unfolding with_end_mark
length_net n stream h =
    let zeros : ℕ = n - suc (length stream) in
    omega (arith, length-append stream (1 ∷ replicate zeros 0), length-replicate {A = ℕ} zeros 0)

-- net bits are bits
pub net_bits_lem : (n : ℕ) (stream : List ℕ) → AllBits stream → AllBits (with_end_mark n stream)
unfolding with_end_mark
net_bits_lem n stream h = append_bits stream (1 ∷ replicate (n - suc (length stream)) 0) h marked
  where
    marked : AllBits (1 ∷ replicate (n - suc (length stream)) 0)
    marked zero = omega arith
    marked (suc i) = zero_bits (n - suc (length stream)) i

-- some net bit is 1
pub net_some : (n : ℕ) (stream : List ℕ) → any_one (with_end_mark n stream) ≡ true
net_some n stream =
    by (any_one (with_end_mark n stream)) (λ e. e)
    (λ e. absurd (omega (arith, none_up_to (with_end_mark n stream) e, up_to_net n stream)))

-- bits of which none is 1 are zeros
pub none_zeros : (bs : List ℕ) → AllBits bs → any_one bs ≡ false → bs ≡ replicate (length bs) 0
unfolding any_one
none_zeros [] h e = refl
none_zeros (b ∷ bs) h e =
    let no_one : b % 2 ≡ 1 → ⊥ = eqb-false (b % 2) 1 (or_left (eqb (b % 2) 1) (any_one bs) e) in
    let here : b ≡ 0 = omega (arith, h 0, no_one) in
    let behind : bs ≡ replicate (length bs) 0 = none_zeros bs (λ i. h (suc i)) (or_right (eqb (b % 2) 1) (any_one bs) e) in
    ap (λ (x : ℕ). x ∷ bs) here ∙ ap (λ (x : List ℕ). 0 ∷ x) behind

-- bits whose last 1 has k bits before it
split_last : (net : List ℕ) → AllBits net → (k : ℕ) → up_to_last_one net ≡ suc k → take k net ++ 1 ∷ replicate (length net - suc k) 0 ≡ net
unfolding up_to_last_one
split_last [] h k e = absurd (omega arith)
split_last (b ∷ bs) h zero e =
    let behind : up_to_last_one bs ≡ 0 =
    elim (dec_lt 0 (up_to_last_one bs)) [ yes l ↦ absurd (omega (arith, last_behind b bs l)) | no l ↦ omega arith ] in
    let here : b ≡ 1 = omega (arith, h 0, eqb-true (b % 2) 1 (tally_true (eqb (b % 2) 1) (sym (last_here b bs behind) ∙ e))) in
    let rest : length (b ∷ bs) - 1 ≡ length bs = omega arith in
    rw (rest, here) (ap (λ (x : List ℕ). 1 ∷ x) (sym (none_zeros bs (λ i. h (suc i)) (up_to_none bs behind))))
  where
    tally_true : (t : Bool) → tally t ≡ 1 → t ≡ true
    tally_true true h = refl
    tally_true false h = absurd (omega arith)
split_last (b ∷ bs) h (suc k) e =
    let behind : up_to_last_one bs ≡ suc k =
    elim (dec_lt 0 (up_to_last_one bs)) [
      | yes l ↦ omega (arith, last_behind b bs l)
      | no l ↦ absurd (omega (arith, last_here b bs (omega arith), tally_le (eqb (b % 2) 1)))
    ] in
    let rest : length (b ∷ bs) - suc (suc k) ≡ length bs - suc k = omega arith in
    rw rest (ap (λ (x : List ℕ). b ∷ x) (split_last bs (λ i. h (suc i)) k behind))

-- Net bits of which one is 1 are their stream, its end mark and zeros.
pub net_marked : (net : List ℕ) → AllBits net → any_one net ≡ true → with_end_mark (length net) (stream_in net) ≡ net
unfolding with_end_mark stream_in
net_marked net h e =
    let k : ℕ = up_to_last_one net - 1 in
    let l : length (take k net) ≡ k = length-take-le k net (omega (arith, up_to_le net)) in
    rw l (split_last net h k (omega (arith, some_up_to net e)))

-- ---- stuffing

-- there are as many stuffing bits as are asked for
pub length_stuffing : (n : ℕ) → length (stuffing n) ≡ n
unfolding stuffing
length_stuffing n = length_tabulate n (λ i. i % 2)

pub stuffing_at : (n i : ℕ) → i < n → get_or (stuffing n) i 0 ≡ i % 2
unfolding stuffing
stuffing_at n i h = get_d_tabulate n (λ k. k % 2) 0 i h

-- the first i elements are stuffing bits
abbrev pub StuffedTo : List ℕ → ℕ → Type 0
StuffedTo xs i = (j : ℕ) → j < i → get_or xs j 0 ≡ j % 2

-- 0, 1, 0, .. are stuffing bits
pub stuffing_is : (xs : List ℕ) → StuffedTo xs (length xs) → xs ≡ stuffing (length xs)
stuffing_is xs each =
    ext_get_or 0 xs (stuffing (length xs)) (sym (length_stuffing (length xs))) (λ i h. each i h ∙ sym (stuffing_at (length xs) i h))

-- stuffing bits are bits
pub stuffing_bits : (n : ℕ) → AllBits (stuffing n)
unfolding stuffing
stuffing_bits n i = elim (dec_lt i n) [
  | yes h ↦ omega (arith, stuffing_at n i h)
  | no h ↦ omega (arith, get_or-eq_default (tabulate n (λ k. k % 2)) 0 {n = i} (omega (arith, length_tabulate n (λ k. k % 2))))
]
