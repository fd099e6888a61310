-- The wrong stuffing bits, counted one by one.
-- Assumes nothing.
use Prim.Native.Nat.{ℕ, ◌+◌, ◌%◌, ◌≤◌}
use mathlib.Core.Path.{◌≡◌, sym, ap, ap₂, ◌∙◌}
use mathlib.Core.Bool.{Bool, not}
use mathlib.Core.List.{List}
use native.Mathlib.Nat.{add-zero}
use native.Mathlib.Numerals.{add-one}
use native.Mathlib.Omega.{arith}
use lib.ListN.{length, get_or}
use lib.Dec.{eqb}
use borrow.Author.Tests.{eq-eqb, ne_eqb}
use Rattle.symbology.specs.Ranges.{tally, those}
use Rattle.symbology.specs.Bits.{differing}
use Rattle.symbology.specs.Net.{stuffing}
use Rattle.laws.proofs.Counting.{number_suc, number_zero, number_ext, number_most}
use Rattle.laws.proofs.Net.{length_stuffing, stuffing_at}

module _ (bits : List ℕ) where
  -- bit i is wrong
  abbrev wrong_at : ℕ → Bool
  wrong_at i = not (eqb (i % 2) (get_or bits i 0))

  -- n of the first i are
  abbrev pub WrongTo : ℕ → ℕ → Type 0
  WrongTo n i = n ≡ length (those i wrong_at)

  -- none of none
  pub wrong_none : WrongTo 0 0
  wrong_none = sym (number_zero wrong_at)

  -- no more than there are
  pub wrong_most : (n i : ℕ) → WrongTo n i → n ≤ i
  wrong_most n i e = omega (arith, e, number_most wrong_at i)

  -- the next bit is counted where it is wrong
  one_more : (n i : ℕ) {t : Bool} → WrongTo n i → wrong_at i ≡ t → WrongTo (n + tally t) (i + 1)
  one_more n i before this =
      ap₂ ◌+◌ before (ap tally (sym this)) ∙ sym (number_suc wrong_at i) ∙ ap (λ (k : ℕ). length (those k wrong_at)) (sym (add-one i))

  -- it is wrong
  pub wrong_next : (n i : ℕ) → WrongTo n i → (get_or bits i 0 ≡ i % 2 → ⊥) → WrongTo (n + 1) (i + 1)
  wrong_next n i before differs = one_more n i before (ap not (ne_eqb (i % 2) (get_or bits i 0) (λ e. differs (sym e))))

  -- it is right
  pub right_next : (n i : ℕ) → WrongTo n i → get_or bits i 0 ≡ i % 2 → WrongTo n (i + 1)
  right_next n i before same =
      sym (add-zero n) ∙ one_more n i before (ap not (eq-eqb (i % 2) (get_or bits i 0) (sym same)))

  -- all of them are counted
  pub wrong_all : (n i : ℕ) → WrongTo n i → i ≡ length bits → n ≡ differing (stuffing (length bits)) bits
  unfolding differing
  wrong_all n i before e =
      let m : ℕ = length bits in
      let long : length (stuffing m) ≡ m = length_stuffing m in
      before
      ∙ ap (λ (k : ℕ). length (those k wrong_at)) (e ∙ sym long)
      ∙ number_ext wrong_at (λ j. not (eqb (get_or (stuffing m) j 0) (get_or bits j 0))) (length (stuffing m))
      (λ j h. ap (λ (k : ℕ). not (eqb k (get_or bits j 0))) (sym (stuffing_at m j (omega (arith, long)))))
