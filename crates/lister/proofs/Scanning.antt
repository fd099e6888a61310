-- What the whole scan of an input gives.
-- Assumes nothing.
use Prim.Native.Nat.{ℕ, ◌+◌, ◌-◌, ◌*◌, ◌≤◌, min}
use mathlib.Core.Path.{◌≡◌, refl, ap}
use mathlib.Core.Bool.{Bool, true, false, cond}
use mathlib.Core.List.{List, [], ◌∷◌}
use native.Mathlib.Omega.{arith}
use native.Mathlib.Decide.{dec_lt}
use lib.Dec.{eqb}
use borrow.Author.Tests.{lt-ltb, le-ltb}
use Rattle.std.proofs.Common.{Option, None, Some}
use Rattle.lister.specs.declared.Numeral.TheVariants.{Start, Digits, Ended, Broken}
use Rattle.lister.specs.Numeral.{is_digit, is_end, rest_of_numeral, is_numeral, numeral_value, number_in}
use Rattle.lister.specs.Scanning.{grown, scanned, scanned_all, scan_number}

-- a number as far as it matters: those above 32 are one
abbrev pub up_to_33 : Option ℕ → Option ℕ
up_to_33 (Some n) = Some (min n 33)
up_to_33 None = None

-- a number above 32 stays above, whatever digits follow
grown_same : (m n d : ℕ) → min m 33 ≡ min n 33 → min (grown m d) 33 ≡ min (10 * n + d) 33
grown_same m n d e =
    elim (dec_lt 32 m) [
      | yes h ↦ rw (lt-ltb 32 m h) (omega arith)
      | no h ↦
          let l : m ≤ 32 = omega arith in
          rw (le-ltb 32 m l) (omega arith)
    ]

broken_all : (bs : List ℕ) → scanned_all Broken bs ≡ Broken
unfolding scanned
broken_all [] = refl
broken_all (b ∷ bs) = broken_all bs

ended_all : (n : ℕ) (bs : List ℕ) → scan_number (scanned_all (Ended n) bs) ≡ cond (is_end bs) (Some n) None
unfolding scanned
ended_all n [] = refl
ended_all n (b ∷ bs) = rw (broken_all bs)

-- the number scanned after digits is the one written, or both are above 32
digits_all : (bs : List ℕ) (m n : ℕ) → min m 33 ≡ min n 33
    → up_to_33 (scan_number (scanned_all (Digits m) bs)) ≡ up_to_33 (cond (rest_of_numeral bs) (Some (numeral_value n bs)) None)
unfolding scanned rest_of_numeral numeral_value
digits_all [] m n e = ap Some e
digits_all (b ∷ bs) m n e = go (is_digit b) (eqb b 10) refl refl (digits_all bs)
  where
    go : (digit newline : Bool) → is_digit b ≡ digit → eqb b 10 ≡ newline
        → ((m n : ℕ) → min m 33 ≡ min n 33
        → up_to_33 (scan_number (scanned_all (Digits m) bs)) ≡ up_to_33 (cond (rest_of_numeral bs) (Some (numeral_value n bs)) None))
        → up_to_33 (scan_number (scanned_all (scanned (Digits m) b) bs))
        ≡ up_to_33 (cond (rest_of_numeral (b ∷ bs)) (Some (numeral_value n (b ∷ bs))) None)
    go true newline d t ih = rw d (ih (grown m (b - 48)) (10 * n + (b - 48)) (grown_same m n (b - 48) e))
    go false true d t ih = rw (d, t, ended_all m bs) (at_end bs)
      where
        at_end : (bs : List ℕ) → up_to_33 (cond (is_end bs) (Some m) None) ≡ up_to_33 (cond (is_end bs) (Some (numeral_value n bs)) None)
        at_end [] = ap Some e
        at_end (c ∷ cs) = refl
    go false false d t ih = rw (d, t, broken_all bs)

-- the number scanned is the number that the text is, or both are above 32
pub scan_number_lem : (input : List ℕ) → up_to_33 (scan_number (scanned_all Start input)) ≡ up_to_33 (number_in input)
unfolding scanned number_in is_numeral numeral_value
scan_number_lem [] = refl
scan_number_lem (b ∷ bs) = go (is_digit b) refl
  where
    go : (digit : Bool) → is_digit b ≡ digit
        → up_to_33 (scan_number (scanned_all (scanned Start b) bs))
        ≡ up_to_33 (cond (is_numeral (b ∷ bs)) (Some (numeral_value 0 (b ∷ bs))) None)
    go true d = rw d (digits_all bs (b - 48) (0 + (b - 48)) (omega arith))
    go false d = rw (d, broken_all bs)
