-- Decimal numbers in ASCII: what a text is as a number.
-- Assumes nothing.
use Rattle.std.specs.Prelude.{ℕ, ◌+◌, ◌-◌, ◌*◌, Bool, true, false, cond, ◌&&◌, List, [], ◌∷◌, Option, None, Some, eqb}
use Rattle.symbology.specs.Ranges.{within}

-- an ASCII digit
abbrev pub is_digit : ℕ → Bool
is_digit b = within 48 57 b

-- the number that a digit writes; any other byte writes none
abbrev pub digit_of : ℕ → Option ℕ
digit_of b = cond (is_digit b) (Some (b - 48)) None

-- nothing follows
abbrev pub is_end : List ℕ → Bool
is_end [] = true
is_end (b ∷ bs) = false

-- digits, and at most one newline after them
unfoldable pub rest_of_numeral : List ℕ → Bool
rest_of_numeral [] = true
rest_of_numeral (b ∷ bs) = cond (is_digit b) (rest_of_numeral bs) (eqb b 10 && is_end bs)

-- at least one digit before that
unfoldable pub is_numeral : List ℕ → Bool
is_numeral [] = false
is_numeral (b ∷ bs) = is_digit b && rest_of_numeral bs

-- the number that n and then the digits write; what is no digit is passed over
unfoldable pub numeral_value : ℕ → List ℕ → ℕ
numeral_value n [] = n
numeral_value n (b ∷ bs) = numeral_value (cond (is_digit b) (10 * n + (b - 48)) n) bs

-- the number that the text is, where it is one
unfoldable pub number_in : List ℕ → Option ℕ
number_in text = cond (is_numeral text) (Some (numeral_value 0 text)) None
