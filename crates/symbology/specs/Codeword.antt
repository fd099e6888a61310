-- Document 01, "Bits": check columns, message columns and the codeword of any matrix of k rows and n columns, both counted from 0.
-- Assumes nothing.
use Rattle.std.specs.Prelude.{ℕ, zero, suc, ◌-◌, Bool, true, cond, not, ◌&&◌, ◌||◌, List, [], ◌∷◌, ◌++◌, map, get_or, drop, eqb}
use Rattle.std.specs.Bool.{xor}
use Rattle.symbology.specs.Ranges.{all_below, those, has}
use Rattle.symbology.specs.Matrix.{BitMatrix, checks_of}
use Rattle.symbology.specs.Rule.{unmet_count}

-- a column is the sum of some of the columns of a list; the sum of none is zero
unfoldable pub is_sum : ℕ → List (ℕ → Bool) → (ℕ → Bool) → Bool
is_sum k [] c = all_below k (λ i. not (c i))
is_sum k (d ∷ ds) c = is_sum k ds c || is_sum k ds (λ i. xor (c i) (d i))

-- The check columns among the last m columns, ascending. Going from the last column to the first, a column is a check column if it
-- isn't a sum of check columns already taken.
unfoldable pub check_columns : ℕ → ℕ → BitMatrix → ℕ → List ℕ
check_columns k n a zero = []
check_columns k n a (suc m) =
    let taken = check_columns k n a m in
    let j = n - suc m in
    cond (is_sum k (map (λ c i. a i c) taken) (λ i. a i j)) taken (j ∷ taken)

-- column j is a check column
unfoldable pub is_check_column : ℕ → ℕ → BitMatrix → ℕ → Bool
is_check_column k n a j = has j (check_columns k n a n)

-- the message columns: the others, ascending
unfoldable pub message_columns : ℕ → ℕ → BitMatrix → List ℕ
message_columns k n a = those n (λ j. not (is_check_column k n a j))

-- the word has the message's bits in the message columns, and 0 in those past the message's end
unfoldable pub carries : List ℕ → List ℕ → List ℕ → Bool
carries [] m w = true
carries (c ∷ cs) m w = eqb (get_or w c 0) (get_or m 0 0) && carries cs (drop 1 m) w

-- all words of n bits
unfoldable pub words : ℕ → List (List ℕ)
words zero = [] ∷ []
words (suc n) = map (λ w. 0 ∷ w) (words n) ++ map (λ w. 1 ∷ w) (words n)

-- the first word of a list that passes the test, and none where none does
unfoldable pub first_word : (List ℕ → Bool) → List (List ℕ) → List ℕ
first_word f [] = []
first_word f (w ∷ ws) =
    let later = first_word f ws in
    cond (f w) w later

-- the codeword: the only word with the message's bits that meets every row of the matrix
unfoldable pub codeword : ℕ → ℕ → BitMatrix → List ℕ → List ℕ
codeword k n a m =
    let columns = message_columns k n a in
    let checks = checks_of k n a in
    first_word (λ w. carries columns m w && eqb (unmet_count checks w) 0) (words n)

-- the bits of a word in the message columns
unfoldable pub message_bits : ℕ → ℕ → BitMatrix → List ℕ → List ℕ
message_bits k n a w = map (λ j. get_or w j 0) (message_columns k n a)
