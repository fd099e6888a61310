-- Bits in lists: a bit is 0 or 1, the first bit of a number is its highest.
-- Assumes nothing.
use Rattle.std.specs.Prelude.{ℕ, zero, suc, ◌+◌, ◌*◌, ◌/◌, ◌%◌, ◌^◌, ◌≤◌, ◌<◌, Bool, false, not, ◌||◌, List, [], ◌∷◌, ◌++◌, length, get_or}
use Rattle.std.specs.Prelude.{eqb}
use Rattle.symbology.specs.Ranges.{tabulate, those}

-- each element of the list is a bit; past its end stands 0
abbrev pub AllBits : List ℕ → Type 0
AllBits bs = (i : ℕ) → get_or bs i 0 ≤ 1

-- each element of the list is a byte
abbrev pub AllBytes : List ℕ → Type 0
AllBytes m = (i : ℕ) → get_or m i 0 < 256

-- the number that the bits write; of an element that is no bit only its remainder by 2 counts
unfoldable pub value : List ℕ → ℕ
value [] = 0
value (b ∷ bs) = b % 2 * 2 ^ length bs + value bs

-- the w lowest bits of n
unfoldable pub bits : ℕ → ℕ → List ℕ
bits zero n = []
bits (suc w) n = bits w (n / 2) ++ (n % 2 ∷ [])

-- some bit is 1
unfoldable pub any_one : List ℕ → Bool
any_one [] = false
any_one (b ∷ bs) = eqb (b % 2) 1 || any_one bs

-- document 02, W-207: the bitwise sum of two words of one length
unfoldable pub bitwise_sum : List ℕ → List ℕ → List ℕ
bitwise_sum x y = tabulate (length x) (λ i. (get_or x i 0 + get_or y i 0) % 2)

-- document 02, W-202: how many bits of two words of one length differ
unfoldable pub differing : List ℕ → List ℕ → ℕ
differing x y = length (those (length x) (λ i. not (eqb (get_or x i 0) (get_or y i 0))))
