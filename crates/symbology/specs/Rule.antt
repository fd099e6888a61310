-- Document 01, "Mending": unmet checks and the rule. A check is a list of bit places, counted from 0; a word is a list of bits.
-- Assumes nothing.
use Rattle.std.specs.Prelude.{ℕ, zero, suc, ◌+◌, ◌-◌, ◌%◌, Bool, cond, ◌||◌, List, [], ◌∷◌, map, length, get_or, set, ltb, eqb}
use Rattle.symbology.specs.Ranges.{lowest, has}

-- the bits of a check, added
unfoldable pub bit_sum : List ℕ → List ℕ → ℕ
bit_sum [] w = 0
bit_sum (j ∷ js) w = get_or w j 0 + bit_sum js w

-- 1 where the check is unmet (document 01's term): its bits add to an odd number; else 0
unfoldable pub unmet : List ℕ → List ℕ → ℕ
unmet check w = bit_sum check w % 2

-- how many checks are unmet
unfoldable pub unmet_count : List (List ℕ) → List ℕ → ℕ
unmet_count [] w = 0
unmet_count (c ∷ cs) w = unmet c w + unmet_count cs w

-- how many unmet checks bit j stands in
unfoldable pub unmet_at : List (List ℕ) → List ℕ → ℕ → ℕ
unmet_at [] w j = 0
unmet_at (c ∷ cs) w j = cond (has j c) (unmet c w) 0 + unmet_at cs w j

-- how many met checks bit j stands in
unfoldable pub met_at : List (List ℕ) → List ℕ → ℕ → ℕ
met_at [] w j = 0
met_at (c ∷ cs) w j = cond (has j c) (1 - unmet c w) 0 + met_at cs w j

-- a suspect bit stands in more unmet than met checks
unfoldable pub is_suspect : List (List ℕ) → List ℕ → ℕ → Bool
is_suspect cs w j = ltb (met_at cs w j) (unmet_at cs w j)

-- the lowest-numbered suspect bit, and the word's length where there is none
unfoldable pub suspect : List (List ℕ) → List ℕ → ℕ
suspect cs w = lowest (is_suspect cs w) (length w) 0

-- bit j turned
unfoldable pub turned : List ℕ → ℕ → List ℕ
turned w j = set w j (1 - get_or w j 0)

-- the rule ends here: no check is unmet, or no bit is suspect
unfoldable pub ends : List (List ℕ) → List ℕ → Bool
ends cs w = eqb (unmet_count cs w) 0 || eqb (suspect cs w) (length w)

-- The repairs: the bits that the rule turns, in order, in at most n steps. Where no check names a place twice, as no row of A
-- does, each step lowers the unmet count, so that n = unmet_count cs w is enough.
unfoldable pub repairs : List (List ℕ) → ℕ → List ℕ → List ℕ
repairs cs zero w = []
repairs cs (suc n) w =
    let j = suspect cs w in
    let more = j ∷ repairs cs n (turned w j) in
    cond (ends cs w) [] more

-- the word after turning the bits of a list, one after the other
unfoldable pub after_turns : List ℕ → List ℕ → List ℕ
after_turns w [] = w
after_turns w (j ∷ js) = after_turns (turned w j) js

-- the repairs of the rule run from a received word to its end
unfoldable pub repairs_of : List (List ℕ) → List ℕ → List ℕ
repairs_of cs w = repairs cs (unmet_count cs w) w

-- the places of bits, which count from 1: document 01 in P10, document 02 in W-205
unfoldable pub places_of : List ℕ → List ℕ
places_of js = map suc js

-- the word that it ends with
unfoldable pub last_word : List (List ℕ) → List ℕ → List ℕ
last_word cs w = after_turns w (repairs_of cs w)

-- the word is stuck: the rule ends with a check unmet
unfoldable pub stuck : List (List ℕ) → List ℕ → Bool
stuck cs w = ltb 0 (unmet_count cs (last_word cs w))
