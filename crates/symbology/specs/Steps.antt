-- Demand 3: steps of the rule, where they end, and what each does to the number of unmet checks. It is said of any checks and any word,
-- and nothing is said of how the steps are found.
-- Assumes nothing.
use Rattle.std.specs.Prelude.{ℕ, ◌≤◌, ◌<◌, ◌≡◌, ◌⊎◌, List, [], ◌∷◌, length}
use Rattle.symbology.specs.Rule.{unmet_count, unmet_at, met_at, turned}

-- bit j of the word is the lowest-numbered that stands in more unmet checks than met ones
pub record LowestSuspect (cs : List (List ℕ)) (w : List ℕ) (j : ℕ) : Type 0 where
  pub inside : j < length w
  pub suspected : met_at cs w j < unmet_at cs w j
  pub none_below : (i : ℕ) → i < j → unmet_at cs w i ≤ met_at cs w i

-- The bits of the list, turned in this order, are steps of the rule that lead from the word w to the word v: before each some
-- check is unmet, and the bit turned is the lowest suspect one.
unfoldable pub Steps : List (List ℕ) → List ℕ → List ℕ → List ℕ → Type 0
Steps cs w [] v = w ≡ v
Steps cs w (j ∷ js) v = (0 < unmet_count cs w) × LowestSuspect cs w j × Steps cs (turned w j) js v

-- each turn of a bit of the list lowers the number of unmet checks
unfoldable pub Lowers : List (List ℕ) → List ℕ → List ℕ → Type 0
Lowers cs w [] = Unit {0}
Lowers cs w (j ∷ js) = (unmet_count cs (turned w j) < unmet_count cs w) × Lowers cs (turned w j) js

-- the rule ends with the word: no check is unmet, or no bit is suspect
abbrev pub Ended : List (List ℕ) → List ℕ → Type 0
Ended cs w = (unmet_count cs w ≡ 0) ⊎ ((j : ℕ) → j < length w → unmet_at cs w j ≤ met_at cs w j)
