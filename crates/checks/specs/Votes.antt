-- Votes: each bit has a number of two bytes, to which a check adds, and from which it takes, for all of its bits at once.
-- Assumes nothing.
use Rattle.std.specs.Prelude.{ℕ, ◌+◌, ◌-◌, ◌*◌, ◌≤◌, ◌<◌, ◌≡◌, true, cond, List, [], ◌∷◌}
use Rattle.lent.specs.declared.Areas.{Areas}
use Rattle.lent.specs.Changes.{Changed}
use Rattle.lent.specs.Buffer.{number_at}
use Rattle.lent.specs.Work.{numbers_span}
use Rattle.checks.specs.Checks.{stands_in}

-- the number of bit j
abbrev pub number_of : Areas → List ℕ → ℕ → ℕ
number_of a work j = number_at work (a.numbers + 2 * j)

-- each bit of check i can have `add`, at most 2, added to its number and `sub` taken off, in two bytes
pub record Votes (a : Areas) (i add sub : ℕ) (work : List ℕ) : Type 0 where
  pub small : add ≤ 2
  pub fits : (j : ℕ)
      → j < a.gross
      → stands_in a work i j ≡ true
      → (sub ≤ number_of a work j + add) × (number_of a work j + add < 65536 + sub)

-- each bit of check i has had that done, and nothing else is changed
pub record Voted (a : Areas) (i add sub : ℕ) (before after : List ℕ) : Type 0 where
  pub changed : Changed (numbers_span a ∷ []) before after
  pub voted : (j : ℕ)
      → j < a.gross
      → number_of a after j ≡ cond (stands_in a before i j) (number_of a before j + add - sub) (number_of a before j)
