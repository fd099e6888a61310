-- The balance of each bit, its number of two bytes: the number of checks, plus the unmet and minus the met ones that the bit stands in,
-- by their marks. What the functions do to balances and marks.
-- Assumes nothing.
use Rattle.std.specs.Prelude.{ℕ, zero, suc, ◌+◌, ◌-◌, ◌<◌, ◌≡◌, cond, List, [], ◌∷◌}
use Rattle.lent.specs.declared.Areas.{Areas}
use Rattle.lent.specs.Changes.{span, Changed}
use Rattle.lent.specs.Work.{marks_span, numbers_span}
use Rattle.checks.specs.Checks.{stands_in}
use Rattle.checks.specs.Votes.{number_of}
use Rattle.syndrome.specs.Syndrome.{mark_of}

-- among the first i checks, those that bit j stands in, each counted as f says of its mark
unfoldable pub count_with : (ℕ → ℕ) → Areas → List ℕ → ℕ → ℕ → ℕ
count_with f a work j zero = 0
count_with f a work j (suc i) = count_with f a work j i + cond (stands_in a work i j) (f (mark_of a work i)) 0

-- how many of them are marked as unmet
abbrev pub unmet_with : Areas → List ℕ → ℕ → ℕ → ℕ
unmet_with a work j i = count_with (λ mark. mark) a work j i

-- how many of them are marked as met
abbrev pub met_with : Areas → List ℕ → ℕ → ℕ → ℕ
met_with a work j i = count_with (λ mark. 1 - mark) a work j i

-- the balances are those over the first i checks
abbrev pub BalancedTo : Areas → ℕ → List ℕ → Type 0
BalancedTo a i work = (j : ℕ) → j < a.gross → number_of a work j + met_with a work j i ≡ a.checks + unmet_with a work j i

-- the balances are those over all checks
abbrev pub Balanced : Areas → List ℕ → Type 0
Balanced a work = BalancedTo a a.checks work

-- the balances are those over no check, and nothing else is changed
pub record Levelled (a : Areas) (before after : List ℕ) : Type 0 where
  pub changed : Changed (numbers_span a ∷ []) before after
  pub level : (j : ℕ) → j < a.gross → number_of a after j ≡ a.checks

-- the balances are made, and nothing else is changed
pub record Weighed (a : Areas) (before after : List ℕ) : Type 0 where
  pub changed : Changed (numbers_span a ∷ []) before after
  pub balanced : Balanced a after

-- the mark of check i is turned, with the balances, and nothing else is changed
pub record CheckTurned (a : Areas) (i : ℕ) (before after : List ℕ) : Type 0 where
  pub changed : Changed (span (a.marks + i) (a.marks + i + 1) ∷ numbers_span a ∷ []) before after
  pub turns : mark_of a after i ≡ 1 - mark_of a before i
  pub balanced : Balanced a after

-- the marks of the checks that bit j stands in are turned, with the balances, and nothing else is changed
pub record MarksTurned (a : Areas) (j : ℕ) (before after : List ℕ) : Type 0 where
  pub changed : Changed (marks_span a ∷ numbers_span a ∷ []) before after
  pub turns : (i : ℕ)
      → i < a.checks
      → mark_of a after i ≡ cond (stands_in a before i j) (1 - mark_of a before i) (mark_of a before i)
  pub balanced : Balanced a after
