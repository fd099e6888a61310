-- The first row that passes a test, found among those from a row on, where none before passes.
-- Assumes nothing.
use Prim.Native.Nat.{ℕ, ◌≤◌, ◌<◌}
use mathlib.Core.Path.{◌≡◌, sym}
use mathlib.Core.Bool.{Bool, true, false}
use native.Mathlib.Omega.{arith}
use native.Mathlib.Decide.{dec_lt}
use Rattle.std.specs.Prelude.{Option, None, Some, MatchOption, unwrap_or}
use Rattle.symbology.specs.Ranges.{lowest}
use Rattle.laws.proofs.Search.{search_at, search_found, search_none}
use Rattle.lent.specs.declared.Areas.{Areas}
use Rattle.elimination.specs.Reduced.{IsFirstRow}

module _ (a : Areas) (test : ℕ → Bool) (from : ℕ) (before : (i : ℕ) → i < from → test i ≡ false) where
  -- the rows before k do not pass, if those from `from` on do not
  none_to : (k : ℕ) → ((i : ℕ) → from ≤ i → i < k → test i ≡ false) → (i : ℕ) → i < k → test i ≡ false
  none_to k none i h =
      elim (dec_lt i from) [
        | yes l ↦ before i l
        | no l ↦ none i (omega arith) h
      ]

  pub first_row : (row : Option ℕ)
      → MatchOption row ((k : ℕ) → from ≤ k → k < a.checks → test k ≡ false)
      (λ i. (from ≤ i) × (i < a.checks) × (test i ≡ true) × ((k : ℕ) → from ≤ k → k < i → test k ≡ false))
      → IsFirstRow a test row
  first_row None none =
      let n = a.checks in
      search_none test n n (search_at test n n (omega arith) (none_to n none)) (omega arith)
  first_row (Some i) found =
      let n = a.checks in
      (sym (search_found test n i (search_at test n i (omega arith) (none_to i found.3)) found.1 found.2), found.1)

-- the row, or the number of rows
pub first_or_all : (a : Areas) (test : ℕ → Bool) (row : Option ℕ) → IsFirstRow a test row → unwrap_or row a.checks ≡ lowest test a.checks 0
first_or_all a test None e = sym e
first_or_all a test (Some i) found = found.0
