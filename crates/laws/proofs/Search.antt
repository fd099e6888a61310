-- A search for the lowest number as a loop makes it: the search among n numbers is that among those from k on, where none before k
-- was found.
-- Assumes nothing.
use Prim.Native.Nat.{ℕ, zero, suc, ◌+◌, ◌-◌, ◌≤◌, ◌<◌}
use mathlib.Core.Path.{◌≡◌, refl, sym, ap, ◌∙◌, subst}
use mathlib.Core.Bool.{Bool, true, false, cond}
use native.Mathlib.Numerals.{add-one}
use native.Mathlib.Omega.{arith}
use mathlib.Core.List.{List}
use lib.Dec.{ltb}
use lib.ListN.{length, get_or}
use borrow.Author.Tests.{lt-ltb, le-ltb, ltb-true, ltb-false}
use Rattle.std.specs.Prelude.{Option, Some, None, position}
use Rattle.std.proofs.lemmas.List.Sums.{position_or_len_is}
use Rattle.symbology.specs.Ranges.{lowest, found}
use Rattle.laws.proofs.Ranges.{lowest_skip, lowest_found, lowest_holds, lowest_before, lowest_to}

-- the search among n numbers has come to k
pub record SearchFrom (f : ℕ → Bool) (n k : ℕ) : Type 0 where
  pub most : k ≤ n
  pub same : lowest f n 0 ≡ lowest f (n - k) k

-- it starts at 0
pub search_start : (f : ℕ → Bool) (n : ℕ) → SearchFrom f n 0
search_start f n = record { most = omega arith; same = ap (λ (m : ℕ). lowest f m 0) (omega arith) }

module _ (f : ℕ → Bool) (n k : ℕ) (s : SearchFrom f n k) where
  -- at least one number is left
  some : k < n → lowest f (n - k) k ≡ lowest f (suc (n - (k + 1))) k
  some h = ap (λ (m : ℕ). lowest f m k) (omega arith)

  -- the test fails at k: the search goes on
  pub search_next : k < n → f k ≡ false → SearchFrom f n (k + 1)
  search_next h e =
      record {
        most = omega arith;
        same = s.same ∙ some h ∙ lowest_skip f (n - (k + 1)) k e ∙ ap (λ (j : ℕ). lowest f (n - (k + 1)) j) (sym (add-one k));
      }

  -- it holds at k
  pub search_found : k < n → f k ≡ true → lowest f n 0 ≡ k
  search_found h e = s.same ∙ some h ∙ lowest_found f (n - (k + 1)) k e

  -- no number is left
  pub search_none : n ≤ k → lowest f n 0 ≡ k
  unfolding lowest
  search_none h =
      let nothing : n - k ≡ 0 = omega arith in
      s.same ∙ ap (λ (m : ℕ). lowest f m k) nothing

  -- what the search found, in the two cases
  pub search_some : k < n → f k ≡ true → found n (lowest f n 0) ≡ Some k
  search_some h e = rw (search_found h e, lt-ltb k n h)

  pub search_empty : n ≤ k → found n (lowest f n 0) ≡ None
  search_empty h = rw (search_none h, le-ltb k n h)

-- what a search found is its place, and below n; where it found nothing, its answer is not below n
pub found_is : (n k place : ℕ) → found n k ≡ Some place → (k ≡ place) × (place < n)
found_is n k place e = go (ltb k n) (ltb-true k n) e
  where
    go : (t : Bool) → (t ≡ true → k < n) → ◌≡◌ {A = Option ℕ} (cond t (Some k) None) (Some place) → (k ≡ place) × (place < n)
    go true h e = let same : k ≡ place = cc in (same, omega (arith, h refl))
    go false h e = absurd (cc)

pub found_not : (n k : ℕ) → found n k ≡ None → n ≤ k
found_not n k e = go (ltb k n) (ltb-false k n) e
  where
    go : (t : Bool) → (t ≡ false → n ≤ k) → ◌≡◌ {A = Option ℕ} (cond t (Some k) None) None → n ≤ k
    go true h e = absurd (cc)
    go false h e = h refl

-- a search that starts at k, where the test fails at every number before
pub search_at : (f : ℕ → Bool) (n k : ℕ) → k ≤ n → ((i : ℕ) → i < k → f i ≡ false) → SearchFrom f n k
search_at f n zero h none = search_start f n
search_at f n (suc k) h none =
    let before_it = search_at f n k (omega arith) (λ i g. none i (omega arith)) in
    subst (SearchFrom f n) (add-one k) (search_next f n k before_it h (none k (omega arith)))

-- The search through a list for the first number that passes is the library's `position`.
pub search_list : (f : ℕ → Bool) (xs : List ℕ) → found (length xs) (lowest (λ i. f (get_or xs i 0)) (length xs) 0) ≡ position f xs
search_list f xs =
    let test : ℕ → Bool = λ i. f (get_or xs i 0) in
    let n : ℕ = length xs in
    ap (found n)
    (sym (position_or_len_is f xs (lowest test n 0) 0 (omega (arith, lowest_to test n 0))
    (λ k h. lowest_before test n 0 k (omega arith) h) (λ h. lowest_holds test n 0 (omega arith))))
