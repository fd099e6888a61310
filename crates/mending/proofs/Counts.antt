-- The checks that a bit stands in, counted by their marks from one to the next.
-- Assumes nothing.
use Prim.Native.Nat.{ℕ, zero, suc, ◌+◌, ◌-◌, ◌≤◌, ◌<◌}
use mathlib.Core.Path.{◌≡◌, refl, sym, ap₂, ◌∙◌}
use mathlib.Core.Bool.{Bool, false, cond}
use mathlib.Core.List.{List, [], ◌∷◌, ◌++◌}
use native.Mathlib.Decide.{ℕ_discrete}
use native.Mathlib.Numerals.{add-one}
use native.Mathlib.Omega.{arith}
use Rattle.symbology.specs.Ranges.{tabulate, those, has}
use Rattle.symbology.specs.Matrix.{check_of, checks_of}
use Rattle.symbology.specs.Rule.{unmet, unmet_at, met_at}
use Rattle.laws.proofs.Ranges.{has_those}
use Rattle.lent.specs.declared.Areas.{Areas}
use Rattle.lent.specs.Work.{word_in}
use Rattle.checks.specs.Checks.{stands_in, checks_in, InNoCheck, NextCheck}
use Rattle.checks.specs.Votes.{number_of}
use Rattle.syndrome.specs.Syndrome.{mark_of, Marked}
use Rattle.balances.specs.Balances.{count_with, unmet_with, met_with, Balanced}

-- ---- from check to check, as a loop counts them

-- Checks that the bit does not stand in count for nothing.
count_skip : (f : ℕ → ℕ) (a : Areas) (work : List ℕ) (j q i : ℕ) → q ≤ i → ((p : ℕ) → q ≤ p → p < i → stands_in a work p j ≡ false)
    → count_with f a work j i ≡ count_with f a work j q
unfolding count_with
count_skip f a work j q zero h none = let e : q ≡ 0 = omega arith in rw e refl
count_skip f a work j q (suc i) h none =
    elim (ℕ_discrete q (suc i)) [
      | yes e ↦ rw e refl
      | no e ↦
          rw (none i (omega arith) (omega arith))
          (omega (arith, count_skip f a work j q i (omega arith) (λ p l m. none p l (omega arith))))
    ]

-- The checks before `from` are passed, of which bit j stands in so many unmet and met ones.
pub record Passed (a : Areas) (work : List ℕ) (j unmet_so_far met_so_far from : ℕ) : Type 0 where
  pub most : from ≤ a.checks
  pub few : unmet_so_far + met_so_far ≤ from
  pub unmet_is : unmet_so_far ≡ unmet_with a work j from
  pub met_is : met_so_far ≡ met_with a work j from

-- no check is passed
pub passed_start : (a : Areas) (work : List ℕ) (j : ℕ) → Passed a work j 0 0 0
unfolding count_with
passed_start a work j = record { most = omega arith; few = omega arith; unmet_is = refl; met_is = refl }

module _ {a : Areas} {work : List ℕ} {j unmet_so_far met_so_far from : ℕ} (s : Passed a work j unmet_so_far met_so_far from) where
  -- check i, the next that the bit stands in, is counted by its mark
  pub passed_next : {u m i : ℕ} → NextCheck a work j from i → mark_of a work i ≤ 1 → u ≡ unmet_so_far + mark_of a work i
      → m ≡ met_so_far + (1 - mark_of a work i) → Passed a work j u m (i + 1)
  unfolding count_with
  passed_next {i = i} n b p q =
      let counted : (f : ℕ → ℕ) → count_with f a work j (i + 1) ≡ count_with f a work j from + f (mark_of a work i) = λ f.
      rw (add-one i, n.there) (omega (arith, count_skip f a work j from i n.least n.none_before)) in
      record {
        most = omega (arith, n.inside);
        few = omega (arith, s.few, n.least);
        unmet_is = omega (arith, s.unmet_is, counted (λ x. x));
        met_is = omega (arith, s.met_is, counted (λ x. 1 - x));
      }

  -- the bit stands in no more checks: these are its counts over all
  pub passed_all : InNoCheck a work j from a.checks
      → (unmet_so_far ≡ unmet_with a work j a.checks) × (met_so_far ≡ met_with a work j a.checks)
  passed_all none = (
    s.unmet_is ∙ sym (count_skip (λ x. x) a work j from a.checks s.most none),
    s.met_is ∙ sym (count_skip (λ x. 1 - x) a work j from a.checks s.most none),
  )

-- ---- the counts are those of the rule

unmet_at_snoc : (cs : List (List ℕ)) (c w : List ℕ) (j : ℕ) → unmet_at (cs ++ (c ∷ [])) w j ≡ unmet_at cs w j + cond (has j c) (unmet c w) 0
unfolding unmet_at
unmet_at_snoc [] c w j = omega arith
unmet_at_snoc (x ∷ cs) c w j = omega (arith, unmet_at_snoc cs c w j)

met_at_snoc : (cs : List (List ℕ)) (c w : List ℕ) (j : ℕ) → met_at (cs ++ (c ∷ [])) w j ≡ met_at cs w j + cond (has j c) (1 - unmet c w) 0
unfolding met_at
met_at_snoc [] c w j = omega arith
met_at_snoc (x ∷ cs) c w j = omega (arith, met_at_snoc cs c w j)

module _ (a : Areas) (work : List ℕ) (marked : Marked a work) where
  module _ (j : ℕ) (inside : j < a.gross) where
    unmet_to : (i : ℕ) → i ≤ a.checks → unmet_with a work j i ≡ unmet_at (checks_of i a.gross (stands_in a work)) (word_in a work) j
    unfolding count_with checks_of check_of tabulate unmet_at
    unmet_to zero h = refl
    unmet_to (suc i) h =
        let c : List ℕ = those a.gross (stands_in a work i) in
        let cs : List (List ℕ) = tabulate i (check_of a.gross (stands_in a work)) in
        ap₂ ◌+◌ (unmet_to i (omega arith))
        (ap₂ (λ (t : Bool) (x : ℕ). cond t x 0) (sym (has_those (stands_in a work i) a.gross j inside)) (marked i (omega arith)))
        ∙ sym (unmet_at_snoc cs c (word_in a work) j)

    met_to : (i : ℕ) → i ≤ a.checks → met_with a work j i ≡ met_at (checks_of i a.gross (stands_in a work)) (word_in a work) j
    unfolding count_with checks_of check_of tabulate met_at
    met_to zero h = refl
    met_to (suc i) h =
        let c : List ℕ = those a.gross (stands_in a work i) in
        let cs : List (List ℕ) = tabulate i (check_of a.gross (stands_in a work)) in
        ap₂ ◌+◌ (met_to i (omega arith))
        (ap₂ (λ (t : Bool) (x : ℕ). cond t (1 - x) 0) (sym (has_those (stands_in a work i) a.gross j inside)) (marked i (omega arith)))
        ∙ sym (met_at_snoc cs c (word_in a work) j)

    -- A bit whose balance is no more than the number of checks is not suspect.
    pub balance_unsuspected : Balanced a work → number_of a work j ≤ a.checks
        → unmet_at (checks_in a work) (word_in a work) j ≤ met_at (checks_in a work) (word_in a work) j
    balance_unsuspected b l =
        omega (arith, b j inside, unmet_to a.checks (omega arith), met_to a.checks (omega arith))

    -- All checks of the bit are passed: the counts are those of the rule.
    pub passed_counts : {unmet_so_far met_so_far from : ℕ} → Passed a work j unmet_so_far met_so_far from → InNoCheck a work j from a.checks
        → (unmet_so_far ≡ unmet_at (checks_in a work) (word_in a work) j) × (met_so_far ≡ met_at (checks_in a work) (word_in a work) j)
    passed_counts s none =
        let counts = passed_all s none in
        (counts.0 ∙ unmet_to a.checks (omega arith), counts.1 ∙ met_to a.checks (omega arith))
