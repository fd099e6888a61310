-- What the verdict of a table of tests tells of the table.
-- Assumes nothing.
use Prim.Native.Nat.{ℕ}
use mathlib.Core.Path.{◌≡◌, refl, sym, ap, ◌∙◌}
use mathlib.Core.Bool.{true}
use mathlib.Core.List.{List, ◌++◌}
use native.Mathlib.Omega.{arith}
use Rattle.symbology.specs.declared.Sizes.{Sizes}
use Rattle.calls.specs.declared.Answer.{Answer}
use Rattle.calls.specs.Answers.{answer}
use Rattle.calls.specs.Tests.{Row, first_of, passes}
use Rattle.call_laws.proofs.Tests.{Each, Numbered, first_append, first_map, first_passed, first_refuses, zero_passes}
use Rattle.std.specs.Prelude.{Result, Ok, Err}
use Rattle.legality.specs.Verdict.{verdict_of, answer_of}

-- its number and place are those of the table
pub answer_of_lem : (rows : List Row) (s : Sizes) → answer_of (verdict_of rows s) ≡ first_of answer rows (answer 0 0)
unfolding verdict_of answer_of
answer_of_lem rows s = first_map (λ (number place : ℕ). Err (answer number place)) answer_of rows (Ok s)

-- a table that passes
pub passed_verdict : (rows : List Row) (s : Sizes) → passes rows ≡ true → verdict_of rows s ≡ Ok s
unfolding verdict_of
passed_verdict rows s e = first_passed (λ (number place : ℕ). Err (answer number place)) rows (Ok s) e

-- two tables, one behind the other, where the first passes
pub behind_passed : (front rest : List Row) (s : Sizes) → passes front ≡ true → verdict_of (front ++ rest) s ≡ verdict_of rest s
unfolding verdict_of
behind_passed front rest s e =
    first_append (λ (number place : ℕ). Err (answer number place)) front rest (Ok s)
    ∙ first_passed (λ (number place : ℕ). Err (answer number place)) front _ e

module _ (rows : List Row) (s : Sizes) (each : Each Numbered rows) {v : Result Sizes Answer} (told : v ≡ verdict_of rows s) where
  -- the verdict is that tests are passed: they are, and the sizes are those given
  module _ {z : Sizes} (e : v ≡ Ok z) where
    pub legal_passes : passes rows ≡ true
    unfolding answer_of
    legal_passes = zero_passes rows each (ap answer_of (sym e ∙ told) ∙ answer_of_lem rows s) refl

    pub passed_sizes : z ≡ s
    passed_sizes = let same : Ok z ≡ Ok s = sym e ∙ told ∙ passed_verdict rows s legal_passes in cc

  -- the verdict is a refusal: it is the table's
  module _ {a : Answer} (e : v ≡ Err a) where
    pub refused_answer : a ≡ first_of answer rows (answer 0 0)
    unfolding answer_of
    refused_answer = ap answer_of (sym e ∙ told) ∙ answer_of_lem rows s

    pub refused_numbered : a.number ≡ 0 → ⊥
    refused_numbered z =
        let pass : v ≡ Ok s = told ∙ passed_verdict rows s (zero_passes rows each refused_answer z) in
        let never : ◌≡◌ {A = ℕ} 0 1 = cc in
        omega arith

    -- and it is given by every table that begins so
    pub refused_front : (rest : List Row) → verdict_of (rows ++ rest) s ≡ v
    unfolding verdict_of
    refused_front rest =
        first_append (λ (number place : ℕ). Err (answer number place)) rows rest (Ok s)
        ∙ first_refuses (λ (number place : ℕ). Err (answer number place)) rows _ a refused_answer refused_numbered
        ∙ sym e
