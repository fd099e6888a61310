-- `checks::next_check` meets its contract: what `find` answers over the numbers of the checks. Assumes nothing.
use Rattle.std.proofs.Common.{◌≡◌, ℕ, true, false, None, Some, Option, MatchOption, rules, tests}
use Rattle.std.proofs.lemmas.Iterator.{first_from_Range}
use Rattle.checks.specs.Checks.{stands_in, InNoCheck, NextCheck}
use Rattle.checks.proofs.Checks.{next_lowest}
use Rattle.checks.proofs.next_check.Goals as goal

-- the fact of a number found, in other words
some_as : (o : Option ℕ) (P : Type 0) (Q R : ℕ → Type 0) → ((i : ℕ) → Q i → R i) → MatchOption o P Q → MatchOption o P R
some_as None P Q R f h = h
some_as (Some i) P Q R f h = f i h

pub returns : goal.returns
unfolding stands_in
returns c =
    let a = c.args.a in
    let work = c.args.work.now in
    let j = c.args.j in
    let none = InNoCheck a work j c.args.from a.checks in
    let next = NextCheck a work j c.args.from in
    let first : MatchOption c.find.result none next =
    some_as c.find.result none _ next (λ i f. record { least = f.0; inside = f.1; there = f.2; none_before = f.3 })
    (first_from_Range _ _ _ _ (λ i. stands_in a work i j ≡ true) (λ i. stands_in a work i j ≡ false) c.find.ensures.ran
    (λ x q k. search (rules, tests)) (λ x q k. search (rules, tests))) in
    record { value = next_lowest a work j c.args.from c.find.result c.requires.2 first; first = first }
