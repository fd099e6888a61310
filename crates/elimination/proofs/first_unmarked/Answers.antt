use mathlib.Core.Path.{◌≡◌}
use mathlib.Core.Bool.{true, false}
use borrow.Author.Rules.{rules}
use Rattle.std.proofs.lemmas.Iterator.{first_from_Range}
use Rattle.elimination.specs.Reduced.{is_unmarked}
use Rattle.elimination.proofs.Rows.{first_row}
use Rattle.elimination.proofs.first_unmarked.Goals as goal

pub returns : goal.returns
returns c =
    let a = c.args in
    first_row a.a (is_unmarked a.a a.work.now) a.from c.requires.2 c.find.result
    (first_from_Range _ _ _ _ (λ i. is_unmarked a.a a.work.now i ≡ true) (λ i. is_unmarked a.a a.work.now i ≡ false) c.find.ensures.ran
    (λ x q d. search rules) (λ x q d. search rules))
