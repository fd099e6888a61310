use mathlib.Core.Path.{◌≡◌, ap}
use mathlib.Core.Bool.{Bool, true, false, ◌&&◌}
use borrow.Author.Rules.{rules}
use Rattle.std.proofs.lemmas.Iterator.{first_from_Range}
use Rattle.dense.specs.Dense.{dense_bits}
use Rattle.elimination.specs.Reduced.{is_free}
use Rattle.elimination.proofs.Rows.{first_row}
use Rattle.elimination.proofs.find_row.Goals as goal

pub returns : goal.returns
returns c =
    let a = c.args in
    first_row a.a (is_free a.a a.work.now a.j) a.from
    (λ i h. ap (λ (b : Bool). b && dense_bits a.work.now a.a.stride i a.j) (c.requires.2 i h)) c.find.result
    (first_from_Range _ _ _ _ (λ i. is_free a.a a.work.now a.j i ≡ true) (λ i. is_free a.a a.work.now a.j i ≡ false) c.find.ensures.ran
    (λ x q d. search rules) (λ x q d. search rules))
