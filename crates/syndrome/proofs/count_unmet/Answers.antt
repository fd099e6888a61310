-- `syndrome::count_unmet` meets its contract: the marks that are 1 are counted. Assumes nothing.
use Rattle.std.proofs.Common.{◌≡◌, ◌∙◌, nat_eq, count_by, rules}
use Rattle.lent.specs.Buffer.{part}
use Rattle.syndrome.proofs.Marks.{ones_are}
use Rattle.syndrome.proofs.count_unmet.Goals as goal

pub returns : goal.returns
returns c =
    let a = c.args.a in
    let work = c.args.work.now in
    let counted : c.count.result ≡ count_by (λ x. nat_eq x 1) (part work a.marks a.checks) = search rules in
    counted ∙ ones_are a work c.requires.1 c.requires.0
