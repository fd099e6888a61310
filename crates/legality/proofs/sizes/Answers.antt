-- `legality::sizes` meets its contract. Assumes nothing.
use mathlib.Core.Path.{◌∙◌}
use Rattle.legality.proofs.Refusals.{sizes_said}
use Rattle.legality.proofs.sizes.Goals as goal

pub returns : goal.returns
returns c =
    let a = c.args in
    c.from.ensures ∙ sizes_said a.p a.list.now c.size_tests.result c.size_tests.ensures
