-- `checks::unmet_of` meets its contract: the parity of the row and the staged word. Assumes nothing.
use mathlib.Core.Path.{◌∙◌}
use Rattle.checks.proofs.Checks.{staged_unmet}
use Rattle.checks.proofs.unmet_of.Goals as goal

pub returns : goal.returns
returns c =
    c.parity.ensures ∙ staged_unmet c.args.work.now c.requires.0 c.requires.2 c.args.i
