-- `draws::temper` meets its contract: the code is the definition, step by step. Assumes nothing.
use Rattle.std.proofs.Common.{refl}
use Rattle.symbology.specs.Generator.{temper}
use Rattle.draws.proofs.temper.Goals as goal

pub returns : goal.returns
unfolding temper
returns c = refl
