-- `draws::drawn_place` meets its contract. Assumes nothing.
use Rattle.std.proofs.Common.{◌∙◌, arith}
use Rattle.symbology.specs.Shuffle.{drawn_place}
use Rattle.draws.proofs.drawn_place.Goals as goal

pub returns : goal.returns
unfolding drawn_place
returns c = (c.place.ensures.0 ∙ rw c.draw.ensures, omega arith)
