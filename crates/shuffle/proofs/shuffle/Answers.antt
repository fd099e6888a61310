-- `shuffle::shuffle` meets its contract: the bytes are items of one byte. Assumes nothing.
use mathlib.Core.Path.{◌∙◌}
use Rattle.shuffle.proofs.Bytes.{bytes_permuted}
use Rattle.shuffle.proofs.shuffle.Goals as goal

pub returns : goal.returns
returns c = (c.permute.ensures.0 ∙ bytes_permuted c.args.state c.args.xs.now, c.permute.ensures.1)
