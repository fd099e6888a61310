-- `teaching::fill_masked` meets its contract, by that of `layout::fill` and the law of masking twice. Assumes nothing.
use Rattle.teaching.proofs.Filling.{masked_again}
use Rattle.teaching.proofs.fill_masked.Goals as goal

pub returns : goal.returns
returns c =
    let a = c.args in
    masked_again a.p a.list.now a.bits.now c.fill.ensures
