-- `shuffle::shuffle_numbers` meets its contract: the numbers are items of two bytes. Assumes nothing.
use Rattle.shuffle.proofs.Numbers.{numbers_permuted}
use Rattle.shuffle.proofs.shuffle_numbers.Goals as goal

pub returns : goal.returns
returns c =
    let a = c.args in
    (rw c.permute.ensures.0 (numbers_permuted a.xs.now a.at a.n a.state c.requires.0 c.requires.1), c.permute.ensures.1)
