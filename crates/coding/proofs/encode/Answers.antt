-- `coding::encode` meets its contract: the rows are eliminated, and then the word is filled. Assumes nothing.
use Rattle.coding.proofs.Stages.{fill_fits, encoded}
use Rattle.coding.proofs.encode.Goals as goal

pub fill_word-requires : goal.fill_word-requires
fill_word-requires c =
    let pre = c.requires in
    fill_fits pre.0 c.eliminate.ensures pre.1

pub returns : goal.returns
returns c =
    let pre = c.requires in
    encoded pre.0 c.eliminate.ensures c.fill_word.ensures
