-- `coding::take_message` meets its contract: the rows are eliminated, and then the message is read. Assumes nothing.
use Rattle.coding.proofs.Stages.{taken}
use Rattle.coding.proofs.take_message.Goals as goal

pub returns : goal.returns
returns c =
    taken c.requires c.eliminate.ensures c.read_message.ensures
