-- `symbol_writer::store_net` meets its contract. Assumes nothing.
use Rattle.symbology.specs.Stream.{stream_of}
use Rattle.symbol_writer.proofs.Writing.{net_stored}
use Rattle.symbol_writer.proofs.store_net.Goals as goal

pub returns : goal.returns
returns c =
    net_stored (stream_of c.args.message.now) c.requires.0 c.requires.1 c.write_net.ensures
