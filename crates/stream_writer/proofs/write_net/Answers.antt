-- `stream_writer::write_net` meets its contract: the stream, the 1 behind it and the zeros behind that are the net bits. Assumes nothing.
use Rattle.symbology.specs.Stream.{stream_of}
use Rattle.stream_writer.proofs.Net.{net_stored}
use Rattle.stream_writer.proofs.write_net.Goals as goal

pub returns : goal.returns
returns c = net_stored (stream_of c.args.message.now) c.requires c.write_stream-end.ensures (c.fill.ensures.after (λ y e. e))
