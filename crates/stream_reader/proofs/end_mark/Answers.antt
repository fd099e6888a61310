-- `stream_reader::end_mark` meets its contract: what is found from the end is 1, and nothing behind it is. Assumes nothing.
use Rattle.std.proofs.Common.{rules}
use Rattle.stream_reader.proofs.Net.{marked_at}
use Rattle.stream_reader.proofs.end_mark.Goals as goal

pub returns : goal.returns
returns c = marked_at c.args.net.now c.rposition.result (search rules)
