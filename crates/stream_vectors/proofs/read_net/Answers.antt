-- `stream_vectors::read_net` meets its contract: the message that is read is never longer than its buffer. Assumes nothing.
use Rattle.std.proofs.Common.{length, ap, arith}
use Rattle.calls.specs.Answers.{StreamAnswer}
use Rattle.call_laws.proofs.Stages.{stream_length_fits}
use Rattle.stream_vectors.proofs.read_net.Goals as goal

pub returns-in-Ok : goal.returns-in-Ok
returns-in-Ok c =
    let length_is = ap (λ (a : StreamAnswer). a.length) c.in-Ok.ensures.answer_is in
    omega (arith, length_is, stream_length_fits c.args.net.now (length c.args.message.now))
