-- `symbol_reader::read_legal` meets its contract: what is read before the buffer is cleared, and the buffer cleared. Assumes nothing.
use mathlib.Core.Path.{sym, ◌∙◌}
use lib.ListN.{length}
use Rattle.call_laws.proofs.Answers.{work_cleared}
use Rattle.call_laws.proofs.Mending.{reads_are}
use Rattle.lent.proofs.Clearing.{cleared_whole}
use Rattle.symbol_reader.proofs.read_legal.Goals as goal

pub returns : goal.returns
returns c =
    let r = c.read_uncleared-answer in
    let a = c.args in
    reads_are a.p a.list.now a.matrix.now a.work.now a.message.now a.places.now r.ensures.answered.answer_is
    r.ensures.answered.message_is r.ensures.places_are
    (cleared_whole r.new.work c.clear.new.xs r.auto.work c.clear.ensures
    ∙ sym (work_cleared a.p a.list.now a.work.now (length a.matrix.now) c.requires.0))
