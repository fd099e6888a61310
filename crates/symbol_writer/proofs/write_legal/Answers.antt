-- `symbol_writer::write_legal` meets its contract: what is written before the buffer is cleared, and the buffer cleared. Assumes nothing.
use mathlib.Core.Path.{sym, ◌∙◌}
use lib.ListN.{length}
use Rattle.call_laws.proofs.Answers.{work_cleared}
use Rattle.lent.proofs.Clearing.{cleared_whole}
use Rattle.symbol_writer.proofs.write_legal.Goals as goal

pub returns : goal.returns
returns c =
    let w = c.write_uncleared-written in
    let a = c.args in
    record {
      answer_is = w.ensures.answer_is;
      matrix_is = w.ensures.matrix_is;
      work_is =
          cleared_whole w.new.work c.clear.new.xs w.auto.work c.clear.ensures
          ∙ sym (work_cleared a.p a.list.now a.work.now (length a.matrix.now) c.requires.0);
    }
