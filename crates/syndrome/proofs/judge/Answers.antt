-- `syndrome::judge` meets its contract: the word is staged, its checks are marked, and the marks counted. Assumes nothing.
use Rattle.syndrome.proofs.Marks.{judged}
use Rattle.syndrome.proofs.judge.Goals as goal

pub returns : goal.returns
returns c =
    judged c.requires c.stage_word.ensures c.set_marks.ensures c.count_unmet.ensures
