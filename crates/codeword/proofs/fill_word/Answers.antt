-- `codeword::fill_word` meets its contract. Assumes nothing.
use Rattle.lent.proofs.Work.{laid_as}
use Rattle.codeword.proofs.Columns.{rows_end, ends_kept}
use Rattle.codeword.proofs.Solving.{placed_packed, placed_zeros, word_filled}
use Rattle.codeword.proofs.fill_word.Goals as goal

pub solve_checks-requires : goal.solve_checks-requires
solve_checks-requires c =
    let a = c.args.a in
    let pre = c.requires in
    let changed = placed_packed c.place_message.ensures c.pack.ensures in
    let ends = rows_end a pre.1.matrix c.args.work.now pre.1.whole in (
      laid_as pre.0 changed.long,
      ends_kept a c.args.work.now c.pack.new.xs pre.0 changed ends,
      placed_zeros pre.0 c.place_message.ensures c.pack.ensures,
      c.pack.ensures.packed,
    )

pub returns : goal.returns
returns c =
    word_filled c.requires.0 c.requires.2 c.place_message.ensures c.pack.ensures c.solve_checks.ensures
