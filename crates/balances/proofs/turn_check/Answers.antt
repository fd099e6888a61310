-- `balances::turn_check` meets its contract: the check votes on its bits after its mark is turned. Assumes nothing.
use lib.ListN.{length-set}
use Rattle.lent.proofs.Work.{laid_as}
use Rattle.balances.proofs.Balances.{turned_votes, check_turned}
use Rattle.balances.proofs.turn_check.Goals as goal

pub vote-requires : goal.vote-requires
vote-requires c =
    let pre = c.requires in
    let votes = turned_votes c.args.work.now pre.0 pre.1 pre.2 pre.3 in
    (laid_as pre.0 (simp length-set), pre.3, rw c.from-unmet.ensures votes)

pub returns : goal.returns
returns c =
    let pre = c.requires in
    check_turned c.args.work.now pre.0 pre.1 pre.2 pre.3 (rw c.from-unmet.ensures at c.vote.ensures)
