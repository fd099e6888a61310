-- `checks::vote` meets its contract. The invariant: the numbers of the bits before those of byte b, and in the loop over its bits of those
-- before bit j, are voted on, where they stand in check i, and all else is as it was. Assumes nothing.
use Rattle.std.proofs.Common.{◌*◌}
use Rattle.checks.proofs.Votes.{VotedTo}
use Rattle.checks.proofs.vote.Given as goal

abbrev pub invariant-loop-b : goal.invariant-loop-b
invariant-loop-b l = VotedTo l.a.gross l.a.stride l.a.numbers l.i l.add l.sub (8 * l.b) l.initial.work l.work

abbrev pub invariant-loop-j : goal.invariant-loop-j
invariant-loop-j l = VotedTo l.a.gross l.a.stride l.a.numbers l.i l.add l.sub l.j l.fn.work l.work
