-- `codeword::read_message` meets its contract. The invariant: m of the first j columns are message columns, their first bits are stored
-- as net bits, and `spare` tells whether one of the bits behind these is 1. Assumes nothing.
use Prim.Native.Nat.{◌≤◌}
use Rattle.codeword.proofs.Gathering.{GatheredTo}
use Rattle.codeword.proofs.read_message.Given as goal

abbrev pub invariant-loop-j : goal.invariant-loop-j
invariant-loop-j l = (l.m ≤ l.j) × GatheredTo l.a l.initial.work l.work l.j l.m l.spare
