-- `codeword::place_message` meets its contract. The invariant: m of the first j columns are message columns, and the first j columns hold
-- what they are to hold, the net bits in turn, and 0 in spare and check columns. Assumes nothing.
use Prim.Native.Nat.{◌≤◌}
use Rattle.codeword.proofs.Placing.{PlacedTo}
use Rattle.codeword.proofs.place_message.Given as goal

abbrev pub invariant-loop-j : goal.invariant-loop-j
invariant-loop-j l = (l.m ≤ l.j) × PlacedTo l.a l.initial.work l.work l.j l.m
