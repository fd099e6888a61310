-- `program_input::read_full`: what a read gave goes on behind what came before; of known bytes the clauses leave no choice.
use Rattle.std.proofs.Common.{rules}
use Rattle.program_input.proofs.Reading.{goes_on, filled_from}
use Rattle.program_input.proofs.read_full.Goals as goal

pub loop-done-preserved : goal.loop-done-preserved
loop-done-preserved g c = search (rules, goes_on)

pub returns-after-loop-done-clause-known : goal.returns-after-loop-done-clause-known
returns-after-loop-done-clause-known g c = search (rules, filled_from)
