-- `label_codec::put_palette` is safe. The invariant: no more entries are added, and no more columns passed, than colours are passed.
-- Assumes nothing.
use Rattle.std.proofs.Common.{◌+◌, ◌*◌, ◌≤◌}
use Rattle.arrayvec.specs.ArrayVec.{array_vec_len}
use Rattle.label_codec.proofs.put_palette.Given as goal

abbrev pub invariant-loop-colour : goal.invariant-loop-colour
invariant-loop-colour l = (array_vec_len l.list ≤ array_vec_len l.initial.list + 3 * l.colour) × (l.column ≤ l.x + l.colour)
