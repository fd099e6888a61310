-- `lister::push_cores_line` meets its contract. The invariant: behind the first core stand those passed, a space before each, and each
-- took at most four bytes. Assumes nothing.
use Prim.Native.Nat.{◌+◌, ◌*◌, ◌≤◌}
use mathlib.Core.Path.{◌≡◌}
use mathlib.Core.List.{◌++◌}
use lib.ListN.{length, take}
use Rattle.lister.specs.Listing.{cores_after}
use Rattle.lister.proofs.push_cores_line.Given as goal

abbrev pub invariant-loop-core : goal.invariant-loop-core
invariant-loop-core l =
    record {
      bytes : l.text.bytes ≡ l.initial.text.bytes ++ cores_after (take l.core-index l.others);
      short : length l.text.bytes ≤ length l.initial.text.bytes + 4 * l.core-index;
    }
