-- `conformance::input_buffer` meets its contract, by the law of lengths: to count the zeros takes a gigabyte. Assumes nothing.
use Prim.Native.Nat.{ℕ}
use mathlib.Core.Path.{sym}
use lib.ListN.{length-replicate}
use Rattle.conformance.proofs.input_buffer.Goals as goal

pub returns : goal.returns
returns c = sym (length-replicate {A = ℕ} 655360 0)
