-- `dense::parity` meets its contract. Assumes nothing.
use Prim.Native.Nat.{◌*◌}
use mathlib.Core.Path.{◌≡◌, ap, ◌∙◌}
use lib.Bits.{bit_and, bit_xor}
use Rattle.std.specs.Prelude.{fold, zip}
use Rattle.std.proofs.Common.{rules}
use Rattle.std.proofs.lemmas.Iterator.{YieldsList-from_slice, YieldsList-from_zip}
use Rattle.std.proofs.lemmas.Iterator.Consumers.{fold_from_yields_List}
use Rattle.symbology.specs.Ranges.{tally}
use Rattle.lent.specs.Buffer.{part}
use Rattle.lent.proofs.Buffer.{part_lent}
use Rattle.dense.proofs.Dense.{parity_rows}
use Rattle.dense.proofs.parity.Goals as goal

pub returns : goal.returns
returns c =
    let a = c.args in
    let xs = a.xs.now in
    let s = a.stride in
    let row = part xs (a.i * s) s in
    let word = part xs (a.k * s) s in
    let common : c.fold-common.result ≡ fold (λ z p. bit_xor z (bit_and p.0 p.1)) 0 (zip row word) =
    fold_from_yields_List _ (λ z p. bit_xor z (bit_and p.0 p.1)) 0 _ c.fold-common.ensures.ran
    (YieldsList-from_zip (YieldsList-from_slice row (cc (part_lent xs (a.i * s) s)))
    (YieldsList-from_slice word (cc (part_lent xs (a.k * s) s))))
    (λ z p y q d. search rules) in
    c.odd_ones.ensures ∙ ap tally (rw common (parity_rows s a.i a.k xs c.requires.0 c.requires.1))
