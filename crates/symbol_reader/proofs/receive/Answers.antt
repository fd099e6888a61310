-- `symbol_reader::receive` meets its contract. Assumes nothing.
use Prim.Native.Nat.{ℕ}
use mathlib.Core.Path.{ap, ◌∙◌}
use mathlib.Core.List.{List}
use Rattle.symbology.specs.Shuffle.{unshuffled, interleaving_seed}
use Rattle.symbology.specs.Symbol.{received_bits}
use Rattle.symbol_reader.proofs.receive.Goals as goal

pub returns : goal.returns
unfolding received_bits
returns c =
    c.unshuffle.ensures
    ∙ ap (λ (bits : List ℕ). unshuffled 0 interleaving_seed bits) c.sample.ensures
