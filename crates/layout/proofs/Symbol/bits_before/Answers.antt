-- `Symbol::bits_before` meets its contract. Assumes nothing.
use Prim.Native.Nat.{ℕ, ◌*◌}
use mathlib.Core.Path.{◌∙◌, ap}
use native.Mathlib.Nat.{mul_comm}
use native.Mathlib.Omega.{arith}
use Rattle.symbology.specs.declared.Bits.{Bits}
use Rattle.symbology.specs.Capacity.{bits_per_module, as_bits}
use Rattle.laws.proofs.Parameters.{ranges, depth_some}
use Rattle.layout.proofs.Symbol.bits_before.Goals as goal

pub as_bits-requires : goal.as_bits-requires
as_bits-requires c =
    let s = c.args.self.now in
    let some = depth_some s.patterns.params.colours (ranges s.patterns.params s.inside_range).colours_are in
    (c.requires, omega (arith, c.bits_per_module-depth.ensures, some))

pub returns : goal.returns
unfolding as_bits
returns c =
    let a = c.args in
    ap (λ (b : Bits). b.0) c.as_bits.ensures
    ∙ ap (λ (n : ℕ). a.k * n) c.bits_per_module-depth.ensures
    ∙ mul_comm a.k (bits_per_module a.self.now.patterns.params.colours)
