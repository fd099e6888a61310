-- The mask generators' products, and the bound of a mask's colour index.
-- Assumes nothing.
use Prim.Native.Nat.{ℕ, ◌*◌, ◌≤◌, ◌<◌}
use mathlib.Core.Path.{◌≡◌}
use mathlib.Core.Bool.{true}
use native.Mathlib.Nat.{mul-le-mul}
use native.Mathlib.Omega.{arith}
use Rattle.symbology.specs.declared.Params.{Params}
use Rattle.symbology.specs.Parameters.{in_range}
use Rattle.symbology.specs.Placement.{mask_at}
use Rattle.laws.proofs.Parameters.{some_colours}
use Rattle.laws.proofs.Masks.{mask_below}

-- products of numbers of one byte
pub two_factors : (a b : ℕ) → a < 256 → b < 256 → a * b < 65536
two_factors a b h k =
    let most : a * b ≤ 255 * 255 = mul-le-mul {n₂ = 255} {m₂ = 255} (omega arith) (omega arith) in
    omega arith

pub three_factors : (a b c : ℕ) → a < 256 → b < 256 → c < 256 → a * b * c < 16777216
three_factors a b c h k l =
    let most : a * b * c ≤ 65535 * 255 = mul-le-mul {n₂ = 65535} {m₂ = 255} (omega (arith, two_factors a b h k)) (omega arith) in
    omega arith

-- a mask's colour index is a byte
pub mask_byte : (p : Params) (c r : ℕ) → in_range p ≡ true → mask_at p.mask p.colours c r < 256
mask_byte p c r e =
    let some : (0 < p.colours) × (p.colours ≤ 8) = some_colours p e in
    omega (arith, mask_below p.mask p.colours c r some.0)
