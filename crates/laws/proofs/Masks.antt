-- Masks: masking twice is the identity, and a masked colour index stays below the number of colours.
-- Assumes nothing.
use Prim.Native.Nat.{ℕ, zero, suc, ◌/◌, ◌%◌, ◌^◌, ◌<◌}
use mathlib.Core.Path.{◌≡◌, refl, ◌∙◌}
use mathlib.Core.Bool.{true}
use native.Mathlib.Nat.{mod-lt}
use native.Mathlib.Omega.{arith}
use lib.Arith.{bin_ind}
use lib.Bits.{bit_xor, differ, xor_step, xor_lt, xor_self}
use lib.ListN.{get_or}
use Rattle.symbology.specs.declared.Params.{Params}
use Rattle.symbology.specs.Parameters.{in_range}
use Rattle.symbology.specs.Capacity.{bits_per_module}
use Rattle.symbology.specs.Placement.{mask_generators, mask_at}
use Rattle.laws.proofs.Parameters.{ranges, depth_power}

-- ---- two digits

digit : (n : ℕ) → n % 2 < 2
digit n = omega arith

differ_small : (x y : ℕ) → x < 2 → y < 2 → differ x y < 2
differ_small zero y h k = k
differ_small (suc x) zero h k = h
differ_small (suc zero) (suc y) h k = omega arith
differ_small (suc (suc x)) (suc y) h k = absurd (omega arith)

differ_twice : (x y : ℕ) → x < 2 → y < 2 → differ (differ x y) y ≡ x
differ_twice zero zero h k = refl
differ_twice zero (suc zero) h k = refl
differ_twice zero (suc (suc y)) h k = absurd (omega arith)
differ_twice (suc zero) zero h k = refl
differ_twice (suc zero) (suc zero) h k = refl
differ_twice (suc zero) (suc (suc y)) h k = absurd (omega arith)
differ_twice (suc (suc x)) y h k = absurd (omega arith)

-- ---- masking

xor_half : (v w : ℕ) → bit_xor v w / 2 ≡ bit_xor (v / 2) (w / 2)
xor_half v w = omega (arith, xor_step v w, differ_small (v % 2) (w % 2) (digit v) (digit w))

-- The lowest digit of two numbers exclusive-ored is 1 where theirs differ.
pub xor_digit : (v w : ℕ) → bit_xor v w % 2 ≡ differ (v % 2) (w % 2)
xor_digit v w = omega (arith, xor_step v w, differ_small (v % 2) (w % 2) (digit v) (digit w))

-- A number exclusive-ored twice with another is itself.
pub mask_twice : (v w : ℕ) → bit_xor (bit_xor v w) w ≡ v
mask_twice = bin_ind (λ (v : ℕ). (w : ℕ) → bit_xor (bit_xor v w) w ≡ v) xor_self step
  where
    step : (v : ℕ) → ((w : ℕ) → bit_xor (bit_xor (v / 2) w) w ≡ v / 2) → (w : ℕ) → bit_xor (bit_xor v w) w ≡ v
    step v half w =
        xor_step (bit_xor v w) w
        ∙ rw (xor_half v w, xor_digit v w, half (w / 2), differ_twice (v % 2) (w % 2) (digit v) (digit w)) (omega arith)

-- Masking a module twice gives its colour index back, for every mask.
pub masked_twice : (p : Params) (c r v : ℕ) → bit_xor (bit_xor v (mask_at p.mask p.colours c r)) (mask_at p.mask p.colours c r) ≡ v
masked_twice p c r v = mask_twice v (mask_at p.mask p.colours c r)

-- A mask pattern holds colour indices only.
pub mask_below : (mask colours c r : ℕ) → 0 < colours → mask_at mask colours c r < colours
unfolding mask_at
mask_below mask colours c r h = mod-lt (get_or (mask_generators c r) mask 0) h

-- A masked colour index is a colour index.
pub masked_below : (p : Params) (c r v : ℕ) → in_range p ≡ true → v < p.colours → bit_xor v (mask_at p.mask p.colours c r) < p.colours
masked_below p c r v e h =
    let power : p.colours ≡ 2 ^ bits_per_module p.colours = depth_power p.colours (ranges p e).colours_are in
    let mask : mask_at p.mask p.colours c r < p.colours = mask_below p.mask p.colours c r (omega arith) in
    omega (arith, xor_lt (bits_per_module p.colours) v (mask_at p.mask p.colours c r) (omega arith) (omega arith))
