-- The bits per module, searched from 0 up.
-- Assumes nothing.
use Prim.Native.Nat.{ℕ, ◌+◌, ◌*◌, ◌%◌, ◌^◌, ◌≤◌, ◌<◌}
use mathlib.Core.Path.{◌≡◌, ◌∙◌, sym}
use mathlib.Core.Bool.{Bool}
use native.Mathlib.Omega.{arith}
use lib.Dec.{leb}
use lib.Pow.{pow_mono}
use borrow.Author.Tests.{le-leb, lt-leb}
use Rattle.symbology.specs.Capacity.{bits_per_module}
use Rattle.laws.proofs.Search.{SearchFrom, search_next, search_found, search_none}

-- m bits tell n colours apart
abbrev pub tells : ℕ → ℕ → Bool
tells n m = leb n (2 ^ m)

-- what the code shifts fits
told : (depth : ℕ) → depth < 8 → 1 * 2 ^ depth % 4294967296 ≡ 2 ^ depth
told depth h =
    let most : depth ≤ 7 = omega arith in
    omega (arith, pow_mono most)

-- the search for the bits of n colours has come to `depth`
module _ (n : ℕ) {depth : ℕ} (s : SearchFrom (tells n) 8 depth) where
  pub depth_next : depth < 8 → 1 * 2 ^ depth % 4294967296 < n → SearchFrom (tells n) 8 (depth + 1)
  depth_next h few = search_next (tells n) 8 depth s h (lt-leb n (2 ^ depth) (omega (arith, told depth h)))

  pub depth_found : depth < 8 → n ≤ 1 * 2 ^ depth % 4294967296 → depth ≡ bits_per_module n
  unfolding bits_per_module
  depth_found h enough = sym (search_found (tells n) 8 depth s h (le-leb n (2 ^ depth) (omega (arith, told depth h))))

  pub depth_none : 8 ≤ depth → 8 ≡ bits_per_module n
  unfolding bits_per_module
  depth_none h =
      let last : 8 ≡ depth = omega (arith, s.most) in
      last ∙ sym (search_none (tells n) 8 depth s h)
