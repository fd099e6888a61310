-- What the ranges of the parameters say, one fact for each test of `in_range`, and the bits per module: N is 2 to the power of them.
-- Assumes nothing.
use Prim.Native.Nat.{ℕ, ◌^◌, ◌≤◌, ◌<◌}
use mathlib.Core.Path.{◌≡◌, refl}
use mathlib.Core.Bool.{Bool, true, false, not, ◌||◌}
use mathlib.Core.Logic.{◌⊎◌, inl, inr, ⊎_elim}
use native.Mathlib.Omega.{arith}
use lib.Dec.{eqb}
use lib.ListN.{get_or}
use borrow.Author.Tests.{ltb-true, eqb-true, eqb-false, not-true}
use Rattle.symbology.specs.declared.Params.{Params}
use Rattle.symbology.specs.Ranges.{lowest}
use Rattle.symbology.specs.Parameters.{range_tests, in_range}
use Rattle.symbology.specs.Capacity.{bits_per_module}
use Rattle.laws.proofs.Ranges.{at_each, within_high, within_low}

-- the range of each parameter
pub record InRange (p : Params) : Type 0 where
  pub kind_most : p.kind ≤ 1
  pub horizontal_least : 1 ≤ p.horizontal
  pub horizontal_most : p.horizontal ≤ 32
  pub vertical_least : 1 ≤ p.vertical
  pub vertical_most : p.vertical ≤ 32
  pub colours_are : (p.colours ≡ 4) ⊎ (p.colours ≡ 8)
  pub black_below : p.black < p.colours
  pub cyan_below : p.cyan < p.colours
  pub yellow_below : p.yellow < p.colours
  pub black_cyan : p.black ≡ p.cyan → ⊥
  pub black_yellow : p.black ≡ p.yellow → ⊥
  pub cyan_yellow : p.cyan ≡ p.yellow → ⊥
  pub wc_least : 3 ≤ p.wc
  pub wc_most : p.wc ≤ 8
  pub wr_least : 4 ≤ p.wr
  pub wr_most : p.wr ≤ 9
  pub wc_below : p.wc < p.wr
  pub mask_most : p.mask ≤ 7
  pub turn_most : p.turn ≤ 1

either : (n : ℕ) → (eqb n 4 || eqb n 8) ≡ true → (n ≡ 4) ⊎ (n ≡ 8)
either n e = go (eqb n 4) (eqb-true n 4) e
  where
    go : (b : Bool) → (b ≡ true → n ≡ 4) → (b || eqb n 8) ≡ true → (n ≡ 4) ⊎ (n ≡ 8)
    go true f h = inl (f refl)
    go false f h = inr (eqb-true n 8 h)

different : (a b : ℕ) → not (eqb a b) ≡ true → a ≡ b → ⊥
different a b e = eqb-false a b (not-true (eqb a b) e)

-- Parameters that pass test 1 are in their ranges.
pub ranges : (p : Params) → in_range p ≡ true → InRange p
unfolding range_tests in_range
ranges p e =
    let each : (i : ℕ) → get_or (range_tests p) i true ≡ true = at_each (range_tests p) e in
    record {
      kind_most = within_high 0 1 p.kind (each 0);
      horizontal_least = within_low 1 32 p.horizontal (each 1);
      horizontal_most = within_high 1 32 p.horizontal (each 1);
      vertical_least = within_low 1 32 p.vertical (each 2);
      vertical_most = within_high 1 32 p.vertical (each 2);
      colours_are = either p.colours (each 3);
      black_below = ltb-true p.black p.colours (each 4);
      cyan_below = ltb-true p.cyan p.colours (each 5);
      yellow_below = ltb-true p.yellow p.colours (each 6);
      black_cyan = different p.black p.cyan (each 7);
      black_yellow = different p.black p.yellow (each 8);
      cyan_yellow = different p.cyan p.yellow (each 9);
      wc_least = within_low 3 8 p.wc (each 10);
      wc_most = within_high 3 8 p.wc (each 10);
      wr_least = within_low 4 9 p.wr (each 11);
      wr_most = within_high 4 9 p.wr (each 11);
      wc_below = ltb-true p.wc p.wr (each 12);
      mask_most = within_high 0 7 p.mask (each 13);
      turn_most = within_high 0 1 p.turn (each 14);
    }

-- N is 2 to the power of the bits per module: what holds of both colour numbers is proved from this alone.
pub depth_power : (n : ℕ) → (n ≡ 4) ⊎ (n ≡ 8) → n ≡ 2 ^ bits_per_module n
unfolding bits_per_module lowest
depth_power n (inl e) = rw e refl
depth_power n (inr e) = rw e refl

-- a module has 2 or 3 bits
pub depth_some : (n : ℕ) → (n ≡ 4) ⊎ (n ≡ 8) → (1 ≤ bits_per_module n) × (bits_per_module n ≤ 3)
unfolding bits_per_module lowest
depth_some n (inl e) = rw e (omega arith, omega arith)
depth_some n (inr e) = rw e (omega arith, omega arith)

-- N is some number, and at most 8
pub some_colours : (p : Params) → in_range p ≡ true → (0 < p.colours) × (p.colours ≤ 8)
some_colours p e = ⊎_elim (λ h. (omega arith, omega arith)) (λ h. (omega arith, omega arith)) (ranges p e).colours_are
