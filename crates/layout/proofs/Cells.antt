-- What a module holds, from the list's entries and the patterns.
-- Assumes nothing.
use Prim.Native.Nat.{ℕ, ◌≤◌, ◌<◌}
use mathlib.Core.Path.{◌≡◌}
use mathlib.Core.Bool.{true}
use mathlib.Core.List.{List}
use native.Mathlib.Omega.{arith}
use borrow.Author.Tests.{lt-ltb, le-ltb}
use Rattle.symbology.specs.declared.Params.{Params}
use Rattle.std.specs.Prelude.{Some, None, Ok}
use Rattle.symbology.specs.declared.PatternColour.{PatternColour}
use Rattle.symbology.specs.Parameters.{in_range}
use Rattle.symbology.specs.Patterns.{pattern_colour}
use Rattle.symbology.specs.Reserved.{entries, entry_colour, first_entry, list_verdict}
use Rattle.symbology.specs.Placement.{colour_index, pattern_cell, cell_of}
use Rattle.laws.proofs.Reserved.{sound_list}
use Rattle.laws.proofs.Parameters.{some_colours}

-- the colour index of an entry of a sound list is a byte
pub entry_byte : (p : Params) (l : List ℕ) → in_range p ≡ true → list_verdict p l ≡ Ok tt → (k : ℕ) → k < entries l → entry_colour l k < 256
entry_byte p l range sound k h = omega (arith, ((sound_list p l sound).entry k h).colour_below, (some_colours p range).1)

module _ (p : Params) (l : List ℕ) (x y k : ℕ) (first : k ≡ first_entry l (entries l) x y) where
  -- an entry names the module
  pub listed_cell : k < entries l → cell_of p l x y ≡ Some (entry_colour l k)
  unfolding cell_of
  listed_cell h = rw (← first, lt-ltb k (entries l) h)

  -- none does, and it is on a pattern
  pub pattern_module : entries l ≤ k → (colour : PatternColour) → pattern_colour p x y ≡ Some colour
      → cell_of p l x y ≡ Some (colour_index p colour)
  unfolding cell_of pattern_cell
  pattern_module h colour e = rw (← first, le-ltb k (entries l) h, e)

  -- none does, and it is on no pattern
  pub free_module : entries l ≤ k → pattern_colour p x y ≡ None → cell_of p l x y ≡ None
  unfolding cell_of pattern_cell
  free_module h e = rw (← first, le-ltb k (entries l) h, e)
