-- Test 1 in its three groups, and what a test in the code says of the one that it stands for.
-- Assumes nothing.
use mathlib.Core.Path.{◌≡◌, refl, sym, ap, ◌∙◌}
use mathlib.Core.Bool.{Bool, true, false, not, ◌&&◌}
use mathlib.Core.List.{List, [], ◌∷◌, ◌++◌}
use borrow.Author.Tests.{not-true, not-false}
use Rattle.symbology.specs.declared.Params.{Params}
use Rattle.symbology.specs.Ranges.{all_hold}
use Rattle.symbology.specs.Parameters.{range_tests, in_range}
use Rattle.capacity.specs.Groups.{side_tests, colour_tests, code_tests}

-- the test t whose value r a call gave, where the code then tests `!` of r: it failed
pub refused : {t r : Bool} → r ≡ t → not r ≡ true → t ≡ false
refused {r = r} e h = sym e ∙ not-true r h

-- it held
pub passed : {t r : Bool} → r ≡ t → not r ≡ false → t ≡ true
passed {r = r} e h = sym e ∙ not-false r h

-- all tests of two lists hold: those of the first and those of the second
all_append : (a b : List Bool) → all_hold (a ++ b) ≡ (all_hold a && all_hold b)
unfolding all_hold
all_append [] b = refl
all_append (true ∷ a) b = all_append a b
all_append (false ∷ a) b = refl

-- test 1 is the three groups
pub groups : (p : Params) → in_range p ≡ (all_hold (side_tests p) && (all_hold (colour_tests p) && all_hold (code_tests p)))
unfolding range_tests in_range
groups p =
    all_append (side_tests p) (colour_tests p ++ code_tests p)
    ∙ ap (λ (b : Bool). all_hold (side_tests p) && b) (all_append (colour_tests p) (code_tests p))
