-- Document 01, "Points on each side": what the side lister prints for each input.
-- Assumes nothing.
use Rattle.std.specs.Prelude.{ℕ, cond, List, [], ◌∷◌, ◌++◌, Option, None, Some}
use Rattle.std.specs.List.{flat_map}
use Rattle.symbology.specs.Ranges.{within}
use Rattle.symbology.specs.Sides.{side_size, cores_of, inner_patterns}
use Rattle.lister.specs.Numeral.{number_in}
use Rattle.lister.specs.Decimal.{decimal}

-- a line of one number
unfoldable pub number_line : ℕ → List ℕ
number_line n = decimal n ++ (10 ∷ [])

-- core coordinates, a space before each
abbrev pub cores_after : List ℕ → List ℕ
cores_after cs = flat_map (λ c. 32 ∷ decimal c) cs

-- a line of core coordinates, a space between two
unfoldable pub cores_line : List ℕ → List ℕ
cores_line [] = 10 ∷ []
cores_line (c ∷ cs) = decimal c ++ cores_after cs ++ (10 ∷ [])

-- "refused 1" and a newline
unfoldable pub refused_line : List ℕ
refused_line = 114 ∷ 101 ∷ 102 ∷ 117 ∷ 115 ∷ 101 ∷ 100 ∷ 32 ∷ 49 ∷ 10 ∷ []

-- side size, core coordinates and inner patterns of a side-version, or the refusal
unfoldable pub side_text : ℕ → List ℕ
side_text v = cond (within 1 32 v) (number_line (side_size v) ++ cores_line (cores_of v) ++ number_line (inner_patterns v v)) refused_line

-- the text of the side-version that a number is; what is no number is refused
unfoldable pub number_text : Option ℕ → List ℕ
number_text (Some v) = side_text v
number_text None = refused_line

-- what the side lister prints
unfoldable pub listing : List ℕ → List ℕ
listing input = number_text (number_in input)
