-- Document 01, "Modules": finder and alignment patterns; 000, 4.3.7 and 4.3.8. Columns x and rows y count from 1.
-- Assumes nothing.
use Rattle.std.specs.Prelude.{ℕ, suc, ◌+◌, ◌-◌, ◌%◌, max, Bool, true, false, cond, not, ◌&&◌, ◌||◌, List, [], ◌∷◌, length, leb, eqb}
use Rattle.std.specs.Prelude.{Option, Some, None, is_some}
use Rattle.symbology.specs.declared.Params.{Params}
use Rattle.symbology.specs.declared.Near.{Near}
use Rattle.symbology.specs.declared.PatternColour.{PatternColour}
use Rattle.symbology.specs.declared.PatternColour.TheVariants.{Black, Cyan, Yellow}
use Rattle.symbology.specs.declared.Pattern.{Pattern}
use Rattle.symbology.specs.Sides.{cores_of}

abbrev near : ℕ → ℕ → Near
near core offset = record { core = core; offset = offset }

-- The first core c with c - 2 ≤ x ≤ c + 2, if there is one: its number, counted from k, and the offset x + 2 - c. No other core
-- lies so near: those of a side are at least 10 apart.
unfoldable pub near_core : ℕ → List ℕ → ℕ → Option Near
near_core k [] x = None
near_core k (c ∷ cs) x =
    let later = near_core (suc k) cs x in
    cond (leb c (x + 2) && leb x (c + 2)) (Some (near k (x + 2 - c))) later

-- ---- the patterns

abbrev pattern : ℕ → Bool → PatternColour → PatternColour → Pattern
pattern reach falling core ring = record { reach = reach; falling = falling; core = core; ring = ring }

-- 4.3.7: the finder pattern of a corner, by its place: left or right, upper or lower
unfoldable pub finder : Bool → Bool → Pattern
finder true true = pattern 2 true Black Cyan
finder false true = pattern 2 true Black Yellow
finder false false = pattern 2 false Yellow Black
finder true false = pattern 2 false Cyan Black

-- 4.3.8: in a secondary symbol U stands in the upper corners and L in the lower ones
unfoldable pub corner_alignment : Bool → Pattern
corner_alignment upper = pattern 1 upper Cyan Yellow

-- 4.3.8: X1 where the core numbers add to an odd number, else X0. Figure 7 is missing: X1 lies as UL at turn 0 and as LR at
-- turn 1, and X0 the other way.
unfoldable pub inner_alignment : ℕ → ℕ → ℕ → Pattern
inner_alignment turn i j =
    let like_ul = cond (eqb ((i + j) % 2) 1) (eqb turn 0) (not (eqb turn 0)) in
    pattern 1 like_ul Yellow Cyan

-- the pattern at core number i of p across and j of q down
unfoldable pub pattern_of : ℕ → ℕ → ℕ → ℕ → ℕ → ℕ → Pattern
pattern_of kind turn p q i j =
    let left = eqb i 0 in
    let right = eqb (i + 1) p in
    let upper = eqb j 0 in
    let lower = eqb (j + 1) q in
    cond ((left || right) && (upper || lower)) (cond (eqb kind 0) (finder left upper) (corner_alignment upper)) (inner_alignment turn i j)

-- ---- the modules of a pattern

-- the distance of an offset from the core
abbrev pub off_core : ℕ → ℕ
off_core o = (o - 2) + (2 - o)

-- on the sides where the two squares lie that share the core: upper left and lower right of it, or lower left and upper right
unfoldable pub in_squares : Bool → ℕ → ℕ → Bool
in_squares true o u = leb o 2 && leb u 2 || leb 2 o && leb 2 u
in_squares false o u = leb o 2 && leb 2 u || leb 2 o && leb u 2

-- The colour of a pattern at an offset across and one down. It depends on the larger distance d from the core; at 2 a finder
-- pattern has its core's colour again.
unfoldable pub colour_in : Pattern → ℕ → ℕ → Option PatternColour
colour_in s o u =
    let d = max (off_core o) (off_core u) in
    cond (leb d s.reach && in_squares s.falling o u) (Some (cond (eqb d 1) s.ring s.core)) None

-- the colour where a column and a row stand so to the cores; s is the pattern at two core numbers
unfoldable pub meeting : (ℕ → ℕ → Pattern) → Option Near → Option Near → Option PatternColour
meeting s None down = None
meeting s (Some across) None = None
meeting s (Some across) (Some down) = colour_in (s across.core down.core) across.offset down.offset

-- the pattern colour of the module at column x, row y of a symbol with side-versions h and v
unfoldable pub pattern_at : ℕ → ℕ → ℕ → ℕ → ℕ → ℕ → Option PatternColour
pattern_at kind turn h v x y =
    meeting (pattern_of kind turn (length (cores_of h)) (length (cores_of v))) (near_core 0 (cores_of h) x) (near_core 0 (cores_of v) y)

-- a pattern covers the module
unfoldable pub covered : Option PatternColour → Bool
covered colour = is_some colour

-- the pattern colour at a module of a symbol with these parameters
unfoldable pub pattern_colour : Params → ℕ → ℕ → Option PatternColour
pattern_colour p x y = pattern_at p.kind p.turn p.horizontal p.vertical x y
