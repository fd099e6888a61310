-- The modules that patterns cover: 7 for each inner pattern and 68 or 28 for those of the corners. The sums over a symbol go core by
-- core (Windows); what is left depends on the numbers of cores only and is one computed test.
-- Assumes nothing.
use Prim.Native.Nat.{ℕ, suc, ◌+◌, ◌-◌, ◌*◌, ◌%◌, ◌≤◌, ◌<◌}
use mathlib.Core.Path.{◌≡◌, refl, sym, ◌∙◌, subst}
use mathlib.Core.Bool.{Bool, true, false, cond, not, ◌&&◌, ◌||◌}
use mathlib.Core.List.{List}
use native.Mathlib.Numerals.{add-one}
use native.Mathlib.Omega.{arith}
use lib.Dec.{eqb}
use lib.ListN.{length}
use borrow.Author.Tests.{eqb-true}
use Rattle.symbology.specs.declared.Params.{Params}
use Rattle.symbology.specs.declared.Near.{Near}
use Rattle.std.specs.Prelude.{Option, Some, None}
use Rattle.symbology.specs.declared.Pattern.{Pattern}
use Rattle.symbology.specs.declared.PatternColour.{PatternColour}
use Rattle.symbology.specs.declared.PatternColour.TheVariants.{Cyan, Yellow}
use Rattle.symbology.specs.Ranges.{tally, all_below, sum_from}
use Rattle.symbology.specs.Sides.{columns, rows, cores_of, inner_patterns}
use Rattle.symbology.specs.Patterns.{near_core, finder, corner_alignment, inner_alignment, pattern_of}
use Rattle.symbology.specs.Patterns.{in_squares, colour_in, meeting, pattern_at, covered, pattern_colour}
use Rattle.symbology.specs.Parameters.{in_range}
use Rattle.symbology.specs.Capacity.{pattern_modules}
use Rattle.symbology.proofs.Ranges.{below_true}
use Rattle.symbology.proofs.Sides.{spaced, cores_spaced, cores_least, cores_most}
use Rattle.laws.proofs.Sums.{sum_ext, sum_shift, sum_zero, sum_swap}
use Rattle.laws.proofs.Parameters.{InRange, ranges}
use Rattle.laws.proofs.Windows.{count_near, windows}

-- ---- one pattern

-- 1 where the pattern covers the module at these offsets
abbrev coverage : Pattern → ℕ → ℕ → ℕ
coverage s o u = tally (covered (colour_in s o u))

-- the modules of a pattern
abbrev size : Pattern → ℕ
size s = sum_from 0 5 (λ o. sum_from 0 5 (coverage s o))

finder_size : (left upper : Bool) → size (finder left upper) ≡ 17
unfolding finder in_squares colour_in covered sum_from
finder_size true true = refl
finder_size true false = refl
finder_size false true = refl
finder_size false false = refl

alignment_size : (falling : Bool) (core ring : PatternColour) → size (record { reach = 1; falling = falling; core = core; ring = ring }) ≡ 7
unfolding in_squares colour_in sum_from covered
alignment_size true core ring = refl
alignment_size false core ring = refl

corner_size_lem : (upper : Bool) → size (corner_alignment upper) ≡ 7
unfolding corner_alignment covered
corner_size_lem upper = alignment_size upper Cyan Yellow

inner_size : (turn i j : ℕ) → size (inner_alignment turn i j) ≡ 7
unfolding inner_alignment covered
inner_size turn i j = alignment_size (cond (eqb ((i + j) % 2) 1) (eqb turn 0) (not (eqb turn 0))) Yellow Cyan

-- a core number is the first or the last of p
abbrev outer : ℕ → ℕ → Bool
outer p i = eqb i 0 || eqb (i + 1) p

-- the modules of a corner pattern of a primary symbol, and of a secondary one
abbrev corner_size : Bool → ℕ
corner_size primary = cond primary 17 7

-- the modules of the pattern at two core numbers
abbrev size_at : Bool → ℕ → ℕ → ℕ → ℕ → ℕ
size_at primary p q i j = cond (outer p i && outer q j) (corner_size primary) 7

pattern_size : (kind turn p q i j : ℕ) → size (pattern_of kind turn p q i j) ≡ size_at (eqb kind 0) p q i j
unfolding pattern_of
pattern_size kind turn p q i j =
    go (outer p i && outer q j) (eqb kind 0)
    (finder (eqb i 0) (eqb j 0)) (corner_alignment (eqb j 0)) (inner_alignment turn i j)
    (finder_size (eqb i 0) (eqb j 0)) (corner_size_lem (eqb j 0)) (inner_size turn i j)
  where
    go : (corner primary : Bool) (f a n : Pattern) → size f ≡ 17 → size a ≡ 7 → size n ≡ 7
        → size (cond corner (cond primary f a) n) ≡ cond corner (corner_size primary) 7
    go true true f a n x y z = x
    go true false f a n x y z = y
    go false primary f a n x y z = z

-- ---- the patterns of a symbol, by its numbers of cores

-- p × q patterns
abbrev all_sizes : Bool → ℕ → ℕ → ℕ
all_sizes primary p q = sum_from 0 p (λ i. sum_from 0 q (size_at primary p q i))

-- the same as the formula has it
abbrev formula : Bool → ℕ → ℕ → ℕ
formula primary p q = 7 * (p * q - 4) + cond primary 68 28

sizes_right : (primary : Bool)
    → all_below 8 (λ p. all_below 8 (λ q. eqb (all_sizes primary (p + 2) (q + 2)) (formula primary (p + 2) (q + 2)))) ≡ true
unfolding all_below sum_from
sizes_right true = refl
sizes_right false = refl

sizes : (primary : Bool) (p q : ℕ) → 2 ≤ p → p ≤ 9 → 2 ≤ q → q ≤ 9 → all_sizes primary p q ≡ formula primary p q
sizes primary p q a b c d =
    let across : p - 2 + 2 ≡ p = omega arith in
    let down : q - 2 + 2 ≡ q = omega arith in
    let few : p - 2 < 8 = omega arith in
    let few' : q - 2 < 8 = omega arith in
    let right : ℕ → ℕ → Bool = λ i j. eqb (all_sizes primary (i + 2) (j + 2)) (formula primary (i + 2) (j + 2)) in
    let row : all_below 8 (right (p - 2)) ≡ true = below_true (λ i. all_below 8 (right i)) 8 (sizes_right primary) (p - 2) few in
    let here : right (p - 2) (q - 2) ≡ true = below_true (right (p - 2)) 8 row (q - 2) few' in
    eqb-true (all_sizes primary p q) (formula primary p q)
    (subst (λ (i : ℕ). eqb (all_sizes primary i q) (formula primary i q) ≡ true) across
    (subst (λ (j : ℕ). eqb (all_sizes primary (p - 2 + 2) j) (formula primary (p - 2 + 2) j) ≡ true) down here))

-- ---- the patterns of a symbol, module by module

module _ (s : ℕ → ℕ → Pattern) (down : List ℕ) (height : ℕ) (fit : spaced 1 (1 + height) down ≡ true) where
  -- the modules that patterns cover in a column that stands so to the cores
  column_count : (near : Option Near)
      → sum_from 1 height (λ y. tally (covered (meeting s near (near_core 0 down y))))
      ≡ count_near (λ i o. sum_from 0 (length down) (λ j. sum_from 0 5 (coverage (s i j) o))) near
  unfolding meeting covered
  column_count None = sum_zero (λ y. 0) 1 height (λ y p q. refl)
  column_count (Some across) =
      sum_ext (λ y. tally (covered (meeting s (Some across) (near_core 0 down y))))
      (λ y. count_near (λ j. coverage (s across.core j) across.offset) (near_core 0 down y)) 1 height
      (λ y p q. row (near_core 0 down y))
      ∙ windows (λ j. coverage (s across.core j) across.offset) 0 1 height down fit
    where
      row : (near : Option Near)
          → tally (covered (meeting s (Some across) near)) ≡ count_near (λ j. coverage (s across.core j) across.offset) near
      row None = refl
      row (Some down) = refl

  -- the modules that patterns cover are those of the patterns at all core numbers
  cover_count : (across : List ℕ) (width : ℕ) → spaced 1 (1 + width) across ≡ true
      → sum_from 1 width (λ x. sum_from 1 height (λ y. tally (covered (meeting s (near_core 0 across x) (near_core 0 down y)))))
      ≡ sum_from 0 (length across) (λ i. sum_from 0 (length down) (λ j. size (s i j)))
  cover_count across width fit' =
      let column : ℕ → ℕ → ℕ = λ i o. sum_from 0 (length down) (λ j. sum_from 0 5 (coverage (s i j) o)) in
      sum_ext (λ x. sum_from 1 height (λ y. tally (covered (meeting s (near_core 0 across x) (near_core 0 down y)))))
      (λ x. count_near column (near_core 0 across x)) 1 width (λ x p q. column_count (near_core 0 across x))
      ∙ windows column 0 1 width across fit'
      ∙ sum_ext (λ i. sum_from 0 5 (column i)) (λ i. sum_from 0 (length down) (λ j. size (s i j))) 0 (length across)
      (λ i p q. sum_swap (λ o j. sum_from 0 5 (coverage (s i j) o)) 0 5 0 (length down))

-- a sum over a symbol's modules, counted from 1 and from 0
modules_shift : (f : ℕ → ℕ → ℕ) (width height : ℕ)
    → sum_from 0 width (λ c. sum_from 0 height (λ r. f (c + 1) (r + 1))) ≡ sum_from 1 width (λ x. sum_from 1 height (f x))
modules_shift f width height =
    sum_ext (λ c. sum_from 0 height (λ r. f (c + 1) (r + 1))) (λ c. sum_from 1 height (f (suc c))) 0 width
    (λ c p q. sum_ext (λ r. f (c + 1) (r + 1)) (λ r. f (suc c) (suc r)) 0 height (λ r a b. rw (add-one c, add-one r))
    ∙ sym (sum_shift (f (suc c)) 0 height))
    ∙ sym (sum_shift (λ x. sum_from 1 height (f x)) 0 width)

-- The modules that patterns cover are 7 for each inner pattern and 68 or 28 for those of the corners.
pub pattern_count : (p : Params) → in_range p ≡ true
    → sum_from 0 (columns p) (λ c. sum_from 0 (rows p) (λ r. tally (covered (pattern_colour p (c + 1) (r + 1)))))
    ≡ pattern_modules p.kind p.horizontal p.vertical
unfolding pattern_colour pattern_at pattern_modules inner_patterns
pattern_count p e =
    let r : InRange p = ranges p e in
    let h : ℕ = p.horizontal in
    let v : ℕ = p.vertical in
    let a : ℕ = length (cores_of h) in
    let b : ℕ = length (cores_of v) in
    let s : ℕ → ℕ → Pattern = pattern_of p.kind p.turn a b in
    modules_shift (λ x y. tally (covered (meeting s (near_core 0 (cores_of h) x) (near_core 0 (cores_of v) y)))) (columns p) (rows p)
    ∙ cover_count s (cores_of v) (rows p) (cores_spaced v r.vertical_least r.vertical_most)
    (cores_of h) (columns p) (cores_spaced h r.horizontal_least r.horizontal_most)
    ∙ sum_ext (λ i. sum_from 0 b (λ j. size (s i j))) (λ i. sum_from 0 b (size_at (eqb p.kind 0) a b i)) 0 a
    (λ i x y. sum_ext (λ j. size (s i j)) (size_at (eqb p.kind 0) a b i) 0 b (λ j z w. pattern_size p.kind p.turn a b i j))
    ∙ sizes (eqb p.kind 0) a b
    (cores_least h r.horizontal_least r.horizontal_most) (cores_most h r.horizontal_least r.horizontal_most)
    (cores_least v r.vertical_least r.vertical_most) (cores_most v r.vertical_least r.vertical_most)
