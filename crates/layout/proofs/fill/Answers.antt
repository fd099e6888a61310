use Prim.Native.Nat.{ℕ, ◌+◌, ◌≤◌, ◌<◌}
use mathlib.Core.Path.{◌≡◌, ◌∙◌, sym, refl, ap₂}
use mathlib.Core.List.{List}
use native.Mathlib.Numerals.{add-one}
use native.Mathlib.Omega.{arith}
use Rattle.symbology.specs.declared.Params.{Params}
use Rattle.symbology.specs.Sides.{columns, rows}
use Rattle.symbology.specs.Placement.{filled}
use Rattle.laws.proofs.Ranks.{rank_first, rank_column}
use Rattle.layout.proofs.Walk.{at_module, same_symbol}
use Rattle.layout.proofs.Filled.{filled_start, filled_next, filled_column, filled_all}
use Rattle.layout.proofs.fill.Goals as goal

pub of-symbol-requires : goal.of-symbol-requires
of-symbol-requires c = (c.requires.inside_range, c.requires.sound)

pub loop-c-init : goal.loop-c-init
loop-c-init c =
    let s = c.of-symbol.result in
    let sized = same_symbol c.of-symbol.ensures.0 c.of-symbol.ensures.1 c.requires in
    let none = filled_start s.patterns.params s.list.now c.args.bits.now c.args.matrix.now sized.all_modules in
    (omega arith, sym (rank_first s.patterns.params s.list.now), none)

pub loop-r-init : goal.loop-r-init
loop-r-init c = (omega arith, c.loop-c.invariant.1, c.loop-c.invariant.2)

pub fill_module-k-requires : goal.fill_module-k-requires
fill_module-k-requires c =
    let i = c.loop-r.invariant in
    let s = c.of-symbol.result in
    let sized = same_symbol c.of-symbol.ensures.0 c.of-symbol.ensures.1 c.requires in
    let across : c.loop-c.c < columns s.patterns.params = omega (arith, c.columns-c-end.ensures.0) in
    let inside : c.loop-r.r < rows s.patterns.params = omega (arith, c.rows-r-end.ensures.0) in
    let whole = i.2.whole ∙ sym sized.all_modules in
    record { at = at_module sized _ _ c.loop-c.c c.loop-r.r c.loop-r.k refl whole across i.0 i.1; inside = inside }

pub loop-r-preserved : goal.loop-r-preserved
loop-r-preserved c =
    let i = c.loop-r.invariant in
    let s = c.of-symbol.result in
    let across : c.loop-c.c < columns s.patterns.params = omega (arith, c.columns-c-end.ensures.0) in
    let inside : c.loop-r.r < rows s.patterns.params = omega (arith, c.rows-r-end.ensures.0) in
    let next = filled_next i.2 across inside in
    (omega (arith, inside), c.fill_module-k.ensures.next, rw c.fill_module-k.ensures.stored next)

pub loop-c-preserved : goal.loop-c-preserved
loop-c-preserved c =
    let s = c.of-symbol.result in
    let i = c.loop-r.invariant in
    let e : c.loop-r.r ≡ rows s.patterns.params = omega (arith, i.0, c.rows-r-end.ensures.0) in
    let most : c.loop-c.c + 1 ≤ columns s.patterns.params = omega (arith, c.columns-c-end.ensures.0) in
    (most, i.1 ∙ rw (e, add-one c.loop-c.c) (rank_column s.patterns.params s.list.now c.loop-c.c), filled_column (rw e at i.2))

pub shape_of-matrix : goal.shape_of-matrix
shape_of-matrix c =
    let sized = same_symbol c.of-symbol.ensures.0 c.of-symbol.ensures.1 c.requires in
    c.loop-c.invariant.2.whole ∙ sym sized.all_modules

pub returns : goal.returns
returns c =
    let i = c.loop-c.invariant in
    let all : c.loop-c.c ≡ columns c.of-symbol.result.patterns.params = omega (arith, i.0, c.columns-c-end.ensures.0) in
    filled_all (rw all at i.2)
    ∙ ap₂ (λ (p : Params) (l : List ℕ). filled p l c.args.bits.now) c.of-symbol.ensures.0 c.of-symbol.ensures.1
