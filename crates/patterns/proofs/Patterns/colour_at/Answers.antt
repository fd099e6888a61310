-- `Patterns::colour_at` meets its contract. Assumes nothing.
use mathlib.Core.Path.{◌≡◌, ◌∙◌, sym, ap}
use native.Mathlib.Omega.{arith}
use Rattle.std.specs.Prelude.{Some}
use Rattle.symbology.specs.declared.Pattern.{Pattern}
use Rattle.symbology.specs.Sides.{cores_of}
use Rattle.symbology.specs.Patterns.{near_core, colour_in}
use Rattle.patterns.proofs.Nearness.{near_number, cores_few, kept_search, no_column, no_row, both_near}
use Rattle.patterns.proofs.Patterns.colour_at.Goals as goal
use Rattle.patterns.proofs.Patterns.colour_at.Goals.{In_ok-across, In_ok-down}

-- the module's column is near a core
column_near : (c : In_ok-across) → near_core 0 (cores_of c.args.self.now.params.horizontal) c.args.x ≡ Some c.in_ok-across.across
column_near c = sym (kept_search _ _ c.args.self.now.across_kept c.cores.ensures) ∙ sym c.near_core.ensures ∙ c.in_ok-across.was

-- and so is its row
row_near : (c : In_ok-down) → near_core 0 (cores_of c.args.self.now.params.vertical) c.args.y ≡ Some c.in_ok-down.down
row_near c = sym (kept_search _ _ c.args.self.now.down_kept c.cores-2.ensures) ∙ sym c.near_core-2.ensures ∙ c.in_ok-down.was

pub returns-in_err-across : goal.returns-in_err-across
returns-in_err-across c =
    c.from_residual.ensures
    ∙ sym (no_column c.args.self.now.params c.args.x c.args.y
    (sym (kept_search _ _ c.args.self.now.across_kept c.cores.ensures) ∙ sym c.near_core.ensures ∙ c.in_err-across.was))

pub returns-in_err-down : goal.returns-in_err-down
returns-in_err-down c =
    c.from_residual-in_err-down.ensures
    ∙ sym (no_row c.args.self.now.params c.args.x c.args.y c.in_ok-across.across
    (column_near (goal.at.returns-in_err-down c).In_ok-across)
    (sym (kept_search _ _ c.args.self.now.down_kept c.cores-2.ensures) ∙ sym c.near_core-2.ensures ∙ c.in_err-down.was))

pub pattern_at-pattern-requires : goal.pattern_at-pattern-requires
pattern_at-pattern-requires c =
    let p = c.args.self.now.params in
    let across = near_number 0 _ _ _ (column_near (goal.at.pattern_at-pattern-requires c).In_ok-across) in
    let down = near_number 0 _ _ _ (row_near (goal.at.pattern_at-pattern-requires c).In_ok-down) in
    (omega (arith, across, cores_few p.horizontal), omega (arith, down, cores_few p.vertical))

pub returns : goal.returns
returns c =
    let across = c.in_ok-across.across in
    let down = c.in_ok-down.down in
    c.colour_in.ensures
    ∙ ap (λ (s : Pattern). colour_in s across.offset down.offset) c.pattern_at-pattern.ensures
    ∙ sym (both_near c.args.self.now.params c.args.x c.args.y across (column_near (goal.at.returns c).In_ok-across)
    down (row_near (goal.at.returns c).In_ok-down))
