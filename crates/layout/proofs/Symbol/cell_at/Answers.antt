-- `Symbol::cell_at` meets its contract. Assumes nothing.
use Prim.Native.Nat.{◌+◌, ◌<◌}
use mathlib.Core.Path.{◌≡◌, ◌∙◌, sym, ap, refl}
use native.Mathlib.Omega.{arith}
use Rattle.std.specs.Prelude.{Some}
use Rattle.symbology.specs.Reserved.{entries, first_entry}
use Rattle.laws.proofs.Search.{found_is, found_not}
use Rattle.layout.proofs.Cells.{entry_byte, listed_cell, pattern_module, free_module}
use Rattle.layout.proofs.Symbol.cell_at.Goals as goal

pub overflow_cast-result : goal.overflow_cast-result
overflow_cast-result c =
    let s = c.args.self.now in
    let first : (first_entry s.list.now (entries s.list.now) (c.args.c + 1) (c.args.r + 1) ≡ c.in-Some.k)
    × (c.in-Some.k < entries s.list.now)
    = found_is _ _ _ (sym c.first_entry.ensures ∙ c.in-Some.is) in
    omega (arith, c.at.ensures.colour.0, entry_byte s.patterns.params s.list.now s.inside_range s.sound c.in-Some.k first.1)

pub returns-in-Some : goal.returns-in-Some
returns-in-Some c =
    let first = found_is _ _ _ (sym c.first_entry.ensures ∙ c.in-Some.is) in
    ap Some c.at.ensures.colour.0 ∙ sym (listed_cell _ _ _ _ _ (sym first.0) first.1)

pub returns-in_err-colour : goal.returns-in_err-colour
returns-in_err-colour c =
    let none = found_not _ _ (sym c.first_entry.ensures ∙ c.in_default.is) in
    c.from_residual.ensures ∙ sym (free_module _ _ _ _ _ refl none (sym c.colour_at.ensures ∙ c.in_err-colour.was))

pub returns : goal.returns
returns c =
    let none = found_not _ _ (sym c.first_entry.ensures ∙ c.in_default.is) in
    ap Some c.colour_index.ensures
    ∙ sym (pattern_module _ _ _ _ _ refl none c.in_ok-colour.colour (sym c.colour_at.ensures ∙ c.in_ok-colour.was))
