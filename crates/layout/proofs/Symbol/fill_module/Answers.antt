-- `Symbol::fill_module` meets its contract. Assumes nothing.
use mathlib.Core.Path.{◌∙◌, sym, ap₂}
use native.Mathlib.Omega.{arith}
use lib.ListN.{set}
use Rattle.layout.proofs.Walk.{place_bytes, few_before, bits_there}
use Rattle.layout.proofs.Walk.{rank_small, fixed_next, data_next, fixed_module, data_module_lem}
use Rattle.layout.proofs.Symbol.fill_module.Goals as goal

pub mask_at-mask-requires : goal.mask_at-mask-requires
mask_at-mask-requires c = place_bytes c.requires.at c.requires.inside

pub cell_at-requires : goal.cell_at-requires
cell_at-requires c = place_bytes c.requires.at c.requires.inside

pub returns-in-Some-clause-next : goal.returns-in-Some-clause-next
returns-in-Some-clause-next c = fixed_next c.requires.at (sym c.cell_at.ensures ∙ c.in-Some.is)

pub returns-in-Some-clause-stored : goal.returns-in-Some-clause-stored
returns-in-Some-clause-stored c =
    let held = fixed_module c.requires.at c.args.bits.now (sym c.cell_at.ensures ∙ c.in-Some.is) in
    ap₂ (set c.args.matrix.now) c.index_of-at.ensures.index held

pub bits_before-requires : goal.bits_before-requires
bits_before-requires c = few_before c.requires.at

pub unmasked_in-requires : goal.unmasked_in-requires
unmasked_in-requires c =
    let free = sym c.cell_at.ensures ∙ c.in_default.is in
    (bits_there c.requires.at _ _ c.bits_before.ensures c.depth.ensures.0 c.requires.inside free, omega (arith, c.depth.ensures.1))

pub overflow_add-result : goal.overflow_add-result
overflow_add-result c =
    omega (arith, rank_small c.requires.at c.requires.inside (sym c.cell_at.ensures ∙ c.in_default.is))

pub returns-clause-next : goal.returns-clause-next
returns-clause-next c = data_next c.requires.at (sym c.cell_at.ensures ∙ c.in_default.is)

pub returns-clause-stored : goal.returns-clause-stored
returns-clause-stored c =
    let held =
    data_module_lem c.requires.at c.args.bits.now _ _ _ _ c.bits_before.ensures c.depth.ensures.0 c.unmasked_in.ensures
    c.mask_at-mask.ensures (sym c.cell_at.ensures ∙ c.in_default.is) in
    ap₂ (set c.args.matrix.now) c.index_of-at.ensures.index held
