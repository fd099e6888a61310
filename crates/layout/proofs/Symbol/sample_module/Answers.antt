-- `Symbol::sample_module` meets its contract. Assumes nothing.
use Prim.Native.Nat.{◌*◌}
use mathlib.Core.Path.{◌∙◌, sym, ap, ap₂}
use native.Mathlib.Omega.{arith}
use lib.Seq.{sets}
use Rattle.symbology.specs.Bits.{bits}
use Rattle.symbology.specs.Capacity.{bits_per_module}
use Rattle.layout.proofs.Walk.{place_bytes, few_before, bits_there, with_index, without_index}
use Rattle.layout.proofs.Walk.{rank_small, fixed_next, data_next, fixed_bits, data_bits_are}
use Rattle.layout.proofs.Symbol.sample_module.Goals as goal

pub cell_at-requires : goal.cell_at-requires
cell_at-requires c = place_bytes c.requires.at c.requires.inside

pub returns-then-is_some-clause-next : goal.returns-then-is_some-clause-next
returns-then-is_some-clause-next c =
    fixed_next c.requires.at (sym c.cell_at.ensures ∙ with_index c.cell_at.result (sym c.is_some.ensures ∙ c.if-is_some.true))

pub returns-then-is_some-clause-stored : goal.returns-then-is_some-clause-stored
returns-then-is_some-clause-stored c =
    let a = c.args in
    let e = sym c.cell_at.ensures ∙ with_index c.cell_at.result (sym c.is_some.ensures ∙ c.if-is_some.true) in
    ap (sets a.out.now (bits_per_module a.self.now.patterns.params.colours * a.k)) (sym (fixed_bits c.requires.at a.matrix.now e))

pub mask_at-requires : goal.mask_at-requires
mask_at-requires c =
    let bytes = place_bytes c.requires.at c.requires.inside in
    (omega (arith, bytes.0, bytes.1), omega (arith, bytes.0, bytes.1))

pub bits_before-requires : goal.bits_before-requires
bits_before-requires c = few_before c.requires.at

pub put_bits-requires : goal.put_bits-requires
put_bits-requires c =
    let free = sym c.cell_at.ensures ∙ without_index c.cell_at.result (sym c.is_some.ensures ∙ c.if-is_some.false) in
    bits_there c.requires.at _ _ c.bits_before.ensures c.depth.ensures.0 c.requires.inside free

pub overflow_add-result : goal.overflow_add-result
overflow_add-result c =
    let free = sym c.cell_at.ensures ∙ without_index c.cell_at.result (sym c.is_some.ensures ∙ c.if-is_some.false) in
    omega (arith, rank_small c.requires.at c.requires.inside free)

pub returns-clause-next : goal.returns-clause-next
returns-clause-next c =
    data_next c.requires.at
    (sym c.cell_at.ensures ∙ without_index c.cell_at.result (sym c.is_some.ensures ∙ c.if-is_some.false))

pub returns-clause-stored : goal.returns-clause-stored
returns-clause-stored c =
    let free = sym c.cell_at.ensures ∙ without_index c.cell_at.result (sym c.is_some.ensures ∙ c.if-is_some.false) in
    let held =
    data_bits_are c.requires.at c.args.matrix.now _ _ _ c.depth.ensures.0 c.index_of-at.ensures.index c.mask_at.ensures free in
    c.put_bits.ensures ∙ ap₂ (sets c.args.out.now) c.bits_before.ensures (ap (bits c.depth.result) c.from.ensures ∙ held)
