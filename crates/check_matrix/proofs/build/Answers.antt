use mathlib.Core.Path.{◌≡◌, ◌∙◌}
use native.Mathlib.Omega.{arith}
use lib.ListN.{length}
use Rattle.check_matrix.proofs.Blocks.{Sized, sized, blocks_start, block_end, block_fits, blocks_next, blocks_done}
use Rattle.check_matrix.proofs.build.Goals as goal
use Rattle.check_matrix.proofs.build.Goals.{At-loop-block}

pub loop-block-init : goal.loop-block-init
loop-block-init c =
    blocks_start c.args.t c.args.wr c.requires.0 c.clear.ensures c.count_up.ensures

-- the areas are those of A
size : (at-loop : At-loop-block)
    → let args = at-loop.args in Sized args.a args.t args.wc args.wr (length args.work.now)
size at-loop =
    let args = at-loop.args in
    sized args.t args.wc args.wr at-loop.requires

-- the buffer is as long as at entry
same_long : (at-loop : At-loop-block) → length at-loop.loop-block.work ≡ length at-loop.args.work.now
same_long at-loop =
    let built = at-loop.loop-block.invariant in
    let counted = at-loop.count_up.ensures in
    let cleared = at-loop.clear.ensures in
    built.changed.long ∙ counted.changed.long ∙ cleared.changed.long

-- ---- a turn
pub turn_block-requires : goal.turn_block-requires
turn_block-requires c =
    let mixed = c.shuffle_numbers-state.ensures.0 in
    let end = block_end (size (goal.at.turn_block-requires c).At-loop-block) c.loop-block.invariant (omega arith) in (
      rw (mixed.changed.long ∙ same_long (goal.at.turn_block-requires c).At-loop-block) c.requires.0,
      block_fits (size (goal.at.turn_block-requires c).At-loop-block) c.loop-block.invariant _ _ _ mixed.numbers_are (omega (arith, end)),
    )

pub loop-block-preserved : goal.loop-block-preserved
loop-block-preserved c =
    let mixed = c.shuffle_numbers-state.ensures in
    blocks_next (size (goal.at.loop-block-preserved c).At-loop-block) c.loop-block.invariant _ mixed.0.numbers_are mixed.0.changed
    c.turn_block.ensures mixed.1

-- ---- behind the loop
pub returns : goal.returns
returns c =
    blocks_done (size (goal.at.returns c).At-loop-block) c.loop-block.invariant c.clear.ensures c.count_up.ensures
    (omega arith)
