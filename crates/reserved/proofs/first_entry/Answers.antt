use mathlib.Core.Path.{◌∙◌, sym}
use Rattle.symbology.specs.Reserved.{first_entry}
use Rattle.laws.proofs.Search.{search_start, search_next, search_some, search_empty}
use Rattle.reserved.proofs.first_entry.Goals as goal

pub loop-k-init : goal.loop-k-init
loop-k-init c = search_start _ _

pub returns-then-stands_at : goal.returns-then-stands_at
unfolding first_entry
returns-then-stands_at c =
    sym (search_some _ _ _ c.loop-k.invariant c.loop-k-test.true (sym c.stands_at.ensures ∙ c.if-stands_at.true))

pub loop-k-preserved : goal.loop-k-preserved
loop-k-preserved c = search_next _ _ _ c.loop-k.invariant c.loop-k-test.true (sym c.stands_at.ensures ∙ c.if-stands_at.false)

pub returns : goal.returns
unfolding first_entry
returns c = sym (search_empty _ _ _ c.loop-k.invariant c.loop-k-test.false)
