use mathlib.Core.Path.{◌∙◌, sym}
use Rattle.laws.proofs.Search.{search_start, search_next, search_some, search_empty}
use Rattle.reserved.proofs.first_bad.Goals as goal

pub loop-k-init : goal.loop-k-init
loop-k-init c = search_start _ _

pub returns-then-is_bad : goal.returns-then-is_bad
returns-then-is_bad c =
    sym (search_some _ _ _ c.loop-k.invariant c.loop-k-test.true (sym c.is_bad.ensures ∙ c.if-is_bad.true))

pub loop-k-preserved : goal.loop-k-preserved
loop-k-preserved c = search_next _ _ _ c.loop-k.invariant c.loop-k-test.true (sym c.is_bad.ensures ∙ c.if-is_bad.false)

pub returns : goal.returns
returns c = sym (search_empty _ _ _ c.loop-k.invariant c.loop-k-test.false)
