-- `layout::first_bad_module` meets its contract. Assumes nothing.
use mathlib.Core.Path.{◌∙◌, sym}
use lib.Dec.{leb}
use Rattle.std.proofs.Common.{rules}
use Rattle.std.proofs.lemmas.Iterator.{YieldsList-from_slice}
use Rattle.std.proofs.lemmas.Iterator.Search.{position_from_yields_List}
use Rattle.symbology.specs.Placement.{first_bad_module}
use Rattle.laws.proofs.Search.{search_list}
use Rattle.layout.proofs.first_bad_module.Goals as goal

pub returns : goal.returns
unfolding first_bad_module
returns c =
    let m = c.args.matrix.now in
    let at =
    position_from_yields_List (λ x. leb c.args.colours x) _ _ c.position.result c.position.ensures.ran
    (YieldsList-from_slice m cc) (λ x b q k. search rules)
    ∙ sym (search_list (λ x. leb c.args.colours x) m) in
    search (rules, at)
