-- `jabcode_c::jab_sizes` meets its contract. Assumes nothing.
use Rattle.jabcode_c.proofs.Calls.{sizes_for_lem}
use Rattle.jabcode_c.proofs.jab_sizes.Goals as goal

pub returns : goal.returns
returns c =
    let a = c.args in
    record { sizes = sizes_for_lem a.params.now a.reserved.now c.params_of.ensures c.sizes-a.ensures.sizes }
