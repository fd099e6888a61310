-- `ldpc::mend` meets its contract: A is built, and then the word mended. Assumes nothing.
use Rattle.ldpc.proofs.Stages.{mend_fits, mended_over}
use Rattle.ldpc.proofs.mend.Goals as goal

pub mend-requires : goal.mend-requires
mend-requires c =
    let pre = c.requires in
    mend_fits pre.0 c.build.ensures pre.1

pub returns : goal.returns
returns c =
    let pre = c.requires in
    mended_over pre.0 c.build.ensures c.mend.ensures
