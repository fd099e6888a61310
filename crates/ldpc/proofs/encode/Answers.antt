-- `ldpc::encode` meets its contract: A is built, and then the word encoded. Assumes nothing.
use Rattle.ldpc.proofs.Stages.{encode_fits, encoded_over}
use Rattle.ldpc.proofs.encode.Goals as goal

pub encode-requires : goal.encode-requires
encode-requires c =
    let pre = c.requires in
    encode_fits pre.0 c.build.ensures pre.1

pub returns : goal.returns
returns c =
    let pre = c.requires in
    encoded_over pre.0 c.build.ensures c.encode.ensures
