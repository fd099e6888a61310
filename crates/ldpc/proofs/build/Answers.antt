-- `ldpc::build` meets its contract. Assumes nothing.
use Rattle.ldpc.proofs.Stages.{build_fits}
use Rattle.ldpc.proofs.build.Goals as goal

pub build-requires : goal.build-requires
build-requires c = build_fits c.requires
