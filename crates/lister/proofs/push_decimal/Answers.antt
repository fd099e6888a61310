-- `lister::push_decimal` meets its contract. Assumes nothing.
use native.Mathlib.Omega.{arith}
use Rattle.lister.proofs.Decimal.{printed}
use Rattle.lister.proofs.push_decimal.Goals as goal

pub returns-clause-appended : goal.returns-clause-appended
returns-clause-appended c =
    let text = printed c.args.n (omega arith) in
    cc
