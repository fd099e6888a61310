-- `code_vectors::known_sizes` meets its contract: the sizes belong together, with wc 3. Assumes nothing.
use mathlib.Core.Path.{refl}
use native.Mathlib.Omega.{arith}
use Rattle.code_vectors.proofs.known_sizes.Goals as goal

pub returns : goal.returns
returns c = (
  record {
    wc = 3;
    some = omega arith;
    heavy = omega arith;
    gross_is = refl;
    checks_is = refl;
    parts = refl;
    inside = omega arith;
    few = omega arith;
    work_is = refl;
  },
  refl,
  refl,
  refl,
)
