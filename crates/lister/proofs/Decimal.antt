-- Decimal numbers below 256, as the library prints them.
-- Assumes nothing.
use Prim.Native.Nat.{ℕ, ◌<◌}
use mathlib.Core.Path.{◌≡◌, refl}
use mathlib.Core.Bool.{Bool, true}
use Rattle.std.specs.Fmt as fmt
use Rattle.std.specs.Str.{bytes_eq}
use Rattle.std.proofs.lemmas.Slice.Eq.{bytes_eq-Decides}
use Rattle.symbology.specs.Ranges.{all_below}
use Rattle.symbology.proofs.Ranges.{below_true}
use Rattle.lister.specs.Decimal.{digits_up_to, decimal}

abbrev same : ℕ → Bool
same n = bytes_eq (fmt.decimal n) (decimal n)

all_same : all_below 256 same ≡ true
unfolding all_below digits_up_to decimal fmt.digits
all_same = refl

pub printed : (n : ℕ) → n < 256 → fmt.decimal n ≡ decimal n
printed n h = (bytes_eq-Decides (fmt.decimal n) (decimal n)).0 (below_true same 256 all_same n h)
