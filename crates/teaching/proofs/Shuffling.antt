-- Words permuted from one state: where they add up before, they do so after.
-- Assumes nothing.
use Prim.Native.Nat.{ℕ}
use mathlib.Core.Path.{◌≡◌, sym, ap, ap₂, ◌∙◌}
use mathlib.Core.List.{List}
use lib.ListN.{length}
use Rattle.symbology.specs.Bits.{bitwise_sum}
use Rattle.symbology.specs.Shuffle.{shuffled}
use Rattle.laws.proofs.Teaching.{interleaving_of_sum}

pub shuffles_add : (state : ℕ) (x y : List ℕ) {x' y' z z' : List ℕ}
    → length x ≡ length y
    → x' ≡ shuffled 0 state x
    → y' ≡ shuffled 0 state y
    → z' ≡ shuffled 0 state z
    → z ≡ bitwise_sum x y
    → z' ≡ bitwise_sum x' y'
shuffles_add state x y long first second third sum =
    third ∙ ap (shuffled 0 state) sum ∙ interleaving_of_sum state x y long ∙ sym (ap₂ bitwise_sum first second)
