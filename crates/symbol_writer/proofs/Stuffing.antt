-- Stuffing bits stored one after the other.
-- Assumes nothing.
use Prim.Native.Nat.{ℕ, ◌+◌, ◌%◌, ◌≤◌, ◌<◌}
use mathlib.Core.Path.{◌≡◌, refl, ap, ◌∙◌}
use mathlib.Core.List.{List}
use native.Mathlib.Omega.{arith}
use lib.ListN.{length, set, length-set}
use Rattle.symbology.specs.Net.{stuffing}
use Rattle.laws.proofs.Net.{StuffedTo, stuffing_is}
use Rattle.laws.proofs.Stores.{store_each}

-- the first i places have the stuffing bits
pub record Stuffing (i : ℕ) (before after : List ℕ) : Type 0 where
  pub long : length after ≡ length before
  pub stuffed : StuffedTo after i

pub stuffing_first : (xs : List ℕ) → Stuffing 0 xs xs
stuffing_first xs = record { long = refl; stuffed = λ j h. absurd (omega arith) }

module _ {i : ℕ} {before after : List ℕ} (s : Stuffing i before after) where
  pub stuffing_next : i < length after → Stuffing (i + 1) before (set after i (i % 2))
  stuffing_next h =
      record {
        long = length-set after i (i % 2) ∙ s.long;
        stuffed =
            store_each (λ j v. j < i + 1 → v ≡ j % 2) after i (i % 2) h (λ j e g. s.stuffed j (omega arith)) (λ g. refl);
      }

  pub stuffing_all : length after ≤ i → after ≡ stuffing (length before)
  stuffing_all h = stuffing_is after (λ j g. s.stuffed j (omega arith)) ∙ ap stuffing s.long
