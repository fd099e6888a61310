-- The last 1 of net bits, found from their end.
-- Assumes nothing.
use Prim.Native.Nat.{ℕ, zero, suc, ◌%◌, ◌<◌}
use mathlib.Core.Path.{◌≡◌, refl}
use mathlib.Core.List.{List, [], ◌∷◌}
use native.Mathlib.Omega.{arith}
use lib.ListN.{length, get_or}
use borrow.Author.Tests.{ne_eqb, eq-eqb}
use Rattle.std.specs.Prelude.{Option, None, Some}
use Rattle.std.specs.Option.{MatchOption}
use Rattle.symbology.specs.Net.{up_to_last_one}
use Rattle.stream_reader.specs.Reading.{MarkedAt}

-- no bit is 1
none_one : (net : List ℕ) → ((k : ℕ) → k < length net → get_or net k 0 % 2 ≡ 1 → ⊥) → up_to_last_one net ≡ 0
unfolding up_to_last_one
none_one [] h = refl
none_one (b ∷ bs) h = rw (none_one bs (λ k l. h (suc k) (omega arith)), ne_eqb (b % 2) 1 (h 0 (omega arith)))

-- a bit is 1, and none behind it
last_one : (net : List ℕ) (i : ℕ) → i < length net → get_or net i 0 % 2 ≡ 1
    → ((k : ℕ) → i < k → k < length net → get_or net k 0 % 2 ≡ 1 → ⊥) → up_to_last_one net ≡ suc i
unfolding up_to_last_one
last_one [] i l e h = absurd (omega arith)
last_one (b ∷ bs) zero l e h = rw (none_one bs (λ k m. h (suc k) (omega arith) (omega arith)), eq-eqb (b % 2) 1 e)
last_one (b ∷ bs) (suc i) l e h =
    rw (last_one bs i (omega arith) e (λ k a m. h (suc k) (omega arith) (omega arith)), ne_eqb (suc i) 0 (λ z. omega arith))

pub marked_at : (net : List ℕ) (place : Option ℕ)
    → MatchOption place ((k : ℕ) → k < length net → get_or net k 0 % 2 ≡ 1 → ⊥)
    (λ i. (i < length net) × (get_or net i 0 % 2 ≡ 1) × ((k : ℕ) → i < k → k < length net → get_or net k 0 % 2 ≡ 1 → ⊥))
    → MarkedAt net place
marked_at net None h = none_one net h
marked_at net (Some i) h = last_one net i h.0 h.1 h.2
