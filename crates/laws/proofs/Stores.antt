-- Stores in a list: what holds of the elements that were there and of the one stored holds of all.
-- Assumes nothing.
use Prim.Native.Nat.{ℕ, ◌+◌, ◌<◌}
use mathlib.Core.Path.{◌≡◌, refl}
use mathlib.Core.List.{List}
use native.Mathlib.Decide.{ℕ_discrete}
use native.Mathlib.Omega.{arith}
use lib.ListN.{length, get_or, set}
use lib.Seq.{get_or-set_same, get_or-set_other}

-- What holds of the other elements, and of what is stored, holds of all.
pub store_each : (P : ℕ → ℕ → Type 0) (xs : List ℕ) (i v : ℕ) → i < length xs
    → ((q : ℕ) → (q ≡ i → ⊥) → P q (get_or xs q 0)) → P i v → (q : ℕ) → P q (get_or (set xs i v) q 0)
store_each P xs i v room others new q =
    elim (ℕ_discrete q i) [
      | yes e ↦ rw (e, get_or-set_same xs i v 0 room) new
      | no e ↦ rw (get_or-set_other xs i q v 0 e) (others q e)
    ]

-- What holds of the first n elements from a place on, and of what is stored as the next, holds of one element more.
pub store_next : (P : ℕ → ℕ → Type 0) (xs : List ℕ) (at n v : ℕ) → at + n < length xs
    → ((p : ℕ) → p < n → P p (get_or xs (at + p) 0)) → P n v
    → (p : ℕ) → p < n + 1 → P p (get_or (set xs (at + n) v) (at + p) 0)
store_next P xs at n v room sofar new p h =
    store_each (λ q w. (k : ℕ) → q ≡ at + k → k < n + 1 → P k w) xs (at + n) v room
    (λ q e k f l. rw f (sofar k (omega arith)))
    (λ k f l. let last : k ≡ n = omega arith in rw last new)
    (at + p) p refl h
