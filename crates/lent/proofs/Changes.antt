-- Where a buffer is changed: changes one after the other, in larger spans, and by stores; and numbers stored one after the other.
-- Assumes nothing.
use Prim.Native.Nat.{ℕ, ◌+◌, ◌*◌, ◌≤◌, ◌<◌}
use mathlib.Core.Path.{◌≡◌, refl, ◌∙◌}
use mathlib.Core.List.{List}
use native.Mathlib.Decide.{ℕ_discrete}
use native.Mathlib.Omega.{arith}
use lib.ListN.{length, set, length-set}
use lib.Seq.{get_or-set_other}
use Rattle.lent.specs.Changes.{Span, Outside, Changed}
use Rattle.lent.specs.Buffer.{number_at, stored_number}
use Rattle.lent.proofs.Buffer.{number_same, length_stored, stored_there, stored_other}

-- ---- changes

pub changed_none : (ss : List Span) (xs : List ℕ) → Changed ss xs xs
changed_none ss xs = record { long = refl; kept = λ i o. refl }

-- a place outside a span is outside every span in it
pub outside_in : (from to : ℕ) {from' to' i : ℕ} → from' ≤ from → to ≤ to' → (from' ≤ i → to' ≤ i) → from ≤ i → to ≤ i
outside_in from to h g out l = omega (arith, out (omega arith))

module _ {ss : List Span} {before after : List ℕ} (c : Changed ss before after) where
  -- a change in other spans, if a place outside them is outside these
  pub changed_wider : {ts : List Span} → ((i : ℕ) → Outside ts i → Outside ss i) → Changed ts before after
  changed_wider out = record { long = c.long; kept = λ i o. c.kept i (out i o) }

  -- one change after the other
  pub changed_then : {later : List ℕ} → Changed ss after later → Changed ss before later
  changed_then d = record { long = d.long ∙ c.long; kept = λ i o. d.kept i o ∙ c.kept i o }

  -- a store in one of the spans
  pub changed_set : (i v : ℕ) → (Outside ss i → ⊥) → Changed ss before (set after i v)
  changed_set i v inside =
      record {
        long = length-set after i v ∙ c.long;
        kept = λ p o. elim (ℕ_discrete p i) [
          | yes e ↦ absurd (inside (rw e at o))
          | no e ↦ get_or-set_other after i p v 0 e ∙ c.kept p o
        ];
      }

  -- a number stored there
  pub changed_stored : (i v : ℕ) → (Outside ss i → ⊥) → (Outside ss (i + 1) → ⊥) → Changed ss before (stored_number after i v)
  changed_stored i v inside behind =
      record {
        long = length_stored after i v ∙ c.long;
        kept = λ p o.
            stored_other after i v p (λ e. inside (rw e at o)) (λ e. behind (rw e at o)) ∙ c.kept p o;
      }

-- ---- numbers stored one after the other

-- the other numbers stay where one is stored
pub number_other : (xs : List ℕ) (at n v p : ℕ) → (p ≡ n → ⊥)
    → number_at (stored_number xs (at + 2 * n) v) (at + 2 * p) ≡ number_at xs (at + 2 * p)
number_other xs at n v p e =
    let ys : List ℕ = stored_number xs (at + 2 * n) v in
    number_same xs ys (at + 2 * p) (stored_other xs (at + 2 * n) v (at + 2 * p) (λ f. e (omega arith)) (λ f. omega arith))
    (stored_other xs (at + 2 * n) v (at + 2 * p + 1) (λ f. omega arith) (λ f. e (omega arith)))

-- What holds of the first n numbers from a place on, and of what is stored as the next, holds of one number more.
pub number_next : (P : ℕ → ℕ → Type 0) (xs : List ℕ) (at n v : ℕ) → at + 2 * n + 2 ≤ length xs
    → ((p : ℕ) → p < n → P p (number_at xs (at + 2 * p))) → P n v
    → (p : ℕ) → p < n + 1 → P p (number_at (stored_number xs (at + 2 * n) v) (at + 2 * p))
number_next P xs at n v room sofar new p h =
    elim (ℕ_discrete p n) [
      | yes e ↦ rw (e, stored_there xs (at + 2 * n) v room) new
      | no e ↦ rw (number_other xs at n v p e) (sofar p (omega arith))
    ]
