-- The numbers 0, 1, .., n - 1 stored one after the other.
-- Assumes nothing.
use Prim.Native.Nat.{ℕ, ◌+◌, ◌*◌, ◌≤◌, ◌<◌}
use mathlib.Core.Path.{◌≡◌, refl, sym, ◌∙◌}
use mathlib.Core.List.{List, [], ◌∷◌}
use native.Mathlib.Omega.{arith}
use lib.ListN.{length}
use lib.Seq.{ext_get_or}
use Rattle.symbology.specs.Ranges.{tabulate}
use Rattle.laws.proofs.Ranges.{length_tabulate, get_d_tabulate}
use Rattle.lent.specs.Changes.{span, Changed}
use Rattle.lent.specs.Buffer.{number_at, numbers_at, stored_number, CountedUp}
use Rattle.lent.proofs.Buffer.{length_numbers, numbers_at_lem}
use Rattle.lent.proofs.Changes.{changed_stored, number_next}

-- the first j of the n numbers from `at` on are stored
pub record CountingUp (at n j : ℕ) (before after : List ℕ) : Type 0 where
  pub changed : Changed (span at (at + 2 * n) ∷ []) before after
  pub counted : (k : ℕ) → k < j → number_at after (at + 2 * k) ≡ k

module _ {at n j : ℕ} {before after : List ℕ} (r : CountingUp at n j before after) where
  pub counting_next : {later : List ℕ} → at + 2 * n ≤ length before → j < n → later ≡ stored_number after (at + 2 * j) j
      → CountingUp at n (j + 1) before later
  counting_next room h e =
      rw e record {
        changed =
            changed_stored r.changed (at + 2 * j) j (λ o. omega (arith, o.0 (omega arith))) (λ o. omega (arith, o.0 (omega arith)));
        counted = number_next (λ k v. v ≡ k) after at j j (omega (arith, r.changed.long)) r.counted refl;
      }

  pub counting_done : j ≡ n → CountedUp at n before after
  counting_done e =
      record {
        changed = r.changed;
        counted =
            ext_get_or 0 (numbers_at after at n) (tabulate n (λ k. k))
            (length_numbers after at n ∙ sym (length_tabulate n (λ k. k)))
            (λ k l.
            let low : k < n = omega (arith, length_numbers after at n) in
            numbers_at_lem after at n k low ∙ r.counted k (omega arith) ∙ sym (get_d_tabulate n (λ i. i) 0 k low));
      }
