-- A check that votes on the numbers of its bits, column after column of its row.
-- Assumes nothing.
use Rattle.std.proofs.Common.{min}
use Prim.Native.Nat.{ℕ, ◌+◌, ◌-◌, ◌*◌, ◌/◌, ◌%◌, ◌≤◌, ◌<◌}
use mathlib.Core.Path.{◌≡◌, sym, ap, ◌∙◌}
use mathlib.Core.Bool.{true, false, cond}
use mathlib.Core.List.{List, [], ◌∷◌}
use native.Mathlib.Decide.{dec_lt}
use native.Mathlib.Omega.{arith}
use lib.ListN.{length, get_or}
use Rattle.lent.specs.declared.Areas.{Areas}
use Rattle.lent.specs.Changes.{span, Changed}
use Rattle.lent.specs.Buffer.{number_at, stored_number}
use Rattle.lent.specs.Work.{Laid}
use Rattle.lent.proofs.Changes.{changed_stored, number_other, number_next}
use Rattle.dense.specs.Dense.{byte_bit, dense_bits}
use Rattle.dense.proofs.Dense.{zero_bit, rows_kept}
use Rattle.checks.specs.Checks.{stands_in}
use Rattle.checks.specs.Votes.{number_of, Votes, Voted}

-- a number, voted on where the bit stands in the check
abbrev voted_number : (stride numbers i add sub : ℕ) → List ℕ → ℕ → ℕ
voted_number stride numbers i add sub work p =
    cond (dense_bits work stride i p) (number_at work (numbers + 2 * p) + add - sub) (number_at work (numbers + 2 * p))

-- the numbers of the columns of row i up to j are voted on, of n columns
pub record VotedTo (n stride numbers i add sub j : ℕ) (before after : List ℕ) : Type 0 where
  pub changed : Changed (span numbers (numbers + 2 * n) ∷ []) before after
  pub done : (p : ℕ) → p < j → p < n → number_at after (numbers + 2 * p) ≡ voted_number stride numbers i add sub before p
  pub rest : (p : ℕ) → j ≤ p → p < n → number_at after (numbers + 2 * p) ≡ number_at before (numbers + 2 * p)

-- a row has no bit in a byte of 0
none_in : (s i b p : ℕ) (work : List ℕ) → get_or work (i * s + b) 0 ≡ 0 → 8 * b ≤ p → p < 8 * (b + 1) → dense_bits work s i p ≡ false
unfolding dense_bits
none_in s i b p work e h g =
    let here : p / 8 ≡ b = omega arith in
    rw here (ap (λ (v : ℕ). byte_bit v (p % 8)) e ∙ zero_bit (p % 8))

module _ {n stride numbers i add sub j : ℕ} {before after : List ℕ} (v : VotedTo n stride numbers i add sub j before after) where
  -- the bit stands in the check
  pub voted_in : {later : List ℕ} {number : ℕ} → numbers + 2 * n ≤ length before → j < n → dense_bits before stride i j ≡ true
      → number ≡ number_at after (numbers + 2 * j) → later ≡ stored_number after (numbers + 2 * j) (number + add - sub)
      → VotedTo n stride numbers i add sub (j + 1) before later
  voted_in {number = number} room h t read e =
      let at : ℕ = numbers + 2 * j in
      let x : ℕ = number + add - sub in
      rw e record {
        changed = changed_stored v.changed at x (λ o. omega (arith, o.0 (omega arith))) (λ o. omega (arith, o.0 (omega arith)));
        done =
            number_next (λ p w. p < n → w ≡ voted_number stride numbers i add sub before p) after numbers j x
            (omega (arith, v.changed.long)) v.done
            (λ g. rw t (ap (λ (b : ℕ). b + add - sub) (read ∙ v.rest j (omega arith) h)));
        rest = λ p l g. number_other after numbers j x p (λ s. omega arith) ∙ v.rest p (omega arith) g;
      }

  -- no bit up to some column stands in it
  voted_none : {to : ℕ} {later : List ℕ} → j ≤ to
      → ((p : ℕ) → j ≤ p → p < to → p < n → dense_bits before stride i p ≡ false)
      → later ≡ after → VotedTo n stride numbers i add sub to before later
  voted_none h none e =
      rw e record {
        changed = v.changed;
        done = λ p l g.
            elim (dec_lt p j) [
              | yes s ↦ v.done p s g
              | no s ↦ rw (none p (omega arith) l g) (v.rest p (omega arith) g)
            ];
        rest = λ p l g. v.rest p (omega arith) g;
      }

  -- the bit does not
  pub voted_out : {later : List ℕ} → dense_bits before stride i j ≡ false → later ≡ after
      → VotedTo n stride numbers i add sub (j + 1) before later
  voted_out t e = voted_none (omega arith) (λ p l m g. let s : p ≡ j = omega arith in rw s t) e

pub voted_all : {a : Areas} {i add sub j : ℕ} {before after : List ℕ}
    → VotedTo a.gross a.stride a.numbers i add sub j before after → a.gross ≤ j → Voted a i add sub before after
unfolding stands_in
voted_all v h = record { changed = v.changed; voted = λ p g. v.done p (omega arith) g }

module _ {a : Areas} {i add sub j : ℕ} {before after : List ℕ} (laid : Laid a (length before)) (inside : i < a.checks)
    (v : VotedTo a.gross a.stride a.numbers i add sub j before after) where
  -- the row stays while it votes
  pub voted_row : (p : ℕ) → p < a.gross → dense_bits after a.stride i p ≡ dense_bits before a.stride i p
  voted_row = rows_kept laid v.changed (λ q h. omega arith) i inside

  -- the vote on the next column fits
  pub voted_fits : Votes a i add sub before → j < a.gross → dense_bits after a.stride i j ≡ true
      → (sub ≤ number_of a after j + add) × (number_of a after j + add < 65536 + sub)
  unfolding stands_in
  voted_fits votes h t =
      let fits = votes.fits j h (sym (voted_row j h) ∙ t) in
      (omega (arith, fits.0, v.rest j (omega arith) h), omega (arith, fits.1, v.rest j (omega arith) h))

-- a byte of 0 is passed by
pub voted_skip : {a : Areas} {i add sub : ℕ} (b : ℕ) {before after later : List ℕ} → Laid a (length before) → i < a.checks
    → VotedTo a.gross a.stride a.numbers i add sub (8 * b) before after → get_or after (i * a.stride + b) 0 ≡ 0 → later ≡ after
    → VotedTo a.gross a.stride a.numbers i add sub (8 * (b + 1)) before later
voted_skip {a} {i} b {after = after} laid inside v none e =
    voted_none v (omega arith) (λ p l m g. sym (voted_row laid inside v p g) ∙ none_in a.stride i b p after none l m) e

-- the columns of a byte are voted on
pub voted_byte : {n stride numbers i add sub j : ℕ} (b : ℕ) {before after later : List ℕ}
    → VotedTo n stride numbers i add sub j before after → j ≤ 8 * (b + 1) → min n (8 * b + 8) ≤ j → later ≡ after
    → VotedTo n stride numbers i add sub (8 * (b + 1)) before later
voted_byte b v most all e = voted_none v most (λ p l m g. absurd (omega arith)) e
