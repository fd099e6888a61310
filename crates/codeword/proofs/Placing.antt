-- The net bits stored column by column: what stands in the columns passed.
-- Assumes nothing.
use Prim.Native.Nat.{ℕ, ◌+◌, ◌≤◌, ◌<◌}
use mathlib.Core.Path.{◌≡◌, refl, sym, ap, ◌∙◌}
use mathlib.Core.Bool.{Bool, true, false, cond}
use mathlib.Core.List.{List, [], ◌∷◌}
use native.Mathlib.Numerals.{add-one}
use native.Mathlib.Omega.{arith}
use lib.ListN.{length, get_or, set}
use Rattle.symbology.specs.Ranges.{tally, those}
use Rattle.laws.proofs.Counting.{number_suc}
use Rattle.laws.proofs.Stores.{store_next}
use Rattle.lent.specs.declared.Areas.{Areas}
use Rattle.lent.specs.Changes.{Changed}
use Rattle.lent.specs.Work.{word_span, Laid, net_in}
use Rattle.lent.proofs.Buffer.{part_at, part_past}
use Rattle.lent.proofs.Changes.{changed_none, changed_wider, changed_set}
use Rattle.lent.proofs.Work.{net_inside}
use Rattle.codeword.specs.Columns.{is_message, placed_bit}
use Rattle.codeword.proofs.Columns.{message_kept}

-- one more number at which the test holds, or none
count_in : (f : ℕ → Bool) (j : ℕ) → f j ≡ true → length (those (j + 1) f) ≡ length (those j f) + 1
count_in f j e =
    ap (λ (k : ℕ). length (those k f)) (add-one j) ∙ number_suc f j ∙ ap (λ (t : Bool). length (those j f) + tally t) e

count_out : (f : ℕ → Bool) (j : ℕ) → f j ≡ false → length (those (j + 1) f) ≡ length (those j f)
count_out f j e =
    let none : tally (f j) ≡ 0 = ap tally e in
    ap (λ (k : ℕ). length (those k f)) (add-one j) ∙ omega (arith, number_suc f j)

-- the columns up to j are stored, m of them message columns
pub record PlacedTo (a : Areas) (before after : List ℕ) (j m : ℕ) : Type 0 where
  pub changed : Changed (word_span a ∷ []) before after
  pub counted : m ≡ length (those j (is_message a before))
  pub passed : (c : ℕ) → c < j → get_or after (a.word + c) 0 ≡ placed_bit a before c

pub placed_start : (a : Areas) (work : List ℕ) → PlacedTo a work work 0 0
unfolding those
placed_start a work =
    record { changed = changed_none (word_span a ∷ []) work; counted = refl; passed = λ c h. absurd (omega arith) }

module _ {a : Areas} {before after : List ℕ} {j m : ℕ} (laid : Laid a (length before)) (s : PlacedTo a before after j m)
    (h : j < a.gross) where
  -- the column is of the same kind as before
  kind : is_message a after j ≡ is_message a before j
  kind = message_kept a before after laid (changed_wider s.changed (λ q o. o.1)) j

  -- what a message column holds
  placed_in : is_message a before j ≡ true
      → placed_bit a before j ≡ get_or (net_in a before) (length (those j (is_message a before))) 0
  placed_in t = ap (λ (b : Bool). cond b (get_or (net_in a before) (length (those j (is_message a before))) 0) 0) t

  -- column j is stored
  stored : (m' v : ℕ) → m' ≡ length (those (j + 1) (is_message a before)) → v ≡ placed_bit a before j
      → PlacedTo a before (set after (a.word + j) v) (j + 1) m'
  stored m' v e f =
      record {
        changed = changed_set s.changed (a.word + j) v (λ o. omega (arith, o.0 (omega arith)));
        counted = e;
        passed = store_next (λ c w. w ≡ placed_bit a before c) after a.word j v (omega (arith, s.changed.long)) s.passed f;
      }

  -- a message column that has a net bit
  pub placed_net : is_message a after j ≡ true → m < a.net → (m' v : ℕ) → m' ≡ m + 1 → v ≡ get_or after (a.message + m) 0
      → PlacedTo a before (set after (a.word + j) v) (j + 1) m'
  placed_net t l m' v e f =
      let t' : is_message a before j ≡ true = sym kind ∙ t in
      stored m' v (omega (arith, e, s.counted, count_in (is_message a before) j t'))
      (f
      ∙ s.changed.kept (a.message + m) (omega arith)
      ∙ sym (part_at before a.message a.net m l)
      ∙ ap (λ (i : ℕ). get_or (net_in a before) i 0) s.counted
      ∙ sym (placed_in t'))

  -- a spare message column
  pub placed_spare : is_message a after j ≡ true → a.net ≤ m → (m' v : ℕ) → m' ≡ m + 1 → v ≡ 0
      → PlacedTo a before (set after (a.word + j) v) (j + 1) m'
  placed_spare t l m' v e f =
      let t' : is_message a before j ≡ true = sym kind ∙ t in
      stored m' v (omega (arith, e, s.counted, count_in (is_message a before) j t'))
      (f
      ∙ sym (part_past before a.message a.net m (net_inside laid) l)
      ∙ ap (λ (i : ℕ). get_or (net_in a before) i 0) s.counted
      ∙ sym (placed_in t'))

  -- a check column
  pub placed_check : is_message a after j ≡ false → (m' v : ℕ) → m' ≡ m → v ≡ 0 → PlacedTo a before (set after (a.word + j) v) (j + 1) m'
  placed_check t m' v e f =
      let t' : is_message a before j ≡ false = sym kind ∙ t in
      stored m' v (e ∙ s.counted ∙ sym (count_out (is_message a before) j t'))
      (f ∙ sym (ap (λ (b : Bool). cond b (get_or (net_in a before) (length (those j (is_message a before))) 0) 0) t'))
