-- The balances of the bits: made check after check, and kept up to date where a mark is turned.
-- Assumes nothing.
use Prim.Native.Nat.{ℕ, zero, suc, ◌+◌, ◌-◌, ◌*◌, ◌≤◌, ◌<◌}
use mathlib.Core.Path.{◌≡◌, refl, sym, ap, ap₂, ◌∙◌}
use mathlib.Core.Bool.{Bool, true, false, cond}
use mathlib.Core.List.{List, [], ◌∷◌}
use native.Mathlib.Decide.{ℕ_discrete}
use native.Mathlib.Numerals.{add-one}
use native.Mathlib.Omega.{arith}
use lib.ListN.{length, set}
use lib.Seq.{get_or-set_same}
use Rattle.symbology.proofs.Ranges.{clash}
use Rattle.laws.proofs.Stores.{store_each}
use Rattle.lent.specs.declared.Areas.{Areas}
use Rattle.lent.specs.Changes.{Span, span, Outside, Changed}
use Rattle.lent.specs.Buffer.{number_at, stored_number}
use Rattle.lent.specs.Work.{numbers_span, Laid}
use Rattle.lent.proofs.Buffer.{number_same}
use Rattle.lent.proofs.Changes.{changed_none, changed_wider, changed_then, changed_set, changed_stored, number_next}
use Rattle.checks.specs.Checks.{stands_in}
use Rattle.checks.specs.Votes.{number_of, Votes, Voted}
use Rattle.checks.proofs.Checks.{ChecksOutside, stands_kept}
use Rattle.syndrome.specs.Syndrome.{mark_of, MarkBits}
use Rattle.balances.specs.Balances.{count_with, unmet_with, met_with, BalancedTo, Balanced, Levelled, CheckTurned}

-- ---- counts

-- a check is counted once at most
pub counted_once : (t : Bool) (mark : ℕ) → mark ≤ 1 → cond t mark 0 + cond t (1 - mark) 0 ≤ 1
counted_once true mark h = omega arith
counted_once false mark h = omega arith

-- A bit stands in no more checks than there are.
count_few : (a : Areas) (work : List ℕ) (j n : ℕ) → ((p : ℕ) → p < n → mark_of a work p ≤ 1)
    → unmet_with a work j n + met_with a work j n ≤ n
unfolding count_with
count_few a work j zero bits = omega arith
count_few a work j (suc n) bits =
    omega (
      arith,
      count_few a work j n (λ p h. bits p (omega arith)),
      counted_once (stands_in a work n j) (mark_of a work n) (bits n (omega arith)),
    )

module _ (f : ℕ → ℕ) (a : Areas) (before after : List ℕ) (j : ℕ) where
  -- Counts are equal where checks and marks are.
  count_same : (n : ℕ) → ((p : ℕ) → p < n → stands_in a after p j ≡ stands_in a before p j)
      → ((p : ℕ) → p < n → mark_of a after p ≡ mark_of a before p)
      → count_with f a after j n ≡ count_with f a before j n
  unfolding count_with
  count_same zero stands same = refl
  count_same (suc n) stands same =
      ap₂ ◌+◌ (count_same n (λ p h. stands p (omega arith)) (λ p h. same p (omega arith)))
      (ap₂ (λ (t : Bool) (m : ℕ). cond t (f m) 0) (stands n (omega arith)) (same n (omega arith)))

  -- Where one mark differs, they differ by what it counts.
  count_turned : (n i : ℕ) → i < n → ((p : ℕ) → p < n → stands_in a after p j ≡ stands_in a before p j)
      → ((p : ℕ) → p < n → (p ≡ i → ⊥) → mark_of a after p ≡ mark_of a before p)
      → count_with f a after j n + cond (stands_in a before i j) (f (mark_of a before i)) 0
      ≡ count_with f a before j n + cond (stands_in a before i j) (f (mark_of a after i)) 0
  unfolding count_with
  count_turned zero i h stands same = absurd (omega arith)
  count_turned (suc n) i h stands same =
      let bit : stands_in a after n j ≡ stands_in a before n j = stands n (omega arith) in
      elim (ℕ_discrete n i) [
        | yes e ↦
            let less : count_with f a after j n ≡ count_with f a before j n =
            count_same n (λ p l. stands p (omega arith)) (λ p l. same p (omega arith) (λ s. omega arith)) in
            rw (← e, bit, less) (omega arith)
        | no e ↦
            let more = count_turned n i (omega arith) (λ p l. stands p (omega arith)) (λ p l. same p (omega arith)) in
            omega (arith, more, ap₂ (λ (t : Bool) (m : ℕ). cond t (f m) 0) bit (same n (omega arith) e))
      ]

-- ---- balances kept

-- the marks lie outside these spans
abbrev MarksOutside : Areas → List Span → Type 0
MarksOutside a ss = (q : ℕ) → a.marks ≤ q → q < a.marks + a.checks → Outside ss q

module _ {a : Areas} {ss : List Span} {before after : List ℕ} {room : ℕ} (laid : Laid a room) (c : Changed ss before after)
    (checks : ChecksOutside a ss) (marks : MarksOutside a ss) where
  -- the counts of a bit, where checks and marks stay
  counts_kept : (f : ℕ → ℕ) (n : ℕ) → n ≤ a.checks → (j : ℕ) → j < a.gross → count_with f a after j n ≡ count_with f a before j n
  counts_kept f n h j g =
      count_same f a before after j n (λ p l. stands_kept laid c checks p (omega arith) j g)
      (λ p l. c.kept (a.marks + p) (marks (a.marks + p) (omega arith) (omega arith)))

  -- The balances are kept where the numbers are, too.
  pub balanced_kept : ((q : ℕ) → a.numbers ≤ q → q < a.numbers + 2 * a.gross → Outside ss q) → Balanced a before → Balanced a after
  balanced_kept numbers b j g =
      let at : ℕ = a.numbers + 2 * j in
      let number : number_at after at ≡ number_at before at =
      number_same before after at (c.kept at (numbers at (omega arith) (omega arith)))
      (c.kept (at + 1) (numbers (at + 1) (omega arith) (omega arith))) in
      omega (
        arith,
        number,
        b j g,
        counts_kept (λ m. m) a.checks (omega arith) j g,
        counts_kept (λ m. 1 - m) a.checks (omega arith) j g,
      )

-- ---- all balances the same

-- the first j of n numbers are k
pub record LevelTo (k n numbers j : ℕ) (before after : List ℕ) : Type 0 where
  pub most : j ≤ n
  pub changed : Changed (span numbers (numbers + 2 * n) ∷ []) before after
  pub done : (p : ℕ) → p < j → number_at after (numbers + 2 * p) ≡ k

pub level_next : {k n numbers j : ℕ} {before after later : List ℕ} → LevelTo k n numbers j before after
    → numbers + 2 * n ≤ length before → j < n → later ≡ stored_number after (numbers + 2 * j) k
    → LevelTo k n numbers (j + 1) before later
level_next {k} {n} {numbers} {j} {before} {after} r room h e =
    let at : ℕ = numbers + 2 * j in
    rw e record {
      most = omega arith;
      changed = changed_stored r.changed at k (λ o. omega (arith, o.0 (omega arith))) (λ o. omega (arith, o.0 (omega arith)));
      done = number_next (λ p v. v ≡ k) after numbers j k (omega (arith, r.changed.long)) r.done refl;
    }

-- ---- all checks weighed

-- one check weighed
weighed_one : (t : Bool) (k mark old new met unmet : ℕ) → mark ≤ 1 → old + met ≡ k + unmet → met ≤ k
    → new ≡ cond t (old + mark - (1 - mark)) old → (t ≡ true → 1 - mark ≤ old + mark)
    → new + (met + cond t (1 - mark) 0) ≡ k + (unmet + cond t mark 0)
weighed_one true k mark old new met unmet h e l n fits = omega (arith, fits refl)
weighed_one false k mark old new met unmet h e l n fits = omega arith

-- the balances are those over the first i checks
pub record WeighedTo (a : Areas) (i : ℕ) (before after : List ℕ) : Type 0 where
  pub most : i ≤ a.checks
  pub changed : Changed (numbers_span a ∷ []) before after
  pub bits : MarkBits a after
  pub balanced : BalancedTo a i after

-- the marks, where only numbers are changed
marks_stay : {a : Areas} {room : ℕ} {before after : List ℕ} → Laid a room
    → Changed (numbers_span a ∷ []) before after → MarkBits a before → MarkBits a after
marks_stay {a} laid c bits i h = omega (arith, c.kept (a.marks + i) (omega arith), bits i h)

pub weighed_start : {a : Areas} {before start : List ℕ} → Laid a (length before) → MarkBits a before → Levelled a before start
    → WeighedTo a 0 start start
unfolding count_with
weighed_start {a} {start = start} laid bits l =
    record {
      most = omega arith;
      changed = changed_none (numbers_span a ∷ []) start;
      bits = marks_stay laid l.changed bits;
      balanced = λ j h. omega (arith, l.level j h);
    }

module _ {a : Areas} {i room : ℕ} {start after : List ℕ} (laid : Laid a room) (w : WeighedTo a i start after) where
  few : (j : ℕ) → unmet_with a after j i + met_with a after j i ≤ i
  few j = count_few a after j i (λ p l. w.bits p (omega (arith, w.most)))

  -- the next check can vote on each of its bits
  pub weighed_votes : i < a.checks → Votes a i (mark_of a after i) (1 - mark_of a after i) after
  weighed_votes h =
      let bit = w.bits i h in
      record {
        small = omega arith;
        fits = λ j g t.
            (omega (arith, few j, w.balanced j g, laid.few, laid.parts), omega (arith, few j, w.balanced j g, laid.few, laid.parts));
      }

  -- it has voted
  pub weighed_next : {later : List ℕ} → i < a.checks → Voted a i (mark_of a after i) (1 - mark_of a after i) after later
      → WeighedTo a (i + 1) start later
  unfolding count_with
  weighed_next {later} h v =
      let bit = w.bits i h in
      let kept : (f : ℕ → ℕ) (j : ℕ) → j < a.gross → count_with f a later j (i + 1) ≡ count_with f a after j (i + 1) = λ f j g.
      counts_kept laid v.changed (λ q l m. omega arith) (λ q l m. omega arith) f (i + 1) (omega arith) j g in
      record {
        most = omega arith;
        changed = changed_then w.changed v.changed;
        bits = marks_stay laid v.changed w.bits;
        balanced = λ j g.
            rw (kept (λ m. m) j g, kept (λ m. 1 - m) j g, add-one i)
            (weighed_one (stands_in a after i j) a.checks (mark_of a after i) (number_of a after j) (number_of a later j)
            (met_with a after j i) (unmet_with a after j i)
            (omega arith) (w.balanced j g) (omega (arith, few j)) (v.voted j g) (λ t. ((weighed_votes h).fits j g t).0));
      }

-- ---- a mark turned

-- the counts of a bit and its balance, and the counts with one mark turned
record Swapped (t : Bool) (k mark old met unmet met' unmet' : ℕ) : Type 0 where
  pub bit : mark ≤ 1
  pub balanced : old + met ≡ k + unmet
  pub few : unmet' + met' ≤ k
  pub unmet_is : unmet' + cond t mark 0 ≡ unmet + cond t (1 - mark) 0
  pub met_is : met' + cond t (1 - mark) 0 ≡ met + cond t (1 - (1 - mark)) 0

-- the balance that the turned mark wants
swapped_one : {t : Bool} {k mark old met unmet met' unmet' new : ℕ} → Swapped t k mark old met unmet met' unmet'
    → new ≡ cond t (old + (2 - 2 * mark) - 2 * mark) old → new + met' ≡ k + unmet'
swapped_one {t = true} s e = omega arith
swapped_one {t = false} s e = omega arith

-- it can be stored
swapped_fits : {t : Bool} {k mark old met unmet met' unmet' now : ℕ} → Swapped t k mark old met unmet met' unmet' → t ≡ true → k ≤ 4096
    → now ≡ old → (2 * mark ≤ now + (2 - 2 * mark)) × (now + (2 - 2 * mark) < 65536 + 2 * mark)
swapped_fits {t = true} s here h e = (omega arith, omega arith)
swapped_fits {t = false} s here h e = clash here refl

-- the buffer with the mark of check i turned
abbrev pub mark_turned : Areas → ℕ → List ℕ → List ℕ
mark_turned a i work = set work (a.marks + i) (1 - mark_of a work i)

module _ {a : Areas} {i : ℕ} (before : List ℕ) (laid : Laid a (length before)) (bits : MarkBits a before) (b : Balanced a before)
    (h : i < a.checks) where
  mark_changed : Changed (span (a.marks + i) (a.marks + i + 1) ∷ []) before (mark_turned a i before)
  mark_changed =
      changed_set (changed_none (span (a.marks + i) (a.marks + i + 1) ∷ []) before) (a.marks + i) (1 - mark_of a before i)
      (λ o. omega (arith, o.0 (omega arith)))

  mark_there : mark_of a (mark_turned a i before) i ≡ 1 - mark_of a before i
  mark_there = get_or-set_same before (a.marks + i) (1 - mark_of a before i) 0 (omega arith)

  mark_bits : MarkBits a (mark_turned a i before)
  mark_bits p g =
      store_each (λ q v. (k : ℕ) → q ≡ a.marks + k → k < a.checks → v ≤ 1) before (a.marks + i) (1 - mark_of a before i)
      (omega arith) (λ q e k f l. rw f (bits k l)) (λ k f l. omega arith) (a.marks + p) p refl g

  mark_stands : (p : ℕ) → p < a.checks → (j : ℕ) → j < a.gross → stands_in a (mark_turned a i before) p j ≡ stands_in a before p j
  mark_stands = stands_kept laid mark_changed (λ q l m. omega arith)

  -- the counts of a bit change by what the mark counts
  mark_counts : (f : ℕ → ℕ) (j : ℕ) → j < a.gross
      → count_with f a (mark_turned a i before) j a.checks + cond (stands_in a before i j) (f (mark_of a before i)) 0
      ≡ count_with f a before j a.checks + cond (stands_in a before i j) (f (1 - mark_of a before i)) 0
  mark_counts f j g =
      count_turned f a before (mark_turned a i before) j a.checks i h (λ p l. mark_stands p l j g)
      (λ p l e. elim (ℕ_discrete p i) [
        | yes s ↦ absurd (e s)
        | no s ↦ mark_changed.kept (a.marks + p) ((λ u. omega arith), tt)
      ])
      ∙ ap (λ (x : ℕ). count_with f a before j a.checks + cond (stands_in a before i j) (f x) 0) mark_there

  mark_number : (j : ℕ) → number_of a (mark_turned a i before) j ≡ number_of a before j
  mark_number j =
      let at : ℕ = a.numbers + 2 * j in
      number_same before (mark_turned a i before) at (mark_changed.kept at (omega arith)) (mark_changed.kept (at + 1) (omega arith))

  mark_swapped : (j : ℕ) → j < a.gross
      → Swapped (stands_in a before i j) a.checks (mark_of a before i) (number_of a before j)
      (met_with a before j a.checks) (unmet_with a before j a.checks)
      (met_with a (mark_turned a i before) j a.checks) (unmet_with a (mark_turned a i before) j a.checks)
  mark_swapped j g =
      record {
        bit = bits i h;
        balanced = b j g;
        few = count_few a (mark_turned a i before) j a.checks mark_bits;
        unmet_is = mark_counts (λ m. m) j g;
        met_is = mark_counts (λ m. 1 - m) j g;
      }

  -- the check can vote on each of its bits
  pub turned_votes : Votes a i (2 - 2 * mark_of a before i) (2 * mark_of a before i) (mark_turned a i before)
  turned_votes =
      record {
        small = omega arith;
        fits = λ j g t.
            swapped_fits (mark_swapped j g) (sym (mark_stands i h j g) ∙ t) (omega (arith, laid.few, laid.parts)) (mark_number j);
      }

  pub check_turned : {after : List ℕ} → Voted a i (2 - 2 * mark_of a before i) (2 * mark_of a before i) (mark_turned a i before) after
      → CheckTurned a i before after
  check_turned {after} v =
      let middle : List ℕ = mark_turned a i before in
      let mark : ℕ = mark_of a before i in
      let kept : (f : ℕ → ℕ) (j : ℕ) → j < a.gross → count_with f a after j a.checks ≡ count_with f a middle j a.checks = λ f j g.
      counts_kept laid v.changed (λ q l m. omega arith) (λ q l m. omega arith) f a.checks (omega arith) j g in
      record {
        changed =
            changed_then (changed_wider mark_changed (λ q o. (o.0, tt))) (changed_wider v.changed (λ q o. (o.1.0, tt)));
        turns = v.changed.kept (a.marks + i) (omega arith) ∙ mark_there;
        balanced = λ j g.
            rw (kept (λ m. m) j g, kept (λ m. 1 - m) j g)
            (swapped_one (mark_swapped j g)
            (v.voted j g
            ∙ ap₂ (λ (t : Bool) (x : ℕ). cond t (x + (2 - 2 * mark) - 2 * mark) x) (mark_stands i h j g) (mark_number j)));
      }
