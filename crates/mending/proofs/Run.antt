-- The rule's run as a loop makes it: the repairs so far, and then those of the run from the word now, are the repairs of the run from the
-- received word.
-- Assumes nothing.
use Prim.Native.Nat.{ℕ, suc, ◌+◌, ◌*◌, ◌≤◌, ◌<◌}
use mathlib.Core.Path.{◌≡◌, refl, sym, ap, ap₂, ◌∙◌, subst, subst⁻¹}
use mathlib.Core.Bool.{false}
use mathlib.Core.List.{List, [], ◌∷◌, ◌++◌, append_assoc, append-nil, map-append}
use mathlib.Core.Logic.{inl}
use native.Mathlib.Numerals.{add-one}
use native.Mathlib.Omega.{arith}
use lib.Dec.{ltb}
use lib.ListN.{length, length-append}
use borrow.Author.Tests.{ne_eqb}
use Rattle.symbology.specs.Bits.{AllBits}
use Rattle.symbology.specs.Rule.{unmet_count, suspect, turned, ends, repairs_of, places_of, last_word, stuck}
use Rattle.symbology.specs.Steps.{LowestSuspect, Ended}
use Rattle.laws.proofs.Rule.{AllOnce, checks_once, turned_bits, step_lowers, lowest_suspect}
use Rattle.laws.proofs.Rule.{unmet_few, ended_ends, length_places}
use Rattle.laws.proofs.Steps.{run_ends, run_goes, repairs_bounded}
use Rattle.lent.specs.declared.Areas.{Areas}
use Rattle.lent.specs.Changes.{Changed}
use Rattle.lent.specs.Buffer.{number_at, numbers_at, stored_number}
use Rattle.lent.specs.Work.{word_row_span, marks_span, word_span, numbers_span, repaired_span, Laid, word_in}
use Rattle.lent.proofs.Buffer.{length_numbers, numbers_none, numbers_last, numbers_same, stored_there, stored_other}
use Rattle.lent.proofs.Changes.{changed_none, changed_wider, changed_then, changed_stored}
use Rattle.lent.proofs.Work.{laid_as, word_kept}
use Rattle.checks.specs.Checks.{stands_in, checks_in}
use Rattle.checks.proofs.Checks.{checks_kept}
use Rattle.syndrome.specs.Syndrome.{Marked, Judged}
use Rattle.syndrome.proofs.Marks.{marked_kept}
use Rattle.balances.specs.Balances.{Balanced, Weighed}
use Rattle.balances.proofs.Balances.{balanced_kept}
use Rattle.mending.specs.Mending.{BitsIn, InRepair, BitTurned, RuleRun, MendedBy}

-- ---- over words

-- the run from a word has come to another, with these repairs so far
pub record RunTo (cs : List (List ℕ)) (from now sofar : List ℕ) : Type 0 where
  pub bits : AllBits now
  pub turns : sofar ++ repairs_of cs now ≡ repairs_of cs from
  pub same_last : last_word cs now ≡ last_word cs from
  pub bounded : length sofar + unmet_count cs now ≤ unmet_count cs from

run_start : (cs : List (List ℕ)) (w : List ℕ) → AllBits w → RunTo cs w w []
run_start cs w bits = record { bits = bits; turns = refl; same_last = refl; bounded = omega arith }

goes_on : (cs : List (List ℕ)) (w : List ℕ) → 0 < unmet_count cs w → suspect cs w < length w → ends cs w ≡ false
unfolding ends
goes_on cs w h g = rw (ne_eqb (unmet_count cs w) 0 (λ e. omega arith), ne_eqb (suspect cs w) (length w) (λ e. omega arith)) refl

module _ {cs : List (List ℕ)} {from now sofar : List ℕ} (r : RunTo cs from now sofar) where
  -- The suspect bit is turned: fewer checks are unmet.
  run_next : {j : ℕ} {later : List ℕ} → AllOnce cs → LowestSuspect cs now j → later ≡ turned now j
      → RunTo cs from later (sofar ++ (j ∷ [])) × (unmet_count cs later < unmet_count cs now)
  run_next {j} {later} once low e =
      let found : suspect cs now ≡ j = lowest_suspect cs now j low in
      let less : unmet_count cs later < unmet_count cs now = rw e (step_lowers cs now j once r.bits low.inside low.suspected) in
      let ongoing : ends cs now ≡ false = goes_on cs now (omega arith) (rw found low.inside) in
      let more : (repairs_of cs now ≡ j ∷ repairs_of cs later) × (last_word cs now ≡ last_word cs later) =
      rw (e, ← found) (run_goes cs now once r.bits ongoing) in (
        record {
          bits = subst⁻¹ AllBits e (turned_bits now j r.bits);
          turns = append_assoc sofar (j ∷ []) (repairs_of cs later) ∙ ap (λ (js : List ℕ). sofar ++ js) (sym more.0) ∙ r.turns;
          same_last = sym more.1 ∙ r.same_last;
          bounded = omega (arith, r.bounded, length-append sofar (j ∷ []));
        },
        less,
      )

  -- the rule ends
  run_done : Ended cs now → (now ≡ last_word cs from) × (sofar ≡ repairs_of cs from)
  run_done e =
      let over : (repairs_of cs now ≡ []) × (last_word cs now ≡ now) = run_ends cs now (ended_ends cs now e) in
      (sym over.1 ∙ r.same_last, sym (append-nil sofar) ∙ ap (λ (js : List ℕ). sofar ++ js) (sym over.0) ∙ r.turns)

-- ---- the run over the work buffer

-- the places of one bit more
places_last : (js : List ℕ) (j : ℕ) → places_of (js ++ (j ∷ [])) ≡ places_of js ++ (suc j ∷ [])
unfolding places_of
places_last js j = map-append suc js (j ∷ [])

-- the run over the buffer, with the list of repairs so far
pub record MendedTo (a : Areas) (start work : List ℕ) (repairs : ℕ) : Type 0 where
  pub laid : Laid a (length work)
  pub changed : Changed (marks_span a ∷ word_span a ∷ numbers_span a ∷ repaired_span a ∷ []) start work
  pub marked : Marked a work
  pub balanced : Balanced a work
  pub sofar : List ℕ
  pub run : RunTo (checks_in a start) (word_in a start) (word_in a work) sofar
  pub places : numbers_at work a.repaired repairs ≡ places_of sofar

-- it starts with marks and balances made
pub mended_start : {a : Areas} {start : List ℕ} → InRepair a start → MendedTo a start start 0
unfolding places_of
mended_start {a} {start} r =
    record {
      laid = r.laid;
      changed = changed_none (marks_span a ∷ word_span a ∷ numbers_span a ∷ repaired_span a ∷ []) start;
      marked = r.marked;
      balanced = r.balanced;
      sofar = [];
      run = run_start (checks_in a start) (word_in a start) r.bits;
      places = numbers_none start a.repaired;
    }

module _ {a : Areas} {start work : List ℕ} {repairs : ℕ} (m : MendedTo a start work repairs) where
  -- so many repairs are in the list
  many : repairs ≡ length m.sofar
  many = sym (length_numbers work a.repaired repairs) ∙ ap length m.places ∙ length_places m.sofar

  -- the checks are those at the start
  same_checks : checks_in a work ≡ checks_in a start
  same_checks = let laid = m.laid in checks_kept laid m.changed (λ q l g. omega arith)

  -- the rule ends
  pub mended_all : Ended (checks_in a work) (word_in a work) → RuleRun a start work repairs
  mended_all over =
      let ended : Ended (checks_in a start) (word_in a work) = rw same_checks at over in
      let done = run_done m.run ended in
      record {
        changed = m.changed;
        word_is = done.0;
        repairs_are = many ∙ ap length done.1;
        places_are = m.places ∙ ap places_of done.1;
        marked = m.marked;
      }

  -- a step turns a bit
  module _ {j : ℕ} {turned_once : List ℕ} (low : LowestSuspect (checks_in a work) (word_in a work) j)
      (t : BitTurned a j work turned_once) where
    -- the run goes on, with fewer checks unmet
    onward : RunTo (checks_in a start) (word_in a start) (word_in a turned_once) (m.sofar ++ (j ∷ []))
        × (unmet_count (checks_in a start) (word_in a turned_once) < unmet_count (checks_in a start) (word_in a work))
    onward =
        run_next m.run (checks_once a.checks a.gross (stands_in a start))
        (subst (λ (cs : List (List ℕ)). LowestSuspect cs (word_in a work) j) same_checks low) t.word_is

    -- there is room for its place in the list, which has one for each check: each repair lowers the number of unmet ones
    pub place_room : repairs < a.checks
    place_room =
        omega (arith, many, m.run.bounded, onward.1, unmet_few a.checks a.gross (stands_in a start) (word_in a start))

    -- its place is stored behind the others
    module _ {later : List ℕ} (e : later ≡ stored_number turned_once (a.repaired + 2 * repairs) (j + 1)) where
      here : Laid a (length turned_once)
      here = laid_as m.laid t.changed.long

      stored : Changed (repaired_span a ∷ []) turned_once later
      stored =
          let laid = m.laid in
          rw e
          (changed_stored (changed_none (repaired_span a ∷ []) turned_once) (a.repaired + 2 * repairs) (j + 1)
          (λ o. omega (arith, place_room, o.0 (omega arith))) (λ o. omega (arith, place_room, o.0 (omega arith))))

      word_stays : word_in a later ≡ word_in a turned_once
      word_stays = let laid = here in word_kept laid stored (λ q l g. omega arith)

      places_more : numbers_at later a.repaired (repairs + 1) ≡ places_of (m.sofar ++ (j ∷ []))
      places_more =
          let laid = m.laid in
          let at : ℕ = a.repaired in
          let before : numbers_at later at repairs ≡ numbers_at work at repairs =
          rw e
          (numbers_same work (stored_number turned_once (at + 2 * repairs) (j + 1)) at repairs
          (λ i l g.
          stored_other turned_once (at + 2 * repairs) (j + 1) i (λ f. omega arith) (λ f. omega arith)
          ∙ t.changed.kept i (omega arith))) in
          let new : number_at later (at + 2 * repairs) ≡ suc j =
          rw e (stored_there turned_once (at + 2 * repairs) (j + 1) (omega (arith, place_room, here.repaired_end)) ∙ add-one j) in
          numbers_last later at repairs
          ∙ ap₂ (λ (xs : List ℕ) (v : ℕ). xs ++ (v ∷ [])) (before ∙ m.places) new
          ∙ sym (places_last m.sofar j)

      pub mended_next : MendedTo a start later (repairs + 1)
          × (unmet_count (checks_in a start) (word_in a later) < unmet_count (checks_in a start) (word_in a work))
      mended_next =
          let laid = here in (
            record {
              laid = laid_as laid stored.long;
              changed =
                  changed_then (changed_then m.changed (changed_wider t.changed (λ q o. (o.0, (o.1.0, (o.1.1.0, tt))))))
                  (changed_wider stored (λ q o. o.1.1.1));
              marked = marked_kept laid stored (λ q l g. omega arith) (λ q l g. omega arith) (λ q l g. omega arith) t.marked;
              balanced = balanced_kept laid stored (λ q l g. omega arith) (λ q l g. omega arith) (λ q l g. omega arith) t.balanced;
              sofar = m.sofar ++ (j ∷ []);
              run = rw word_stays onward.0;
              places = places_more;
            },
            rw word_stays onward.1,
          )

-- ---- the word mended

-- marks and balances are made, and nothing else is changed but the row behind the rows
pub record Ready (a : Areas) (before after : List ℕ) (first : ℕ) : Type 0 where
  pub changed : Changed (word_row_span a ∷ marks_span a ∷ numbers_span a ∷ []) before after
  pub marked : Marked a after
  pub balanced : Balanced a after
  pub first_is : first ≡ unmet_count (checks_in a before) (word_in a before)

pub ready : {a : Areas} {before middle after : List ℕ} {first : ℕ} → Laid a (length before) → Judged a before middle first
    → Weighed a middle after → Ready a before after first
ready {a} {middle = middle} laid m w =
    let here : Laid a (length middle) = laid_as laid m.changed.long in
    record {
      changed =
          changed_then (changed_wider m.changed (λ q o. (o.0, (o.1.0, tt)))) (changed_wider w.changed (λ q o. o.1.1));
      marked = marked_kept here w.changed (λ q l g. omega arith) (λ q l g. omega arith) (λ q l g. omega arith) m.marked;
      balanced = w.balanced;
      first_is = m.number_is;
    }

module _ {a : Areas} {before start : List ℕ} {first : ℕ} (laid : Laid a (length before)) (r : Ready a before start first) where
  -- the checks are those before, and so is the word
  ready_checks : checks_in a start ≡ checks_in a before
  ready_checks = checks_kept laid r.changed (λ q l g. omega arith)

  ready_word : word_in a start ≡ word_in a before
  ready_word = word_kept laid r.changed (λ q l g. omega arith)

  -- what running the rule asks for
  pub ready_bits : BitsIn a before → InRepair a start
  ready_bits bits =
      record {
        laid = laid_as laid r.changed.long;
        bits = subst⁻¹ AllBits ready_word bits;
        marked = r.marked;
        balanced = r.balanced;
      }

-- Marks and balances were made, the rule was run, and `left` checks are unmet then.
pub mended_run : {a : Areas} {before start after : List ℕ} {first repairs left : ℕ} → Laid a (length before) → BitsIn a before
    → Ready a before start first → RuleRun a start after repairs → left ≡ unmet_count (checks_in a after) (word_in a after)
    → MendedBy a before after repairs first (ltb 0 left)
unfolding stuck
mended_run {a} {before} {start} {after} {repairs = repairs} laid bits r m e =
    let cs : List (List ℕ) = checks_in a before in
    let w : List ℕ = word_in a before in
    let there = laid_as laid r.changed.long in
    let checks : checks_in a start ≡ cs = ready_checks laid r in
    let word : word_in a start ≡ w = ready_word laid r in
    let last : word_in a after ≡ last_word cs w = m.word_is ∙ ap₂ last_word checks word in
    let repaired : repairs_of (checks_in a start) (word_in a start) ≡ repairs_of cs w = ap₂ repairs_of checks word in
    let counted : repairs ≡ length (repairs_of cs w) = m.repairs_are ∙ ap length repaired in
    record {
      changed =
          changed_then (changed_wider r.changed (λ q o. (o.0, (o.1.0, (o.1.1.1.0, tt)))))
          (changed_wider m.changed (λ q o. o.1));
      word_is = last;
      repairs_are = counted;
      places_are = m.places_are ∙ ap places_of repaired;
      first_is = r.first_is;
      bounded = omega (arith, counted, r.first_is, repairs_bounded cs w (checks_once a.checks a.gross (stands_in a before)) bits);
      stuck_is = ap (ltb 0) (e ∙ ap₂ unmet_count (checks_kept there m.changed (λ q l g. omega arith) ∙ checks) last);
      marked = m.marked;
    }

-- No check is unmet at the start: the rule ends there.
pub mended_none : {a : Areas} {before start : List ℕ} {first : ℕ} → Laid a (length before) → Judged a before start first → first ≡ 0
    → MendedBy a before start 0 0 false
unfolding stuck places_of
mended_none {a} {before} {start} laid k none =
    let cs : List (List ℕ) = checks_in a before in
    let met : 0 ≡ unmet_count cs (word_in a before) = sym none ∙ k.number_is in
    let over : (repairs_of cs (word_in a before) ≡ []) × (last_word cs (word_in a before) ≡ word_in a before) =
    run_ends cs (word_in a before) (ended_ends cs (word_in a before) (inl (sym met))) in
    record {
      changed = changed_wider k.changed (λ q o. (o.0, (o.1.0, tt)));
      word_is = word_kept laid k.changed (λ q l g. omega arith) ∙ sym over.1;
      repairs_are = sym (ap length over.0);
      places_are = numbers_none start a.repaired ∙ sym (ap places_of over.0);
      first_is = met;
      bounded = omega arith;
      stuck_is = ap (ltb 0) (met ∙ ap (unmet_count cs) (sym over.1));
      marked = k.marked;
    }
