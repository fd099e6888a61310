-- Demand 3 about the whole defined read: a read that reaches the checks mends by the rule, from the received word to the rule's end,
-- and its answer, counts and places come from that run.
-- Assumes nothing.
use Prim.Native.Nat.{ℕ, suc, ◌≤◌, ◌<◌}
use mathlib.Core.Path.{◌≡◌, refl, sym, ap, ◌∙◌, subst⁻¹}
use mathlib.Core.Bool.{true, false}
use mathlib.Core.List.{List, ◌∷◌, ◌++◌, map}
use native.Mathlib.Omega.{arith}
use native.Mathlib.Decide.{dec_lt}
use lib.ListN.{length, drop}
use Rattle.symbology.specs.declared.Params.{Params}
use Rattle.symbology.specs.declared.Sizes.{Sizes}
use Rattle.symbology.specs.Ranges.{has}
use Rattle.symbology.specs.Bits.{AllBits}
use Rattle.symbology.specs.Capacity.{sizes_for}
use Rattle.symbology.specs.Rule.{unmet_count, repairs_of, places_of, last_word, stuck}
use Rattle.symbology.specs.Code.{checks_for}
use Rattle.symbology.specs.Symbol.{received_word}
use Rattle.laws.proofs.Ranges.{by}
use Rattle.laws.proofs.Rule.{AllOnce}
use Rattle.laws.proofs.Steps.{rule_steps, rule_lowers, rule_ends, rule_only, steps_turn, repairs_bounded}
use Rattle.laws.proofs.Steps.{stuck_means, not_stuck, unmet_stuck, met_not_stuck}
use Rattle.laws.proofs.Symbols.{received_bits_lem, length_received, symbol_once}
use Rattle.calls.specs.declared.Counts.{Counts}
use Rattle.calls.specs.declared.ReadAnswer.{ReadAnswer}
use Rattle.calls.specs.Answers.{counted, counts_in}
use Rattle.calls.specs.Tests.{Row, short_places, stream_rows, accepted_rows, received_rows, reaches_checks}
use Rattle.calls.specs.Read.{message_in, places_in, front_after, answer_from_accepted, answer_from_received, received_counts, read_answer}
use Rattle.calls.specs.Read.{counts_of}
use Rattle.calls.specs.Write.{work_after}
use Rattle.calls.specs.Mending.{Mends}
use Rattle.calls.specs.Promises.{Reads}
use Rattle.call_laws.proofs.Tests.{Each, each_other}
use Rattle.call_laws.proofs.Stages.{from_stuck, from_short, from_mended, received_keeps}
use Rattle.call_laws.proofs.Stages.{reaches_legal, reaches_gives, reaches_counts}
use Rattle.call_laws.proofs.Answers.{refused_front, done_front}
use Rattle.call_laws.proofs.Places.{many_places, read_places, places_short}

module _ (p : Params) (l matrix before slice : List ℕ) (work : ℕ) (reaching : reaches_checks p l matrix work ≡ true) where
  abbrev checks : List (List ℕ)
  checks = checks_for (sizes_for p l)

  abbrev word : List ℕ
  word = received_word p l matrix

  -- the counts before and after its mending
  abbrev got : Counts
  got = received_counts p l matrix

  abbrev counts : Counts
  counts = counts_of p l matrix

  -- the answer, and the one that the read gives where the rule's last word is accepted and the places fit
  abbrev answered : ReadAnswer
  answered = read_answer p l matrix work (length before) (length slice)

  abbrev onward : ReadAnswer
  onward = answer_from_accepted (sizes_for p l) (last_word checks word) counts (length before)

  -- the answer is the one from the received word
  received : answered ≡ answer_from_received (sizes_for p l) word got (length before) (length slice)
  received = reaches_gives p l matrix work (length before) (length slice) reaching

  at_stuck : stuck checks word ≡ true → answered ≡ counted counts 9 0
  at_stuck t = received ∙ from_stuck (sizes_for p l) word got (length before) (length slice) t

  at_short : stuck checks word ≡ false → length slice < length (repairs_of checks word) → answered ≡ counted counts 16 0
  at_short t more = received ∙ from_short (sizes_for p l) word got (length before) (length slice) t more

  at_mended : stuck checks word ≡ false → length (repairs_of checks word) ≤ length slice → answered ≡ onward
  at_mended t few = received ∙ from_mended (sizes_for p l) word got (length before) (length slice) t few

  -- its number is 9 exactly where the word is stuck
  is_nine : stuck checks word ≡ true → answered.number ≡ 9
  is_nine t = ap (λ (a : ReadAnswer). a.number) (at_stuck t)

  nine_stuck : answered.number ≡ 9 → stuck checks word ≡ true
  unfolding has Each stream_rows accepted_rows received_rows
  nine_stuck =
      let s : Sizes = sizes_for p l in
      let stuck_there : Type 0 = stuck checks word ≡ true in
      let Q : ReadAnswer → Type 0 = λ a. a.number ≡ 9 → stuck_there in
      let rows : List Row = short_places s word (length slice) ∷ accepted_rows s (last_word checks word) (length before) in
      subst⁻¹ Q received
      (received_keeps s word got (length before) (length slice) Q (λ t z. t, each_other 9 (λ r. stuck_there) rows refl)
      (λ few fits z. absurd (omega arith)))

  is_mended : (answered.number ≡ 9 → ⊥) → stuck checks word ≡ false
  is_mended other = by (stuck checks word) (λ t. absurd (other (is_nine t))) (λ t. t)

  -- and 16 where it is not and there are more repairs than the slice holds
  is_sixteen : stuck checks word ≡ false → length slice < length (repairs_of checks word) → answered.number ≡ 16
  is_sixteen t more = ap (λ (a : ReadAnswer). a.number) (at_short t more)

  is_enough : stuck checks word ≡ false → (answered.number ≡ 16 → ⊥) → length (repairs_of checks word) ≤ length slice
  is_enough t other =
      elim (dec_lt (length slice) (length (repairs_of checks word))) [
        | yes more ↦ absurd (other (is_sixteen t more))
        | no few ↦ omega arith
      ]

  -- the counts reported are the matrix's
  reported : counts_in answered ≡ counts
  reported = reaches_counts p l matrix work (length before) (length slice) reaching

  when_unmet : 0 < unmet_count checks (last_word checks word)
      → (answered ≡ counted (counts_in answered) 9 0)
      × (front_after answered.number (message_in p l matrix) before ≡ before)
  when_unmet some =
      let t : stuck checks word ≡ true = unmet_stuck checks word some in
      let nine : answered.number ≡ 9 = is_nine t in (
        at_stuck t ∙ ap (λ (c : Counts). counted c 9 0) (sym reported),
        refused_front answered.number (message_in p l matrix) before (λ zero_is. omega arith),
      )

  when_more : unmet_count checks (last_word checks word) ≡ 0
      → length slice < length (repairs_of checks word)
      → (answered ≡ counted (counts_in answered) 16 0)
      × (front_after answered.number (message_in p l matrix) before ≡ before)
  when_more none more =
      let t : stuck checks word ≡ false = met_not_stuck checks word none in
      let sixteen : answered.number ≡ 16 = is_sixteen t more in (
        at_short t more ∙ ap (λ (c : Counts). counted c 16 0) (sym reported),
        refused_front answered.number (message_in p l matrix) before (λ zero_is. omega arith),
      )

  goes_on : (answered.number ≡ 9 → ⊥)
      → (answered.number ≡ 16 → ⊥)
      → answered ≡ answer_from_accepted (sizes_for p l) (last_word checks word) (counts_in answered) (length before)
  goes_on other enough =
      let t : stuck checks word ≡ false = is_mended other in
      at_mended t (is_enough t enough)
      ∙ ap (λ (c : Counts). answer_from_accepted (sizes_for p l) (last_word checks word) c (length before)) (sym reported)

  -- on 0 the places stand over the front of the slice
  stored : answered.number ≡ 0
      → (length (repairs_of checks word) ≤ length slice)
      × (front_after answered.number (places_in p l matrix) slice
      ≡ map suc (repairs_of checks word) ++ drop (length (repairs_of checks word)) slice)
  unfolding places_in places_of
  stored zero_is =
      let found : List ℕ = places_in p l matrix in
      let many : length found ≡ length (repairs_of checks word) = many_places p l matrix in
      let few : length found ≤ length slice = (read_places p l matrix work (length before) (length slice) zero_is).1 in (
        omega arith,
        ap (λ (n : ℕ). front_after n found slice) zero_is ∙ done_front found slice few ∙ ap (λ (n : ℕ). found ++ drop n slice) many,
      )

-- Whatever matrix is sampled, with whatever parameters, list and buffers, a read that reaches the checks mends by the rule, run from
-- the received word to its end.
pub mends : (p : Params) (l matrix before slice : List ℕ) (work : ℕ)
    → reaches_checks p l matrix work ≡ true
    → let a = read_answer p l matrix work (length before) (length slice) in
    Mends p l matrix before slice a
    (front_after a.number (message_in p l matrix) before) (front_after a.number (places_in p l matrix) slice)
unfolding message_in
mends p l matrix before slice work reaching =
    let cs : List (List ℕ) = checks_for (sizes_for p l) in
    let w : List ℕ = received_word p l matrix in
    let once : AllOnce cs = symbol_once (sizes_for p l) in
    let bits : AllBits w = received_bits_lem p l matrix in
    let a : ReadAnswer = read_answer p l matrix work (length before) (length slice) in
    let same : counts_in a ≡ counts_of p l matrix = reported p l matrix before slice work reaching in
    let repairs : a.repairs ≡ length (repairs_of cs w) = ap (λ (c : Counts). c.repairs) same in
    let unmet : a.unmet ≡ unmet_count cs w = ap (λ (c : Counts). c.unmet) same in
    let met : (a.number ≡ 9 → ⊥) → unmet_count cs (last_word cs w) ≡ 0 =
    λ other. not_stuck cs w (is_mended p l matrix before slice work reaching other) in
    record {
      whole = length_received p l matrix (reaches_legal p l matrix work reaching).symbol;
      repaired = repairs_of cs w;
      last = last_word cs w;
      steps = rule_steps cs w once bits;
      lowers = rule_lowers cs w once bits;
      ended = rule_ends cs w once bits;
      only = rule_only cs w once bits;
      turning = steps_turn cs w (repairs_of cs w) (last_word cs w) (rule_steps cs w once bits);
      repairs_are = repairs;
      unmet_is = unmet;
      bounded = omega (arith, repairs, unmet, repairs_bounded cs w once bits);
      is_stuck = when_unmet p l matrix before slice work reaching;
      when_stuck = λ nine. stuck_means cs w (nine_stuck p l matrix before slice work reaching nine);
      accepted = met;
      is_short = when_more p l matrix before slice work reaching;
      when_short = λ sixteen.
          let more = places_short p l matrix work (length before) (length slice) sixteen in
          (met (λ nine. omega arith), omega (arith, repairs));
      goes_on = λ other enough. (goes_on p l matrix before slice work reaching other enough, refl);
      places = stored p l matrix before slice work reaching;
      no_places = λ some. refused_front a.number (places_in p l matrix) slice some;
    }

-- A read that gives the defined answer and leaves the defined buffers is all that `Reads` says: it mends as the definition does.
pub reads_are : (p : Params) (l matrix work message places : List ℕ) {a : ReadAnswer} {work' message' places' : List ℕ}
    → a ≡ read_answer p l matrix (length work) (length message) (length places)
    → message' ≡ front_after a.number (message_in p l matrix) message
    → places' ≡ front_after a.number (places_in p l matrix) places
    → work' ≡ work_after p l (length matrix) work
    → Reads p l matrix work message places a work' message' places'
reads_are p l matrix work message places {a} e m q w =
    record {
      answer_is = e;
      message_is = m;
      places_are = q;
      work_is = w;
      mends = λ reaching. rw (m, q, e) (mends p l matrix message places (length work) reaching);
    }
