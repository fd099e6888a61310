-- The answers of the stages, and the message buffer and the places at exit: what a refusal of 7, 9, 16 or 10 gives, and what the stage
-- behind hands on.
-- Assumes nothing.
use Prim.Native.Nat.{ℕ, ◌+◌, ◌*◌, ◌≤◌, ◌<◌}
use mathlib.Core.Path.{◌≡◌, refl, sym, ap, ap₂, ◌∙◌, subst⁻¹}
use mathlib.Core.Bool.{Bool, true, false}
use mathlib.Core.List.{List, [], ◌∷◌}
use Rattle.std.specs.Prelude.{Result, Ok, Err, ◌⊎◌}
use Rattle.std.proofs.Common.{inl, inr}
use native.Mathlib.Omega.{arith}
use lib.ListN.{length, take, drop}
use lib.Seq.{sets}
use borrow.Author.Tests.{lt-ltb, le-ltb}
use Rattle.symbology.specs.declared.Params.{Params}
use Rattle.symbology.specs.declared.Sizes.{Sizes}
use Rattle.symbology.specs.Capacity.{sizes_for}
use Rattle.symbology.specs.Bits.{any_one}
use Rattle.symbology.specs.Rule.{repairs_of, places_of, last_word, stuck}
use Rattle.symbology.specs.Code.{matrix_for, checks_for, message_bits_for}
use Rattle.symbology.specs.Placement.{first_bad_module}
use Rattle.symbology.specs.Symbol.{received_word, wrong_stuffing}
use Rattle.calls.specs.declared.Counts.{Counts}
use Rattle.calls.specs.declared.Refusal.{Refusal}
use Rattle.calls.specs.declared.ReadAnswer.{ReadAnswer}
use Rattle.calls.specs.Answers.{StreamAnswer, counted, refused, from_stream, stream_refused, stream_done}
use Rattle.calls.specs.Refusals.{refusal_number, read_told, stream_told}
use Rattle.calls.specs.Tests.{first_of, stream_rows, spare_one, bad_module, front_rows, early_rows, is_legal}
use Rattle.calls.specs.Read.{message_in_accepted, message_in_net, message_in, places_in, front_after, stream_answer}
use Rattle.calls.specs.Read.{answer_from_accepted, mended_counts, answer_from_received, received_counts, read_answer}
use Rattle.laws.proofs.Rule.{unmet_few}
use Rattle.call_laws.proofs.Tests.{Each, first_keeps, first_append, first_hit, first_miss, first_none, first_passed}
use Rattle.call_laws.proofs.Stages.{accepted_stream, accepted_spare, from_stuck, from_short, from_mended}
use Rattle.call_laws.proofs.Answers.{refused_front}
use Rattle.call_laws.proofs.Refusals.{numbered, unplaced}
use Rattle.lent.specs.declared.Areas.{Areas}
use Rattle.lent.specs.Changes.{Changed}
use Rattle.lent.specs.Buffer.{numbers_at}
use Rattle.lent.specs.Work.{rows_span, marks_span, numbers_span, net_span, RoomFor, word_in, net_in}
use Rattle.lent.proofs.Buffer.{numbers_same}
use Rattle.lent.proofs.Work.{repaired_inside, room_laid, net_areas}
use Rattle.coding.specs.Stages.{WordMended, MessageTaken}
use Rattle.ldpc.proofs.Stages.{checks_for_lem, message_for}
use Rattle.stream_reader.specs.Reading.{NetRead}
use Rattle.symbol_reader.specs.Stages.{Answered, AnsweredWithPlaces}

-- a refusal that is the defined answer, and a buffer as it came
refusal : (message before : List ℕ) {defined k a : ReadAnswer} → (k.number ≡ 0 → ⊥) → a ≡ k → defined ≡ k
    → Answered defined message before a before
refusal message before {a = a} some e same =
    let other : a.number ≡ 0 → ⊥ = λ z. some (sym (ap (λ (x : ReadAnswer). x.number) e) ∙ z) in
    record { answer_is = e ∙ sym same; message_is = sym (refused_front a.number message before other) }

-- with the places as they came
refusal_with : (message places before slice : List ℕ) {defined k a : ReadAnswer} → (k.number ≡ 0 → ⊥) → a ≡ k → defined ≡ k
    → AnsweredWithPlaces defined message places before slice a before slice
refusal_with message places before slice {a = a} some e same =
    let other : a.number ≡ 0 → ⊥ = λ z. some (sym (ap (λ (x : ReadAnswer). x.number) e) ∙ z) in
    record { answered = refusal message before some e same; places_are = sym (refused_front a.number places slice other) }

-- ---- what net bits give

-- what net bits are refused for comes behind the test 7
stream_late : (net : List ℕ) (room : ℕ) (r : Refusal) → stream_told (Err r) ≡ stream_answer net room → 7 < refusal_number r
unfolding stream_answer stream_rows Each
stream_late net room r is =
    let Q : StreamAnswer → Type 0 = λ a. (a.number ≡ 0) ⊎ (7 < a.number) in
    let kept : Q (stream_answer net room) =
    first_keeps stream_refused Q (stream_rows net room) (stream_done (length (message_in_net net)))
    (λ t. inr (omega arith), (λ t. inr (omega arith), (λ t. inr (omega arith), (λ t. inr (omega arith), tt)))) (λ e. inl refl) in
    let here : Q (stream_told (Err r)) = subst⁻¹ Q is kept in
    elim here [ inl z ↦ absurd (numbered r z) | inr h ↦ h ]

-- so what they give is told with the place 0
placeless : (c : Counts) (net : List ℕ) (room : ℕ) (r : Result ℕ Refusal) → stream_told r ≡ stream_answer net room
    → read_told c r ≡ from_stream c (stream_told r)
placeless c net room (Ok n) is = refl
placeless c net room (Err r) is =
    let late : 7 < refusal_number r = stream_late net room r is in
    ap (λ (place : ℕ). counted c (refusal_number r) place) (unplaced r late)

-- ---- from the accepted word

module _ (s : Sizes) (w : List ℕ) (c : Counts) (room : ℕ) (before : List ℕ) where
  abbrev FromAccepted : ReadAnswer → List ℕ → Type 0
  FromAccepted a after = Answered (answer_from_accepted s w c room) (message_in_accepted s w) before a after

  -- 10: a spare message column is 1
  pub spare_one_lem : {a : ReadAnswer} → (spare_one s w).test ≡ true → a ≡ counted c 10 0 → FromAccepted a before
  spare_one_lem t e = refusal (message_in_accepted s w) before (λ z. omega arith) e (accepted_spare s w c room t)

  -- none is
  pub spare_none : (r : Result ℕ Refusal) {after net : List ℕ} → (spare_one s w).test ≡ false
      → net ≡ take s.net (message_bits_for s w)
      → NetRead net room before after (stream_told r)
      → FromAccepted (read_told c r) after
  unfolding message_in_accepted
  spare_none r {net = net} t same read =
      let e : read_told c r ≡ from_stream c (stream_told r) = placeless c net room r read.answer_is in
      record {
        answer_is =
            e
            ∙ ap (from_stream c) (read.answer_is ∙ ap (λ (x : List ℕ). stream_answer x room) same)
            ∙ sym (accepted_stream s w c room t);
        message_is =
            read.message_is
            ∙ ap (λ (x : List ℕ). front_after (stream_told r).number (message_in_net x) before) same
            ∙ ap (λ (b : ReadAnswer). front_after b.number (message_in_accepted s w) before) (sym e);
      }

-- a refusal, with the places as they came
pub refused_mended : (c : Counts) (message places : List ℕ) {before after slice : List ℕ} {defined : ReadAnswer} (r : Refusal)
    → Answered defined message before (read_told c (Err r)) after
    → AnsweredWithPlaces defined message places before slice (read_told c (Err r)) after slice
refused_mended c message places {slice = slice} r read =
    record { answered = read; places_are = sym (refused_front (refusal_number r) places slice (numbered r)) }

-- ---- the message taken from the accepted word

module _ {s : Sizes} {a : Areas} {room : ℕ} {before after : List ℕ} {spare : Bool} (r : RoomFor s a room)
    (t : MessageTaken a (matrix_for s) before after spare) where
  -- whether a spare message column is 1
  pub spare_told : spare ≡ (spare_one s (word_in a before)).test
  spare_told =
      t.spare_is
      ∙ ap₂ (λ (n : ℕ) (bs : List ℕ). any_one (drop n bs)) (net_areas r) (message_for r (word_in a before))

  -- the net bits
  pub net_told : net_in a after ≡ take s.net (message_bits_for s (word_in a before))
  net_told = t.message_is ∙ ap₂ take (net_areas r) (message_for r (word_in a before))

-- ---- the places of the repairs

module _ {s : Sizes} {a : Areas} {before after : List ℕ} (r : RoomFor s a (length before)) (n : ℕ) (few : n ≤ a.checks)
    (c : Changed (rows_span a ∷ marks_span a ∷ numbers_span a ∷ net_span a ∷ []) before after) where
  -- they lie in the buffer that the message was taken into
  pub places_inside : a.repaired + 2 * n ≤ length after
  places_inside = omega (arith, repaired_inside (room_laid r), c.long)

  -- and are there as they were
  places_kept : numbers_at after a.repaired n ≡ numbers_at before a.repaired n
  places_kept = let laid = room_laid r in numbers_same before after a.repaired n (λ i l g. c.kept i (omega arith))

  -- on 0 they are stored
  pub stored_places : (slice : List ℕ) {number : ℕ} {stored : List ℕ} → number ≡ 0 → stored ≡ sets slice 0 (numbers_at after a.repaired n)
      → stored ≡ front_after number (numbers_at before a.repaired n) slice
  unfolding front_after
  stored_places slice zero_is e = e ∙ ap (sets slice 0) places_kept ∙ rw zero_is refl

-- ---- from the received word

module _ (s : Sizes) (w : List ℕ) (got : Counts) (room : ℕ) (before slice : List ℕ) where
  abbrev FromReceived : ReadAnswer → List ℕ → List ℕ → Type 0
  FromReceived a after stored =
      AnsweredWithPlaces (answer_from_received s w got room (length slice)) (message_in_accepted s (last_word (checks_for s) w))
      (places_of (repairs_of (checks_for s) w)) before slice a after stored

module _ {s : Sizes} {a : Areas} {size : ℕ} {work mended : List ℕ} {repairs unmet : ℕ} {stuck_there : Bool} (r : RoomFor s a size)
    (m : WordMended a (matrix_for s) work mended repairs unmet stuck_there) (got : Counts) (room : ℕ) (before slice : List ℕ) where
  abbrev w : List ℕ
  w = word_in a work

  abbrev counts : Counts
  counts = record { repairs = repairs; unmet = unmet; stuffing = got.stuffing }

  counts_are : counts ≡ mended_counts s w got
  counts_are = rw (m.repairs_are, m.first_is, checks_for_lem r) refl

  many : repairs ≡ length (repairs_of (checks_for s) w)
  many = ap (λ (c : Counts). c.repairs) counts_are

  stuck_told : stuck_there ≡ stuck (checks_for s) w
  stuck_told = m.stuck_is ∙ ap (λ (cs : List (List ℕ)). stuck cs w) (checks_for_lem r)

  last_is : word_in a mended ≡ last_word (checks_for s) w
  last_is = m.word_is ∙ ap (λ (cs : List (List ℕ)). last_word cs w) (checks_for_lem r)

  listed : numbers_at mended a.repaired repairs ≡ places_of (repairs_of (checks_for s) w)
  listed = m.places_are ∙ ap (λ (cs : List (List ℕ)). places_of (repairs_of cs w)) (checks_for_lem r)

  -- the list has room for them
  pub repairs_few : repairs ≤ a.checks
  repairs_few = omega (arith, m.bounded, m.first_is, unmet_few a.checks a.gross (matrix_for s) w)

  -- 9 or 16, where it is the defined answer
  refused_late : (number : ℕ) {answer : ReadAnswer} → (number ≡ 0 → ⊥) → answer ≡ counted counts number 0
      → answer_from_received s w got room (length slice) ≡ counted (mended_counts s w got) number 0
      → FromReceived s w got room before slice answer before slice
  refused_late number some e same =
      refusal_with (message_in_accepted s (last_word (checks_for s) w)) (places_of (repairs_of (checks_for s) w)) before slice some e
      (same ∙ ap (λ (c : Counts). counted c number 0) (sym counts_are))

  -- 9: stuck
  pub stuck_word_lem : {answer : ReadAnswer} → stuck_there ≡ true → answer ≡ counted counts 9 0
      → FromReceived s w got room before slice answer before slice
  stuck_word_lem t e = refused_late 9 (λ z. omega arith) e (from_stuck s w got room (length slice) (sym stuck_told ∙ t))

  -- 16: more repairs than places
  pub short_places_lem : {answer : ReadAnswer} → stuck_there ≡ false → length slice < repairs → answer ≡ counted counts 16 0
      → FromReceived s w got room before slice answer before slice
  short_places_lem t more e =
      refused_late 16 (λ z. omega arith) e (from_short s w got room (length slice) (sym stuck_told ∙ t) (omega (arith, many)))

  -- neither
  pub mended_word : {answer : ReadAnswer} {after stored : List ℕ} → stuck_there ≡ false → repairs ≤ length slice
      → AnsweredWithPlaces (answer_from_accepted s (word_in a mended) counts room) (message_in_accepted s (word_in a mended))
      (numbers_at mended a.repaired repairs) before slice answer after stored
      → FromReceived s w got room before slice answer after stored
  mended_word {answer} t few read =
      record {
        answered = record {
          answer_is =
              read.answered.answer_is
              ∙ rw (last_is, counts_are) (sym (from_mended s w got room (length slice) (sym stuck_told ∙ t) (omega (arith, many))));
          message_is =
              read.answered.message_is ∙ ap (λ (x : List ℕ). front_after answer.number (message_in_accepted s x) before) last_is;
        };
        places_are = read.places_are ∙ ap (λ (x : List ℕ). front_after answer.number x slice) listed;
      }

-- ---- from the matrix

module _ (p : Params) (l matrix : List ℕ) (work room : ℕ) (before slice : List ℕ)
    (is-legal : is_legal p l (length matrix) work ≡ true) where
  abbrev defined : ReadAnswer
  defined = read_answer p l matrix work room (length slice)

  abbrev FromMatrix : ReadAnswer → List ℕ → List ℕ → Type 0
  FromMatrix a after stored = AnsweredWithPlaces defined (message_in p l matrix) (places_in p l matrix) before slice a after stored

  -- the answer behind the test 7
  abbrev onward : ReadAnswer
  onward = answer_from_received (sizes_for p l) (received_word p l matrix) (received_counts p l matrix) room (length slice)

  -- the tests 1 to 5 are passed
  behind : defined ≡ first_of refused (bad_module p matrix ∷ []) onward
  unfolding read_answer early_rows is_legal
  behind =
      first_append refused (front_rows p l (length matrix) work) _ onward
      ∙ first_passed refused (front_rows p l (length matrix) work) _ is-legal

  -- 7: a module is N or more
  pub bad_module_lem : {a : ReadAnswer} {bad : ℕ} → bad ≡ first_bad_module p.colours matrix → bad < length matrix → a ≡ refused 7 bad
      → FromMatrix a before slice
  bad_module_lem {a} {bad} is h e =
      let holds : (bad_module p matrix).test ≡ true = lt-ltb (first_bad_module p.colours matrix) (length matrix) (omega arith) in
      refusal_with (message_in p l matrix) (places_in p l matrix) before slice (λ z. omega arith) e
      (behind ∙ first_hit refused (bad_module p matrix) [] onward holds ∙ rw is refl)

  -- none is
  pub good_matrix : {bad : ℕ} {s : Sizes} {w after stored : List ℕ} {n : ℕ} {a : ReadAnswer}
      → bad ≡ first_bad_module p.colours matrix
      → length matrix ≤ bad
      → s ≡ sizes_for p l
      → w ≡ received_word p l matrix
      → n ≡ wrong_stuffing p l matrix
      → FromReceived s w (record { repairs = 0; unmet = 0; stuffing = n }) room before slice a after stored
      → FromMatrix a after stored
  unfolding message_in places_in
  good_matrix {bad} {s} {w} {after} {stored} {n} {a} is none sizes word wrong read =
      let fails : (bad_module p matrix).test ≡ false = le-ltb (first_bad_module p.colours matrix) (length matrix) (omega arith) in
      let passed : defined ≡ onward =
      behind ∙ first_miss refused (bad_module p matrix) [] onward fails ∙ first_none refused onward in
      let given : FromReceived (sizes_for p l) (received_word p l matrix) (received_counts p l matrix) room before slice a after stored =
      rw (sizes, word, wrong) at read in
      record {
        answered = record { answer_is = given.answered.answer_is ∙ sym passed; message_is = given.answered.message_is };
        places_are = given.places_are;
      }
