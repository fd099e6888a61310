-- What each stage of a read gives: from the net bits, from the accepted word, from the received word, from the matrix.
-- Assumes nothing.
use Prim.Native.Nat.{ℕ, ◌≤◌, ◌<◌}
use mathlib.Core.Path.{◌≡◌, refl, sym, ap, ◌∙◌, subst⁻¹}
use mathlib.Core.Bool.{Bool, true, false, cond, not}
use mathlib.Core.List.{List, [], ◌∷◌, ◌++◌}
use native.Mathlib.Omega.{arith}
use lib.ListN.{length, take, drop, replicate}
use lib.Seq.{take_at, drop_at}
use borrow.Author.Tests.{ltb-false, lt-ltb, le-ltb, not-true}
use Rattle.symbology.specs.declared.Params.{Params}
use Rattle.symbology.specs.declared.Sizes.{Sizes}
use Rattle.symbology.specs.Ranges.{all_hold, has}
use Rattle.symbology.specs.Capacity.{sizes_for}
use Rattle.symbology.specs.Rule.{repairs_of, last_word, stuck}
use Rattle.symbology.specs.Code.{checks_for, message_bits_for}
use Rattle.symbology.specs.Stream.{Decoded, decode, ReadsAs}
use Rattle.symbology.specs.Net.{with_end_mark, stream_in}
use Rattle.symbology.specs.Symbol.{received_word, wrong_stuffing}
use Rattle.symbology.proofs.Ranges.{clash}
use Rattle.laws.proofs.Ranges.{by}
use Rattle.laws.proofs.Net.{net_back, net_some, any_zeros}
use Rattle.calls.specs.declared.Counts.{Counts}
use Rattle.calls.specs.declared.ReadAnswer.{ReadAnswer}
use Rattle.calls.specs.Answers.{StreamAnswer, no_counts, counted, refused, done, from_stream, counts_in, stream_refused, stream_done}
use Rattle.calls.specs.Tests.{Row, first_of, passes, spare_one, stuck_word, short_places, size_rows, front_rows}
use Rattle.calls.specs.Tests.{early_rows, stream_rows, accepted_rows, received_rows, is_legal, reaches_checks}
use Rattle.calls.specs.Read.{message_in_net, message_in_accepted, stream_answer, answer_from_accepted, mended_counts, answer_from_received}
use Rattle.calls.specs.Read.{received_counts, read_answer, counts_of}
use Rattle.call_laws.proofs.Tests.{Each, each_all, each_computed, each_map, each_listed, numbers_of}
use Rattle.call_laws.proofs.Tests.{pass_fails, pass_front, pass_behind, first_append, first_hit, first_miss}
use Rattle.call_laws.proofs.Tests.{first_none, first_passed, first_keeps, first_map, Legal, legal}

-- ---- from the net bits

-- what a stream gives a read is the answer of its table
pub stream_table : (net : List ℕ) (c : Counts) (room : ℕ)
    → from_stream c (stream_answer net room) ≡ first_of (counted c) (stream_rows net room) (done c (length (message_in_net net)))
unfolding stream_answer first_of stream_rows
stream_table net c room = first_map stream_refused (from_stream c) (stream_rows net room) (stream_done (length (message_in_net net)))

-- a message that is given fits
pub stream_fits : (net : List ℕ) (room : ℕ) → passes (stream_rows net room) ≡ true → length (message_in_net net) ≤ room
unfolding stream_rows Each
stream_fits net room e = ltb-false room (length (message_in_net net)) (pass_fails (stream_rows net room) e).1.1.1.0

-- so does every length, which is 0 on refusal
pub stream_length_fits : (net : List ℕ) (room : ℕ) → (stream_answer net room).length ≤ room
unfolding stream_answer
stream_length_fits net room =
    let Q : StreamAnswer → Type 0 = λ a. a.length ≤ room in
    first_keeps stream_refused Q (stream_rows net room) (stream_done (length (message_in_net net)))
    (each_all (λ r. r.test ≡ true → Q (stream_refused r.number r.place)) (λ r t. omega arith) (stream_rows net room))
    (stream_fits net room)

module _ {stream message : List ℕ} (k : ReadsAs stream message) (n : ℕ) where
  abbrev net : List ℕ
  net = with_end_mark n stream

  read_back : decode (stream_in net) ≡ record { number = 0; bytes = message }
  read_back = ap decode (net_back n stream) ∙ k.gives

  -- net bits that hold a message's stream give the message
  pub net_message : message_in_net net ≡ message
  net_message = ap (λ (d : Decoded). d.bytes) read_back

  -- and pass its tests, where there is room
  pub net_passes : (room : ℕ) → length message ≤ room → passes (stream_rows net room) ≡ true
  unfolding stream_rows passes
  net_passes room fits = rw (net_some n stream, read_back, le-ltb room (length message) fits) refl

-- ---- from the accepted word

module _ (s : Sizes) (w : List ℕ) (c : Counts) (room : ℕ) where
  -- what the net bits give
  abbrev streamed : ReadAnswer
  streamed = from_stream c (stream_answer (take s.net (message_bits_for s w)) room)

  -- 10 is given
  pub accepted_spare : (spare_one s w).test ≡ true → answer_from_accepted s w c room ≡ counted c 10 0
  unfolding answer_from_accepted
  accepted_spare some = first_hit (counted c) (spare_one s w) [] streamed some

  -- 10 is passed: the answer is that of the net bits
  pub accepted_stream : (spare_one s w).test ≡ false → answer_from_accepted s w c room ≡ streamed
  unfolding answer_from_accepted
  accepted_stream none = first_miss (counted c) (spare_one s w) [] streamed none ∙ first_none (counted c) streamed

  -- all rows of an accepted word as one table
  pub accepted_table : answer_from_accepted s w c room
      ≡ first_of (counted c) (accepted_rows s w room) (done c (length (message_in_accepted s w)))
  unfolding answer_from_accepted accepted_rows message_in_accepted
  accepted_table =
      let net : List ℕ = take s.net (message_bits_for s w) in
      ap (first_of (counted c) (spare_one s w ∷ [])) (stream_table net c room)
      ∙ sym (first_append (counted c) (spare_one s w ∷ []) (stream_rows net room) (done c (length (message_in_net net))))

-- a word whose message columns hold a message's net bits, and 0 in the spare ones
module _ (s : Sizes) (w : List ℕ) {stream message : List ℕ} (k : ReadsAs stream message) (spare : ℕ)
    (long : length (with_end_mark s.net stream) ≡ s.net)
    (holds : message_bits_for s w ≡ with_end_mark s.net stream ++ replicate spare 0) where
  front : take s.net (message_bits_for s w) ≡ with_end_mark s.net stream
  front = ap (take s.net) holds ∙ take_at (with_end_mark s.net stream) (replicate spare 0) s.net long

  behind : drop s.net (message_bits_for s w) ≡ replicate spare 0
  behind = ap (drop s.net) holds ∙ drop_at (with_end_mark s.net stream) (replicate spare 0) s.net long

  -- gives the message
  pub accepted_message : message_in_accepted s w ≡ message
  unfolding message_in_accepted
  accepted_message = ap message_in_net front ∙ net_message k s.net

  -- and the answer 0, where there is room
  pub accepted_done : (c : Counts) (room : ℕ) → length message ≤ room → answer_from_accepted s w c room ≡ done c (length message)
  unfolding accepted_rows passes
  accepted_done c room fits =
      let d : ReadAnswer = done c (length (message_in_accepted s w)) in
      accepted_table s w c room
      ∙ first_passed (counted c) (accepted_rows s w room) d passed
      ∙ ap (λ (m : List ℕ). done c (length m)) accepted_message
    where
      passed : passes (spare_one s w ∷ stream_rows (take s.net (message_bits_for s w)) room) ≡ true
      passed = rw (front, behind, any_zeros spare) (net_passes k s.net room fits)

-- What each row's answer has, and 0 where the message fits, the answer has.
pub accepted_keeps : (Q : ReadAnswer → Type 0) (s : Sizes) (w : List ℕ) (c : Counts) (room : ℕ)
    → Each (λ r. r.test ≡ true → Q (counted c r.number r.place)) (accepted_rows s w room)
    → (length (message_in_accepted s w) ≤ room → Q (done c (length (message_in_accepted s w))))
    → Q (answer_from_accepted s w c room)
unfolding accepted_rows message_in_accepted passes
accepted_keeps Q s w c room each last =
    subst⁻¹ Q (accepted_table s w c room)
    (first_keeps (counted c) Q (accepted_rows s w room) (done c (length (message_in_accepted s w))) each (λ e. last (fits e)))
  where
    fits : passes (spare_one s w ∷ stream_rows (take s.net (message_bits_for s w)) room) ≡ true → length (message_in_accepted s w) ≤ room
    fits e =
        let net : List ℕ = take s.net (message_bits_for s w) in
        stream_fits net room (pass_behind (spare_one s w ∷ []) (stream_rows net room) e)

-- ---- from the received word

module _ (s : Sizes) (w : List ℕ) (got : Counts) (room slots : ℕ) where
  -- the word that the rule ends with, the counts then, and the answer from that word
  abbrev last : List ℕ
  last = last_word (checks_for s) w

  abbrev counts : Counts
  counts = mended_counts s w got

  abbrev onward : ReadAnswer
  onward = answer_from_accepted s last counts room

  -- the rule ends with a check unmet
  pub from_stuck : stuck (checks_for s) w ≡ true → answer_from_received s w got room slots ≡ counted counts 9 0
  unfolding answer_from_received
  from_stuck e = first_hit (counted counts) (stuck_word s w) (short_places s w slots ∷ []) onward e

  -- it ends with none, and there are more repairs than places may be stored
  pub from_short : stuck (checks_for s) w ≡ false
      → slots < length (repairs_of (checks_for s) w)
      → answer_from_received s w got room slots ≡ counted counts 16 0
  unfolding answer_from_received
  from_short e more =
      let holds : (short_places s w slots).test ≡ true = lt-ltb slots (length (repairs_of (checks_for s) w)) more in
      first_miss (counted counts) (stuck_word s w) (short_places s w slots ∷ []) onward e
      ∙ first_hit (counted counts) (short_places s w slots) [] onward holds

  -- it ends with none, and there are no more
  pub from_mended : stuck (checks_for s) w ≡ false
      → length (repairs_of (checks_for s) w) ≤ slots
      → answer_from_received s w got room slots ≡ answer_from_accepted s last counts room
  unfolding answer_from_received
  from_mended e few =
      let fails : (short_places s w slots).test ≡ false = le-ltb slots (length (repairs_of (checks_for s) w)) few in
      first_miss (counted counts) (stuck_word s w) (short_places s w slots ∷ []) onward e
      ∙ first_miss (counted counts) (short_places s w slots) [] onward fails
      ∙ first_none (counted counts) onward

  -- What each row's answer has, and 0 where the places and the message fit, the answer has.
  pub received_keeps : (Q : ReadAnswer → Type 0)
      → Each (λ r. r.test ≡ true → Q (counted counts r.number r.place)) (received_rows s w room slots)
      → (counts.repairs ≤ slots → length (message_in_accepted s last) ≤ room → Q (done counts (length (message_in_accepted s last))))
      → Q (answer_from_received s w got room slots)
  unfolding answer_from_received received_rows Each
  received_keeps Q each fits =
      let rows : List Row = stuck_word s w ∷ short_places s w slots ∷ [] in
      first_keeps (counted counts) Q rows onward (each.0, (each.1.0, tt))
      (λ e. accepted_keeps Q s last counts room each.1.1 (fits (ltb-false slots counts.repairs (pass_fails rows e).1.0)))

-- ---- from the matrix

module _ (p : Params) (l matrix : List ℕ) (work : ℕ) where
  -- the sizes, and the received word with its counts
  abbrev sizes : Sizes
  sizes = sizes_for p l

  abbrev word : List ℕ
  word = received_word p l matrix

  abbrev got : Counts
  got = received_counts p l matrix

  -- A read that reaches the checks is legal.
  pub reaches_legal : reaches_checks p l matrix work ≡ true → Legal p l (length matrix) work
  unfolding reaches_checks early_rows is_legal
  reaches_legal e = legal p l (length matrix) work (pass_front (front_rows p l (length matrix) work) _ e)

  -- Its answer is the one from its received word.
  pub reaches_gives : (room slots : ℕ)
      → reaches_checks p l matrix work ≡ true
      → read_answer p l matrix work room slots ≡ answer_from_received sizes word got room slots
  unfolding reaches_checks read_answer
  reaches_gives room slots e = first_passed refused (early_rows p l matrix work) (answer_from_received sizes word got room slots) e

  module _ (room slots : ℕ) where
    -- What each row's answer has, with the counts 0 before the checks and the matrix's behind, and 0 where the places and the message fit,
    -- every answer of a read has. The rows behind the checks are asked of a read that reaches them.
    pub read_keeps : (Q : ReadAnswer → Type 0)
        → Each (λ r. r.test ≡ true → Q (refused r.number r.place)) (early_rows p l matrix work)
        → (reaches_checks p l matrix work ≡ true
        → Each (λ r. r.test ≡ true → Q (counted (counts_of p l matrix) r.number r.place)) (received_rows sizes word room slots))
        → (reaches_checks p l matrix work ≡ true
        → let m = message_in_accepted sizes (last_word (checks_for sizes) word) in
        (counts_of p l matrix).repairs ≤ slots
        → length m ≤ room
        → Q (done (counts_of p l matrix) (length m)))
        → Q (read_answer p l matrix work room slots)
    unfolding reaches_checks read_answer
    read_keeps Q early late fits =
        first_keeps refused Q (early_rows p l matrix work) (answer_from_received sizes word got room slots) early
        (λ e. received_keeps sizes word got room slots Q (late e) (fits e))

    -- ---- reaching the checks

    -- A read whose answer is none of the numbers before 9 has reached the checks.
    pub reaches_when : has (read_answer p l matrix work room slots).number (1 ∷ 2 ∷ 3 ∷ 4 ∷ 5 ∷ 7 ∷ []) ≡ false
        → reaches_checks p l matrix work ≡ true
    unfolding reaches_checks read_answer size_rows front_rows early_rows
    reaches_when =
        let rs : List Row = early_rows p l matrix work in
        let Q : ReadAnswer → Type 0 = λ a. has a.number (numbers_of rs) ≡ false → passes rs ≡ true in
        first_keeps refused Q rs (answer_from_received sizes word got room slots)
        (each_map (λ r. has r.number (numbers_of rs) ≡ true) (λ r. r.test ≡ true → Q (refused r.number r.place))
        (λ r listed t other. clash listed other) rs (each_listed rs)) (λ e other. e)

    -- The answer of a read that reaches the checks is none of them.
    pub reaches_only : reaches_checks p l matrix work ≡ true
        → has (read_answer p l matrix work room slots).number (1 ∷ 2 ∷ 3 ∷ 4 ∷ 5 ∷ 7 ∷ []) ≡ false
    unfolding all_hold stream_rows accepted_rows received_rows has
    reaches_only e =
        let Q : ReadAnswer → Type 0 = λ a. has a.number (1 ∷ 2 ∷ 3 ∷ 4 ∷ 5 ∷ 7 ∷ []) ≡ false in
        let late : List Row = received_rows sizes word room slots in
        let other : Row → Bool = λ r. not (has r.number (1 ∷ 2 ∷ 3 ∷ 4 ∷ 5 ∷ 7 ∷ [])) in
        subst⁻¹ Q (reaches_gives room slots e)
        (received_keeps sizes word got room slots Q
        (each_map (λ r. other r ≡ true) (λ r. r.test ≡ true → Q (counted (counts_of p l matrix) r.number r.place))
        (λ r f t. not-true (has r.number (1 ∷ 2 ∷ 3 ∷ 4 ∷ 5 ∷ 7 ∷ [])) f) late (each_computed other late refl)) (λ few fits. refl))

    -- ---- the counts

    -- A read that reaches the checks has the counts of its matrix, whatever it answers.
    pub reaches_counts : reaches_checks p l matrix work ≡ true → counts_in (read_answer p l matrix work room slots) ≡ counts_of p l matrix
    reaches_counts e =
        let Q : ReadAnswer → Type 0 = λ a. counts_in a ≡ counts_of p l matrix in
        subst⁻¹ Q (reaches_gives room slots e)
        (received_keeps sizes word got room slots Q
        (each_all (λ r. r.test ≡ true → Q (counted (counts_of p l matrix) r.number r.place)) (λ r t. refl) _) (λ few fits. refl))

    -- The counts of a read are its matrix's where it reaches the checks, and else 0: the room for message and places changes none.
    pub read_counts : counts_in (read_answer p l matrix work room slots)
        ≡ cond (reaches_checks p l matrix work) (counts_of p l matrix) no_counts
    read_counts =
        by (reaches_checks p l matrix work) (λ e. rw e (reaches_counts e))
        (λ e.
        let Q : ReadAnswer → Type 0 = λ a. counts_in a ≡ no_counts in
        let early = each_all (λ r. r.test ≡ true → Q (refused r.number r.place)) (λ r t. refl) (early_rows p l matrix work) in
        rw e (read_keeps Q early (λ t. clash t e) (λ t. clash t e)))

    -- Document 02, W-202: the wrong stuffing bits are counted in the answer of every read that passes 7, and 0 stands in others.
    pub read_stuffing : (read_answer p l matrix work room slots).stuffing
        ≡ cond (reaches_checks p l matrix work) (wrong_stuffing p l matrix) 0
    read_stuffing =
        ap (λ (c : Counts). c.stuffing) read_counts ∙ by (reaches_checks p l matrix work) (λ e. rw e refl) (λ e. rw e refl)
