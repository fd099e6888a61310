-- Demand 2 about the definitions: what a write of a stream gives on legal input, and that a read of it gives back, with no repair, the
-- message that the stream reads as. Nothing else is known of the stream.
-- Assumes nothing.
use Prim.Native.Nat.{ℕ, suc, ◌-◌, ◌≤◌, ◌<◌}
use mathlib.Core.Path.{◌≡◌, refl, sym, ap, ◌∙◌}
use mathlib.Core.Bool.{true, false, cond}
use mathlib.Core.List.{List, [], ◌∷◌, ◌++◌}
use native.Mathlib.Omega.{arith}
use lib.Dec.{eqb}
use lib.ListN.{length, drop, replicate}
use borrow.Author.Tests.{eqb-true, le-ltb, lt-ltb}
use Rattle.symbology.specs.declared.Params.{Params}
use Rattle.symbology.specs.declared.Sizes.{Sizes}
use Rattle.symbology.specs.Capacity.{sizes_for}
use Rattle.symbology.specs.Rule.{unmet_count, repairs_of, places_of, last_word, stuck}
use Rattle.symbology.specs.Codeword.{message_columns}
use Rattle.symbology.specs.Code.{matrix_for, checks_for, message_bits_for}
use Rattle.symbology.specs.Stream.{ReadsAs}
use Rattle.symbology.specs.Symbol.{written_matrix}
use Rattle.laws.proofs.Ranges.{by}
use Rattle.laws.proofs.Net.{length_net}
use Rattle.laws.proofs.Steps.{untouched, untouched_word, met_not_stuck}
use Rattle.laws.proofs.Sizes.{LegalSymbol}
use Rattle.laws.proofs.Symbols.{symbol_meets, symbol_message}
use Rattle.laws.proofs.Written.{net_of, word_of, written_length, written_below, written_bits, written_stuffing, written_word}
use Rattle.calls.specs.declared.Answer.{Answer}
use Rattle.calls.specs.declared.Counts.{Counts}
use Rattle.calls.specs.Answers.{answer, no_counts, done}
use Rattle.calls.specs.Tests.{first_of, passes, no_room, front_rows, write_rows, early_rows, is_legal, reaches_checks}
use Rattle.calls.specs.Write.{write_answer, matrix_after_write}
use Rattle.calls.specs.Read.{message_in_accepted, message_in, places_in, front_after, answer_from_accepted, mended_counts}
use Rattle.calls.specs.Read.{answer_from_received, received_counts, read_answer}
use Rattle.call_laws.proofs.Tests.{Legal, legal, legal_is, pass_append, pass_front, first_append, first_hit}
use Rattle.call_laws.proofs.Tests.{first_miss, first_none, first_passed, zero_passes, write_numbered}
use Rattle.call_laws.proofs.Stages.{accepted_message, accepted_done, from_mended, reaches_gives}
use Rattle.call_laws.proofs.Answers.{done_front}

-- ---- a written matrix, read back

module _ (p : Params) (l : List ℕ) {stream message : List ℕ} (k : LegalSymbol p l) (reads : ReadsAs stream message) where
  abbrev sizes : Sizes
  sizes = sizes_for p l

  abbrev checks : List (List ℕ)
  checks = checks_for sizes

  abbrev matrix : List ℕ
  matrix = written_matrix p l stream

  abbrev word : List ℕ
  word = word_of p l stream

  -- it passes every test before the checks
  pub written_reaches : (work : ℕ) → sizes.work ≤ work → reaches_checks p l matrix work ≡ true
  unfolding reaches_checks early_rows is_legal passes
  written_reaches work enough =
      let front : passes (front_rows p l (length matrix) work) ≡ true =
      legal_is p l (length matrix) work (record { symbol = k; whole = written_length p l stream; enough = enough }) in
      pass_append (front_rows p l (length matrix) work) _
      ∙ rw (front, written_below p l stream k, le-ltb (length matrix) (length matrix) (omega arith)) refl

  -- no check is unmet in its word, which is not turned at all
  met : unmet_count checks word ≡ 0
  met = symbol_meets p l k (net_of p l stream) (written_bits p l stream k reads.are_bits)

  unturned : last_word checks word ≡ word
  unturned = untouched_word checks word met

  -- and no stuffing bit is wrong
  no_counts_lem : mended_counts sizes word (received_counts p l matrix) ≡ no_counts
  no_counts_lem = rw (untouched checks word met, met, written_stuffing p l stream k reads.are_bits) refl

  -- A written matrix has no place to store.
  pub write_read_places : places_in p l matrix ≡ []
  unfolding places_in places_of
  write_read_places =
      ap (λ (w : List ℕ). places_of (repairs_of checks w)) (written_word p l stream k reads.are_bits)
      ∙ ap places_of (untouched checks word met)

  module _ (fits : length stream < sizes.net) where
    full : length (net_of p l stream) ≡ sizes.net
    full = length_net sizes.net stream fits

    abbrev spare : ℕ
    spare = length (message_columns sizes.checks sizes.gross (matrix_for sizes)) - sizes.net

    holds : message_bits_for sizes word ≡ net_of p l stream ++ replicate spare 0
    holds = symbol_message p l k (net_of p l stream) (written_bits p l stream k reads.are_bits) full

    -- A written matrix, read with the same parameters and list, a work buffer that test 5 passes, a message buffer that is long enough and
    -- any slice for places, gives 0 and the message's length, with no repair, no unmet check and no wrong stuffing bit.
    pub write_read : (work room slots : ℕ)
        → sizes.work ≤ work
        → length message ≤ room
        → read_answer p l matrix work room slots ≡ done no_counts (length message)
    write_read work room slots enough long =
        let got : Counts = received_counts p l matrix in
        let free : stuck checks word ≡ false = met_not_stuck checks word (ap (unmet_count checks) unturned ∙ met) in
        let none : length (repairs_of checks word) ≡ 0 = ap length (untouched checks word met) in
        reaches_gives p l matrix work room slots (written_reaches work enough)
        ∙ ap (λ (w : List ℕ). answer_from_received sizes w got room slots) (written_word p l stream k reads.are_bits)
        ∙ from_mended sizes word got room slots free (omega arith)
        ∙ ap (λ (w : List ℕ). answer_from_accepted sizes w (mended_counts sizes word got) room) unturned
        ∙ ap (λ (c : Counts). answer_from_accepted sizes word c room) no_counts_lem
        ∙ accepted_done sizes word reads spare full holds no_counts room long

    -- The bytes read from a written matrix are the message.
    pub write_read_bytes : message_in p l matrix ≡ message
    unfolding message_in
    write_read_bytes =
        ap (λ (w : List ℕ). message_in_accepted sizes (last_word checks w)) (written_word p l stream k reads.are_bits)
        ∙ ap (message_in_accepted sizes) unturned
        ∙ accepted_message sizes word reads spare full holds

-- ---- demand 2

-- Demand 2, for a matrix as it came and a work buffer of a length. A read may have other buffers.
pub record WritesAndReads (p : Params) (l stream matrix : List ℕ) (work : ℕ) : Type 0 where
  -- room is denied exactly when the stream and its end mark exceed the net bits; the matrix is then as it came
  pub denied : (sizes_for p l).net < suc (length stream)
      → (write_answer p l stream (length matrix) work ≡ answer 6 0) × (matrix_after_write p l stream work matrix ≡ matrix)
  -- otherwise the matrix is the one that the papers define
  pub written : suc (length stream) ≤ (sizes_for p l).net
      → (write_answer p l stream (length matrix) work ≡ answer 0 0)
      × (matrix_after_write p l stream work matrix ≡ written_matrix p l stream)
  -- and a read of it gives back the message that the stream reads as, with no repair, no unmet check and no wrong stuffing bit, and leaves
  -- the slice for places as it came, however long it is
  pub read_back : (message buffer places : List ℕ) (read_work : ℕ)
      → ReadsAs stream message
      → suc (length stream) ≤ (sizes_for p l).net
      → (sizes_for p l).work ≤ read_work
      → length message ≤ length buffer
      → let after = matrix_after_write p l stream work matrix in
      let a = read_answer p l after read_work (length buffer) (length places) in
      (a ≡ done no_counts (length message))
      × (front_after a.number (message_in p l after) buffer ≡ message ++ drop (length message) buffer)
      × (front_after a.number (places_in p l after) places ≡ places)

module _ (p : Params) (l stream matrix : List ℕ) (work : ℕ) (e : is_legal p l (length matrix) work ≡ true) where
  abbrev after : List ℕ
  after = matrix_after_write p l stream work matrix

  -- a write that has passed the tests 1 to 5
  write_legal : write_answer p l stream (length matrix) work ≡ first_of answer (no_room p l stream ∷ []) (answer 0 0)
  unfolding write_answer write_rows is_legal
  write_legal =
      first_append answer (front_rows p l (length matrix) work) (no_room p l stream ∷ []) (answer 0 0)
      ∙ first_passed answer (front_rows p l (length matrix) work) (first_of answer (no_room p l stream ∷ []) (answer 0 0)) e

  matrix_at : (a : Answer)
      → write_answer p l stream (length matrix) work ≡ a
      → after ≡ cond (eqb a.number 0) (written_matrix p l stream) matrix
  unfolding matrix_after_write
  matrix_at a is = ap (λ (b : Answer). cond (eqb b.number 0) (written_matrix p l stream) matrix) is

  write_denied : (sizes_for p l).net < suc (length stream)
      → (write_answer p l stream (length matrix) work ≡ answer 6 0) × (after ≡ matrix)
  write_denied h =
      let holds : (no_room p l stream).test ≡ true = lt-ltb (sizes_for p l).net (suc (length stream)) h in
      let six : write_answer p l stream (length matrix) work ≡ answer 6 0 =
      write_legal ∙ first_hit answer (no_room p l stream) [] (answer 0 0) holds in
      (six, matrix_at (answer 6 0) six)

  write_done : suc (length stream) ≤ (sizes_for p l).net
      → (write_answer p l stream (length matrix) work ≡ answer 0 0) × (after ≡ written_matrix p l stream)
  write_done h =
      let fails : (no_room p l stream).test ≡ false = le-ltb (sizes_for p l).net (suc (length stream)) h in
      let zero_is : write_answer p l stream (length matrix) work ≡ answer 0 0 =
      write_legal ∙ first_miss answer (no_room p l stream) [] (answer 0 0) fails ∙ first_none answer (answer 0 0) in
      (zero_is, matrix_at (answer 0 0) zero_is)

  read_written : (message buffer places : List ℕ) (read_work : ℕ)
      → ReadsAs stream message
      → suc (length stream) ≤ (sizes_for p l).net
      → (sizes_for p l).work ≤ read_work
      → length message ≤ length buffer
      → let a = read_answer p l after read_work (length buffer) (length places) in
      (a ≡ done no_counts (length message))
      × (front_after a.number (message_in p l after) buffer ≡ message ++ drop (length message) buffer)
      × (front_after a.number (places_in p l after) places ≡ places)
  read_written message buffer places read_work reads fits enough long =
      let k : LegalSymbol p l = (legal p l (length matrix) work e).symbol in
      let same : after ≡ written_matrix p l stream = (write_done fits).1 in
      let read : read_answer p l after read_work (length buffer) (length places) ≡ done no_counts (length message) =
      ap (λ (x : List ℕ). read_answer p l x read_work (length buffer) (length places)) same
      ∙ write_read p l k reads fits read_work (length buffer) (length places) enough long in
      let found : message_in p l after ≡ message = ap (message_in p l) same ∙ write_read_bytes p l k reads fits in
      let none : places_in p l after ≡ [] = ap (places_in p l) same ∙ write_read_places p l k reads in
      (read, rw (read, found) (done_front message buffer long), rw (read, none) (done_front [] places (omega arith)))

-- For legal parameters, list and buffers a write is denied room exactly when the stream and its end mark exceed the net bits, else
-- the matrix is the defined one, and a read of it gives back the message with no repair.
pub writes_and_reads : (p : Params) (l stream matrix : List ℕ) (work : ℕ)
    → is_legal p l (length matrix) work ≡ true
    → WritesAndReads p l stream matrix work
writes_and_reads p l stream matrix work e =
    record {
      denied = write_denied p l stream matrix work e;
      written = write_done p l stream matrix work e;
      read_back = read_written p l stream matrix work e;
    }

-- ---- every write

-- a write that is done was legal
done_legal : (p : Params) (l stream : List ℕ) (modules work : ℕ) → (write_answer p l stream modules work).number ≡ 0
    → Legal p l modules work
unfolding write_answer write_rows is_legal
done_legal p l stream modules work e =
    legal p l modules work
    (pass_front (front_rows p l modules work) (no_room p l stream ∷ [])
    (zero_passes (write_rows p l stream modules work) (write_numbered p l modules work stream) refl e))

-- A write, done or refused, leaves the matrix as long as it came.
pub length_write : (p : Params) (l stream matrix : List ℕ) (work : ℕ) → length (matrix_after_write p l stream work matrix) ≡ length matrix
unfolding matrix_after_write
length_write p l stream matrix work =
    let n : ℕ = (write_answer p l stream (length matrix) work).number in
    by (eqb n 0)
    (λ e. rw e (written_length p l stream ∙ sym (done_legal p l stream (length matrix) work (eqb-true n 0 e)).whole))
    (λ e. rw e refl)
