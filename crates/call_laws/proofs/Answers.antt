-- Demand 1 about the definitions: document 01's tables of numbers give the answers of a write and a read; which numbers, places, lengths
-- and counts an answer can have; and what a call leaves in the buffers.
-- Assumes nothing.
use Prim.Native.Nat.{ℕ, ◌-◌, ◌≤◌}
use mathlib.Core.Path.{◌≡◌, refl, sym, ap, ◌∙◌}
use mathlib.Core.Bool.{Bool, true, false, not, ◌&&◌, ◌||◌}
use mathlib.Core.List.{List, ◌∷◌, ◌++◌, []}
use native.Mathlib.Nat.{zero-add}
use native.Mathlib.Omega.{arith}
use lib.Dec.{eqb}
use lib.ListN.{length, take, drop, replicate, length-replicate, length-take}
use lib.Seq.{length-sets, sets-eq, take_at, drop_at}
use borrow.Author.Tests.{ne_eqb, eqb-true, not-true}
use Rattle.symbology.specs.declared.Params.{Params}
use Rattle.symbology.specs.declared.Sizes.{Sizes}
use Rattle.symbology.specs.Ranges.{all_hold, has}
use Rattle.symbology.specs.Capacity.{sizes_for}
use Rattle.symbology.specs.Rule.{last_word}
use Rattle.symbology.specs.Code.{checks_for, message_bits_for}
use Rattle.symbology.specs.Net.{up_to_last_one, stream_in}
use Rattle.symbology.specs.Symbol.{received_word, wrong_stuffing}
use Rattle.symbology.proofs.Ranges.{clash, and_left, and_right}
use Rattle.laws.proofs.Ranges.{by}
use Rattle.laws.proofs.Stream.{decode_few}
use Rattle.laws.proofs.Symbols.{wrong_few}
use Rattle.calls.specs.declared.Answer.{Answer}
use Rattle.calls.specs.declared.Counts.{Counts}
use Rattle.calls.specs.declared.ReadAnswer.{ReadAnswer}
use Rattle.calls.specs.Answers.{answer, no_counts, counted, refused, done, counts_in}
use Rattle.calls.specs.Tests.{Row, first_of, stuck_word, short_places, size_rows, front_rows, write_rows, early_rows, stream_rows}
use Rattle.calls.specs.Tests.{accepted_rows, received_rows, is_legal, reaches_checks}
use Rattle.calls.specs.Write.{write_answer, matrix_after_write, work_after}
use Rattle.calls.specs.Read.{message_in_accepted, message_in, front_after, answer_from_accepted}
use Rattle.calls.specs.Read.{counts_of, answer_from_received, read_answer, read_rows}
use Rattle.call_laws.proofs.Tests.{each_all, each_computed, each_map, each_other, numbers_of, first_append, first_map, first_keeps}
use Rattle.call_laws.proofs.Stages.{accepted_table, reaches_legal, read_keeps}

-- ---- document 01, "Numbers returned"

-- The rows of a write, in document 01's order. Its answer is by definition that of the first whose test holds, and 0 where none does.
pub write_numbers_lem : (p : Params) (l stream : List ℕ) (modules work : ℕ)
    → numbers_of (write_rows p l stream modules work) ≡ (1 ∷ 2 ∷ 3 ∷ 4 ∷ 5 ∷ 6 ∷ [])
unfolding size_rows front_rows write_rows
write_numbers_lem p l stream modules work = refl

-- The rows of a read, in document 01's order, with 16 after 9 and before 10 (document 02, W-205).
pub read_numbers_lem : (p : Params) (l matrix : List ℕ) (work room slots : ℕ)
    → numbers_of (read_rows p l matrix work room slots) ≡ (1 ∷ 2 ∷ 3 ∷ 4 ∷ 5 ∷ 7 ∷ 9 ∷ 16 ∷ 10 ∷ 11 ∷ 12 ∷ 13 ∷ 14 ∷ [])
unfolding size_rows front_rows early_rows stream_rows accepted_rows received_rows read_rows
read_numbers_lem p l matrix work room slots = refl

-- number and place of an answer
abbrev pub head_of : ReadAnswer → Answer
head_of a = answer a.number a.place

-- Number and place of a read are those of the first row whose test holds, and 0 where none does.
pub read_table : (p : Params) (l matrix : List ℕ) (work room slots : ℕ)
    → head_of (read_answer p l matrix work room slots) ≡ first_of answer (read_rows p l matrix work room slots) (answer 0 0)
unfolding read_answer read_rows received_rows answer_from_received
read_table p l matrix work room slots =
    let s : Sizes = sizes_for p l in
    let w : List ℕ = received_word p l matrix in
    let c : Counts = counts_of p l matrix in
    let last : List ℕ = last_word (checks_for s) w in
    let early : List Row = early_rows p l matrix work in
    let mended : List Row = stuck_word s w ∷ short_places s w slots ∷ [] in
    let late : List Row = received_rows s w room slots in
    let d : ReadAnswer = done c (length (message_in_accepted s last)) in
    first_map refused head_of early (first_of (counted c) mended (answer_from_accepted s last c room))
    ∙ ap (λ (a : ReadAnswer). first_of answer early (head_of (first_of (counted c) mended a))) (accepted_table s last c room)
    ∙ ap (λ (a : ReadAnswer). first_of answer early (head_of a)) (sym (first_append (counted c) mended (accepted_rows s last room) d))
    ∙ ap (first_of answer early) (first_map (counted c) head_of late d)
    ∙ sym (first_append answer early late (answer 0 0))

-- ---- which answers there are

-- the numbers that a read answers, and those before the checks
abbrev pub read_numbers : List ℕ
read_numbers = 0 ∷ 1 ∷ 2 ∷ 3 ∷ 4 ∷ 5 ∷ 7 ∷ 9 ∷ 10 ∷ 11 ∷ 12 ∷ 13 ∷ 14 ∷ 16 ∷ []

abbrev pub early_numbers : List ℕ
early_numbers = 1 ∷ 2 ∷ 3 ∷ 4 ∷ 5 ∷ 7 ∷ []

-- number, place, length and counts as document 01 has them
pub record ReadAnswerIs (a : ReadAnswer) : Type 0 where
  pub number_is : has a.number read_numbers ≡ true
  pub place_is : has a.number (2 ∷ 7 ∷ []) ≡ false → a.place ≡ 0
  pub length_is : (a.number ≡ 0 → ⊥) → a.length ≡ 0
  pub counts_are : has a.number early_numbers ≡ true → counts_in a ≡ no_counts
  pub stuffing_most : a.stuffing ≤ 8

-- what the rows of a read have: one of its numbers, and place 0 but with 2 and 7; those behind the checks none of the numbers before
regular : Row → Bool
regular r = has r.number read_numbers && (has r.number (2 ∷ 7 ∷ []) || eqb r.place 0)

late : Row → Bool
late r = regular r && not (has r.number early_numbers)

row_place : (r : Row) → regular r ≡ true → has r.number (2 ∷ 7 ∷ []) ≡ false → r.place ≡ 0
unfolding regular
row_place r f none =
    let placed : (has r.number (2 ∷ 7 ∷ []) || eqb r.place 0) ≡ true = and_right (has r.number read_numbers) _ f in
    eqb-true r.place 0 (rw none at placed)

early_is : (r : Row) → regular r ≡ true → ReadAnswerIs (refused r.number r.place)
unfolding regular
early_is r f =
    record {
      number_is = and_left (has r.number read_numbers) _ f;
      place_is = row_place r f;
      length_is = λ some. refl;
      counts_are = λ before. refl;
      stuffing_most = omega arith;
    }

late_is : (c : Counts) → c.stuffing ≤ 8 → (r : Row) → late r ≡ true → ReadAnswerIs (counted c r.number r.place)
unfolding regular late
late_is c few r f =
    let fine : regular r ≡ true = and_left (regular r) (not (has r.number early_numbers)) f in
    let behind : not (has r.number early_numbers) ≡ true = and_right (regular r) (not (has r.number early_numbers)) f in
    record {
      number_is = and_left (has r.number read_numbers) _ fine;
      place_is = row_place r fine;
      length_is = λ some. refl;
      counts_are = λ before. clash before (not-true (has r.number early_numbers) behind);
      stuffing_most = few;
    }

-- A read answers 0 to 5, 7, 9 to 14 or 16; its place is 0 but with 2 and 7, a refusal has length 0, with 1 to 7 the counts are 0,
-- and at most 8 stuffing bits are wrong.
pub read_answer_lem : (p : Params) (l matrix : List ℕ) (work room slots : ℕ) → ReadAnswerIs (read_answer p l matrix work room slots)
unfolding all_hold has size_rows front_rows early_rows stream_rows accepted_rows received_rows regular late
read_answer_lem p l matrix work room slots =
    let c : Counts = counts_of p l matrix in
    let early : List Row = early_rows p l matrix work in
    let behind : List Row = received_rows (sizes_for p l) (received_word p l matrix) room slots in
    read_keeps p l matrix work room slots ReadAnswerIs
    (each_map (λ r. regular r ≡ true) (λ r. r.test ≡ true → ReadAnswerIs (refused r.number r.place)) (λ r f t. early_is r f) early
    (each_computed regular early refl))
    (λ e.
    each_map (λ r. late r ≡ true) (λ r. r.test ≡ true → ReadAnswerIs (counted c r.number r.place))
    (λ r f t. late_is c (few e) r f) behind (each_computed late behind refl))
    (λ e enough fits. record {
      number_is = refl;
      place_is = λ other. refl;
      length_is = λ some. absurd (some refl);
      counts_are = λ z. clash z refl;
      stuffing_most = few e;
    })
  where
    few : reaches_checks p l matrix work ≡ true → wrong_stuffing p l matrix ≤ 8
    few e = wrong_few p l matrix (reaches_legal p l matrix work e).symbol.inside_range

-- An answer of 0 is no row's: what 0 has where the places and the message fit, such an answer has.
pub never_zero : (Q : ReadAnswer → Type 0) (p : Params) (l matrix : List ℕ) (work room slots : ℕ)
    → (let m = message_in p l matrix in
    (counts_of p l matrix).repairs ≤ slots
    → length m ≤ room
    → Q (done (counts_of p l matrix) (length m)))
    → (read_answer p l matrix work room slots).number ≡ 0
    → Q (read_answer p l matrix work room slots)
unfolding has size_rows front_rows early_rows stream_rows accepted_rows received_rows message_in
never_zero Q p l matrix work room slots last =
    read_keeps p l matrix work room slots (λ (a : ReadAnswer). a.number ≡ 0 → Q a)
    (each_other 0 (λ r. Q (refused r.number r.place)) (early_rows p l matrix work) refl)
    (λ e.
    each_other 0 (λ r. Q (counted (counts_of p l matrix) r.number r.place))
    (received_rows (sizes_for p l) (received_word p l matrix) room slots) refl)
    (λ e enough fits z. last enough fits)

-- On 0 the length is the message's, and the message fits in its buffer.
pub read_length : (p : Params) (l matrix : List ℕ) (work room slots : ℕ)
    → (read_answer p l matrix work room slots).number ≡ 0
    → ((read_answer p l matrix work room slots).length ≡ length (message_in p l matrix)) × (length (message_in p l matrix) ≤ room)
read_length p l matrix work room slots =
    let m : ℕ = length (message_in p l matrix) in
    never_zero (λ (a : ReadAnswer). (a.length ≡ m) × (m ≤ room)) p l matrix work room slots (λ enough fits. (refl, fits))

-- Every answer's length fits in the message buffer.
pub read_fits : (p : Params) (l matrix : List ℕ) (work room slots : ℕ) → (read_answer p l matrix work room slots).length ≤ room
read_fits p l matrix work room slots =
    let Q : ReadAnswer → Type 0 = λ a. a.length ≤ room in
    let c : Counts = counts_of p l matrix in
    read_keeps p l matrix work room slots Q (each_all (λ r. r.test ≡ true → Q (refused r.number r.place)) (λ r t. omega arith) _)
    (λ e. each_all (λ r. r.test ≡ true → Q (counted c r.number r.place)) (λ r t. omega arith) _)
    (λ e enough fits. fits)

-- The message of any matrix has at most Pn bytes.
pub message_few : (p : Params) (l matrix : List ℕ) → length (message_in p l matrix) ≤ (sizes_for p l).net
unfolding message_in message_in_accepted stream_in
message_few p l matrix =
    let s : Sizes = sizes_for p l in
    let m : List ℕ = message_bits_for s (last_word (checks_for s) (received_word p l matrix)) in
    let net : List ℕ = take s.net m in
    omega (arith, decode_few (stream_in net), length-take (up_to_last_one net - 1) net, length-take s.net m)

-- the numbers that a write answers
abbrev pub write_numbers : List ℕ
write_numbers = 0 ∷ 1 ∷ 2 ∷ 3 ∷ 4 ∷ 5 ∷ 6 ∷ []

-- number and place as document 01 has them
pub record WriteAnswerIs (a : Answer) : Type 0 where
  pub number_is : has a.number write_numbers ≡ true
  pub place_is : (a.number ≡ 2 → ⊥) → a.place ≡ 0

-- what the rows of a write have: one of its numbers, and place 0 but with 2
plain : Row → Bool
plain r = has r.number write_numbers && (eqb r.number 2 || eqb r.place 0)

plain_is : (r : Row) → plain r ≡ true → WriteAnswerIs (answer r.number r.place)
unfolding plain
plain_is r f =
    let placed : (eqb r.number 2 || eqb r.place 0) ≡ true = and_right (has r.number write_numbers) _ f in
    record {
      number_is = and_left (has r.number write_numbers) _ f;
      place_is = λ other. eqb-true r.place 0 (rw (ne_eqb r.number 2 other) at placed);
    }

-- A write answers 0 to 6, and its place is 0 but with 2.
pub write_answer_lem : (p : Params) (l stream : List ℕ) (modules work : ℕ) → WriteAnswerIs (write_answer p l stream modules work)
unfolding all_hold has size_rows front_rows write_rows write_answer plain
write_answer_lem p l stream modules work =
    let rows : List Row = write_rows p l stream modules work in
    first_keeps answer WriteAnswerIs rows (answer 0 0)
    (each_map (λ r. plain r ≡ true) (λ r. r.test ≡ true → WriteAnswerIs (answer r.number r.place)) (λ r f t. plain_is r f) rows
    (each_computed plain rows refl)) (λ e. record { number_is = refl; place_is = λ other. refl })

-- ---- the buffers at exit

-- A refused write leaves the matrix as it came.
pub refused_write : (p : Params) (l stream matrix : List ℕ) (work : ℕ)
    → ((write_answer p l stream (length matrix) work).number ≡ 0 → ⊥)
    → matrix_after_write p l stream work matrix ≡ matrix
unfolding matrix_after_write
refused_write p l stream matrix work differs = rw (ne_eqb (write_answer p l stream (length matrix) work).number 0 differs) refl

-- A refusal leaves a lent buffer as it came.
pub refused_front : (number : ℕ) (stored before : List ℕ) → (number ≡ 0 → ⊥) → front_after number stored before ≡ before
unfolding front_after
refused_front number stored before differs = rw (ne_eqb number 0 differs) refl

-- On 0 what is stored, where it fits, stands over the front.
pub done_front : (stored before : List ℕ)
    → length stored ≤ length before
    → front_after 0 stored before ≡ stored ++ drop (length stored) before
unfolding front_after
done_front stored before fits = sets-eq stored before 0 (omega arith) ∙ rw (zero-add (length stored)) refl

-- No call changes the length of a lent buffer.
pub length_front : (number : ℕ) (stored before : List ℕ) → length (front_after number stored before) ≡ length before
unfolding front_after
length_front number stored before =
    by (eqb number 0) (λ e. rw e (length-sets before 0 stored)) (λ e. rw e refl)

-- On 0 as many elements change as are stored, the first ones; the others are as they came.
pub front_done : (number n : ℕ) (stored before : List ℕ)
    → number ≡ 0
    → (n ≡ length stored) × (length stored ≤ length before)
    → let after = front_after number stored before in
    (length after ≡ length before) × (take n after ≡ stored) × (drop n after ≡ drop n before)
front_done number n stored before e long =
    let end : List ℕ = drop (length stored) before in
    let after : front_after number stored before ≡ stored ++ end =
    ap (λ (k : ℕ). front_after k stored before) e ∙ done_front stored before long.1 in (
      length_front number stored before,
      ap (λ (x : List ℕ). take n x) after ∙ take_at stored end n (sym long.0),
      ap (λ (x : List ℕ). drop n x) after ∙ drop_at stored end n (sym long.0) ∙ ap (λ (k : ℕ). drop k before) (sym long.0),
    )

-- A read that is done changes as many bytes as its answer's length says, the first ones; the others are as they came.
pub done_read : (p : Params) (l matrix before : List ℕ) (work slots : ℕ)
    → let a = read_answer p l matrix work (length before) slots in
    a.number ≡ 0
    → let after = front_after a.number (message_in p l matrix) before in
    (length after ≡ length before) × (take a.length after ≡ message_in p l matrix) × (drop a.length after ≡ drop a.length before)
done_read p l matrix before work slots e =
    let a : ReadAnswer = read_answer p l matrix work (length before) slots in
    front_done a.number a.length (message_in p l matrix) before e (read_length p l matrix work (length before) slots e)

-- A call that passes test 5 leaves the work buffer all zero, its length as it was.
pub work_cleared : (p : Params) (l work : List ℕ) (modules : ℕ)
    → is_legal p l modules (length work) ≡ true
    → work_after p l modules work ≡ replicate (length work) 0
unfolding work_after
work_cleared p l work modules e = rw e refl

-- A call that test 5 or an earlier one refuses leaves the work buffer as it came.
pub work_untouched : (p : Params) (l work : List ℕ) (modules : ℕ)
    → is_legal p l modules (length work) ≡ false
    → work_after p l modules work ≡ work
unfolding work_after
work_untouched p l work modules e = rw e refl

-- No call changes the length of the work buffer.
pub length_work : (p : Params) (l work : List ℕ) (modules : ℕ) → length (work_after p l modules work) ≡ length work
length_work p l work modules =
    by (is_legal p l modules (length work))
    (λ e. ap length (work_cleared p l work modules e) ∙ length-replicate {A = ℕ} (length work) 0)
    (λ e. ap length (work_untouched p l work modules e))
