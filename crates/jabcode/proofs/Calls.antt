-- The calls, put together: where the tests 1 to 5 refuse, and where they pass.
-- Assumes nothing.
use Prim.Native.Nat.{ℕ}
use mathlib.Core.Path.{◌≡◌, sym, ap, ◌∙◌}
use mathlib.Core.Bool.{true, false}
use mathlib.Core.List.{List, [], ◌∷◌}
use lib.ListN.{length}
use Rattle.symbology.specs.declared.Params.{Params}
use Rattle.symbology.specs.declared.Sizes.{Sizes}
use Rattle.symbology.specs.Capacity.{sizes_for}
use Rattle.symbology.specs.Symbol.{received_word}
use Rattle.laws.proofs.Ranges.{by}
use Rattle.calls.specs.declared.Answer.{Answer}
use Rattle.calls.specs.declared.ReadAnswer.{ReadAnswer}
use Rattle.calls.specs.Answers.{answer, refused}
use Rattle.calls.specs.Tests.{first_of, passes, no_room, bad_module, front_rows, write_rows, early_rows, is_legal}
use Rattle.calls.specs.Write.{write_answer}
use Rattle.calls.specs.Read.{message_in, places_in, answer_from_received, received_counts, read_answer}
use Rattle.calls.specs.Promises.{Writes, Reads}
use Rattle.call_laws.proofs.Tests.{first_append, first_passed, first_refuses, front_numbered}
use Rattle.call_laws.proofs.Answers.{refused_write, refused_front, work_untouched}
use Rattle.call_laws.proofs.Mending.{reads_are}
use Rattle.std.specs.Prelude.{Result, Ok, Err}
use Rattle.legality.specs.Verdict.{verdict_of}
use Rattle.legality.proofs.Verdicts.{legal_passes, passed_sizes, refused_answer, refused_numbered}

-- the verdict v of the tests 1 to 5
module _ (p : Params) (l : List ℕ) (modules work : ℕ) {v : Result Sizes Answer}
    (told : v ≡ verdict_of (front_rows p l modules work) (sizes_for p l)) where
  -- they are passed: the input is legal, and the sizes are those of its symbol
  pub legal_input : {s : Sizes} → v ≡ Ok s → (is_legal p l modules work ≡ true) × (s ≡ sizes_for p l)
  unfolding is_legal
  legal_input e =
      let rows = front_rows p l modules work in
      let each = front_numbered p l modules work in
      (legal_passes rows (sizes_for p l) each told e, passed_sizes rows (sizes_for p l) each told e)

  -- they refuse: this is the answer of their table, its number is not 0, and the input is not legal
  module _ {a : Answer} (e : v ≡ Err a) where
    answer_is : a ≡ first_of answer (front_rows p l modules work) (answer 0 0)
    answer_is = refused_answer (front_rows p l modules work) (sizes_for p l) (front_numbered p l modules work) told e

    some : a.number ≡ 0 → ⊥
    some = refused_numbered (front_rows p l modules work) (sizes_for p l) (front_numbered p l modules work) told e

    not_legal : is_legal p l modules work ≡ false
    unfolding is_legal
    not_legal =
        let passed = first_passed answer (front_rows p l modules work) (answer 0 0) in
        by (passes (front_rows p l modules work)) (λ t. absurd (some (ap (λ (b : Answer). b.number) (answer_is ∙ passed t)))) (λ t. t)

-- a write that one of the tests 1 to 5 refuses
pub write_refused : (p : Params) (l stream matrix work : List ℕ) {v : Result Sizes Answer} {a : Answer}
    → v ≡ verdict_of (front_rows p l (length matrix) (length work)) (sizes_for p l)
    → v ≡ Err a
    → Writes p l stream matrix work a matrix work
unfolding write_answer write_rows
write_refused p l stream matrix work {a = a} told e =
    let given = answer_is p l (length matrix) (length work) told e in
    let Some-number = some p l (length matrix) (length work) told e in
    let same : write_answer p l stream (length matrix) (length work) ≡ a =
    first_append answer (front_rows p l (length matrix) (length work)) (no_room p l stream ∷ []) (answer 0 0)
    ∙ first_refuses answer (front_rows p l (length matrix) (length work)) _ a given Some-number in
    let other : (write_answer p l stream (length matrix) (length work)).number ≡ 0 → ⊥ =
    λ z. Some-number (ap (λ (b : Answer). b.number) (sym same) ∙ z) in
    record {
      answer_is = sym same;
      matrix_is = sym (refused_write p l stream matrix (length work) other);
      work_is = sym (work_untouched p l work (length matrix) (not_legal p l (length matrix) (length work) told e));
    }

-- a read that one of them refuses
pub read_refused : (p : Params) (l matrix work message places : List ℕ) {v : Result Sizes Answer} {a : Answer} {r : ReadAnswer}
    → v ≡ verdict_of (front_rows p l (length matrix) (length work)) (sizes_for p l)
    → v ≡ Err a
    → r ≡ refused a.number a.place
    → Reads p l matrix work message places r work message places
unfolding read_answer early_rows
read_refused p l matrix work message places {a = a} {r} told e is =
    let given = answer_is p l (length matrix) (length work) told e in
    let Some-number = some p l (length matrix) (length work) told e in
    let onward : ReadAnswer =
    answer_from_received (sizes_for p l) (received_word p l matrix) (received_counts p l matrix) (length message) (length places) in
    let same : read_answer p l matrix (length work) (length message) (length places) ≡ refused a.number a.place =
    first_append refused (front_rows p l (length matrix) (length work)) (bad_module p matrix ∷ []) onward
    ∙ first_refuses refused (front_rows p l (length matrix) (length work)) _ a given Some-number in
    let other : r.number ≡ 0 → ⊥ = λ z. Some-number (sym (ap (λ (b : ReadAnswer). b.number) is) ∙ z) in
    reads_are p l matrix work message places (is ∙ sym same) (sym (refused_front r.number (message_in p l matrix) message other))
    (sym (refused_front r.number (places_in p l matrix) places other))
    (sym (work_untouched p l work (length matrix) (not_legal p l (length matrix) (length work) told e)))
