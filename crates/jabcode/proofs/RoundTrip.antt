-- A write and a read of what was written: what comes back follows from the contracts of the two calls and the law of the round trip.
-- Assumes nothing.
use Prim.Native.Nat.{ℕ, suc, ◌≤◌}
use mathlib.Core.Path.{◌≡◌, refl, sym, ap, ap₂, ◌∙◌}
use mathlib.Core.Bool.{cond}
use mathlib.Core.List.{List, []}
use native.Mathlib.Omega.{arith}
use lib.ListN.{length, replicate}
use lib.Dec.{eqb}
use borrow.Author.Tests.{eq-eqb, ne_eqb}
use Rattle.symbology.specs.declared.Params.{Params}
use Rattle.symbology.specs.Bits.{AllBytes}
use Rattle.symbology.specs.Ranges.{has}
use Rattle.symbology.specs.Capacity.{sizes_for}
use Rattle.symbology.specs.Stream.{stream_of}
use Rattle.symbology.proofs.Ranges.{clash}
use Rattle.laws.proofs.Ranges.{by}
use Rattle.laws.proofs.ByteMode.{chosen_reads}
use Rattle.calls.specs.declared.Answer.{Answer}
use Rattle.calls.specs.declared.ReadAnswer.{ReadAnswer}
use Rattle.calls.specs.Answers.{refused}
use Rattle.calls.specs.Tests.{is_legal}
use Rattle.calls.specs.Write.{write_answer, matrix_after_write, work_after}
use Rattle.calls.specs.Read.{read_answer, message_in, front_after}
use Rattle.calls.specs.Promises.{Writes, Reads, answer_read_back, WritesThenReads}
use Rattle.call_laws.proofs.Tests.{legal}
use Rattle.call_laws.proofs.Answers.{read_answer_lem, refused_front, work_cleared, work_untouched, length_work}
use Rattle.call_laws.proofs.RoundTrip.{writes_and_reads, length_write}

-- the work buffer, used twice
twice : (p : Params) (l work : List ℕ) (modules : ℕ) → work_after p l modules (work_after p l modules work) ≡ work_after p l modules work
twice p l work modules =
    let once : List ℕ = work_after p l modules work in
    let long : length once ≡ length work = length_work p l work modules in
    by (is_legal p l modules (length work))
    (λ e.
    work_cleared p l once modules (ap (is_legal p l modules) long ∙ e) ∙ ap (λ (n : ℕ). replicate n 0) long
    ∙ sym (work_cleared p l work modules e))
    (λ e. work_untouched p l once modules (ap (is_legal p l modules) long ∙ e))

module _ (p : Params) (l message matrix work back : List ℕ) {a : Answer} {matrix' work' : List ℕ}
    (w : Writes p l (stream_of message) matrix work a matrix' work') where
  abbrev stream : List ℕ
  stream = stream_of message

  abbrev defined : Answer
  defined = write_answer p l stream (length matrix) (length work)

  abbrev after : List ℕ
  after = matrix_after_write p l stream (length work) matrix

  abbrev read : ReadAnswer
  read = read_answer p l after (length work) (length back) 0

  number_is : a.number ≡ defined.number
  number_is = ap (λ (b : Answer). b.number) w.answer_is

  -- the write is refused
  pub not_written : {r : ReadAnswer} → (a.number ≡ 0 → ⊥) → r ≡ refused a.number a.place
      → WritesThenReads p l message matrix work back r matrix' work' back
  unfolding answer_read_back
  not_written {r} some is =
      let denied : ReadAnswer = refused defined.number defined.place in
      let given : cond (eqb defined.number 0) read denied ≡ denied =
      rw (ne_eqb defined.number 0 (λ z. some (number_is ∙ z))) refl in
      let told : r ≡ denied = is ∙ ap (λ (b : Answer). refused b.number b.place) w.answer_is in
      let other : r.number ≡ 0 → ⊥ = λ z. some (sym (ap (λ (b : ReadAnswer). b.number) is) ∙ z) in
      record {
        answer_is = told ∙ sym given;
        matrix_is = w.matrix_is;
        back_is = sym (refused_front r.number (message_in p l matrix') back other);
        work_is = w.work_is;
        reads_back = λ e.
            let law = writes_and_reads p l stream matrix (length work) e in
            let zero_is : suc (length stream) ≤ (sizes_for p l).net → a.number ≡ 0 =
            λ h. number_is ∙ ap (λ (b : Answer). b.number) (law.written h).0 in
            record {
              denied = λ h.
                  (told ∙ ap (λ (b : Answer). refused b.number b.place) (law.denied h).0, w.matrix_is ∙ (law.denied h).1, refl);
              is_written = λ h. absurd (some (zero_is h));
              comes_back = λ h g. absurd (some (zero_is h));
            };
      }

  -- it is done, and its matrix is read, with an empty slice for places
  pub then_read : {r : ReadAnswer} {work'' back' none' : List ℕ} → AllBytes message → a.number ≡ 0
      → Reads p l matrix' work' back [] r work'' back' none'
      → WritesThenReads p l message matrix work back r matrix' work'' back'
  unfolding answer_read_back has
  then_read {r} bytes none got =
      let zero_is : defined.number ≡ 0 = sym number_is ∙ none in
      let long : length work' ≡ length work = ap length w.work_is ∙ length_work p l work (length matrix) in
      let modules : length matrix' ≡ length matrix = ap length w.matrix_is ∙ length_write p l stream matrix (length work) in
      let same : r ≡ read =
      got.answer_is ∙ ap₂ (λ (x : List ℕ) (n : ℕ). read_answer p l x n (length back) 0) w.matrix_is long in
      let given : cond (eqb defined.number 0) read (refused defined.number defined.place) ≡ read =
      rw (eq-eqb defined.number 0 zero_is) refl in
      record {
        answer_is = same ∙ sym given;
        matrix_is = w.matrix_is;
        back_is = got.message_is;
        work_is =
            got.work_is
            ∙ ap₂ (λ (n : ℕ) (x : List ℕ). work_after p l n x) modules w.work_is
            ∙ twice p l work (length matrix);
        reads_back = λ e.
            let law = writes_and_reads p l stream matrix (length work) e in
            record {
              denied = λ h.
                  let six : defined.number ≡ 6 = ap (λ (b : Answer). b.number) (law.denied h).0 in
                  absurd (omega (arith, six, zero_is));
              is_written = λ h. (λ six. never_6 (ap (λ (b : ReadAnswer). b.number) (sym same) ∙ six), w.matrix_is ∙ (law.written h).1);
              comes_back = λ h g.
                  let enough : (sizes_for p l).work ≤ length work = (legal p l (length matrix) (length work) e).enough in
                  let found = law.read_back message back [] (length work) (chosen_reads message bytes) h enough g in (
                    same ∙ found.0,
                    got.message_is
                        ∙ ap₂ (λ (b : ReadAnswer) (x : List ℕ). front_after b.number (message_in p l x) back) same w.matrix_is
                        ∙ found.1,
                  );
            };
      }
    where
      -- no read answers 6
      never_6 : read.number ≡ 6 → ⊥
      never_6 six = clash (rw six at (read_answer_lem p l after (length work) (length back) 0).number_is) refl
