-- Document 02, W-205, about the definitions: how many numbers have to be lent for the places of the repairs, and what a read leaves in
-- them.
-- Assumes nothing.
use Prim.Native.Nat.{ℕ, ◌≤◌, ◌<◌}
use mathlib.Core.Path.{◌≡◌, refl, sym, ap, ◌∙◌}
use mathlib.Core.Bool.{true}
use mathlib.Core.List.{List}
use native.Mathlib.Omega.{arith}
use lib.ListN.{length, take, drop}
use borrow.Author.Tests.{ltb-true}
use Rattle.symbology.specs.declared.Params.{Params}
use Rattle.symbology.specs.declared.Sizes.{Sizes}
use Rattle.symbology.specs.Ranges.{has}
use Rattle.symbology.specs.Capacity.{sizes_for}
use Rattle.symbology.specs.Rule.{repairs_of, last_word}
use Rattle.symbology.specs.Code.{matrix_for, checks_for}
use Rattle.symbology.specs.Symbol.{received_word}
use Rattle.laws.proofs.Rule.{unmet_few, length_places}
use Rattle.laws.proofs.Steps.{repairs_bounded}
use Rattle.laws.proofs.Symbols.{received_bits_lem, symbol_once}
use Rattle.calls.specs.declared.Counts.{Counts}
use Rattle.calls.specs.declared.ReadAnswer.{ReadAnswer}
use Rattle.calls.specs.Answers.{counted, refused, counts_in}
use Rattle.calls.specs.Tests.{Row, size_rows, front_rows, early_rows, stream_rows, accepted_rows, received_rows}
use Rattle.calls.specs.Read.{places_in, front_after, counts_of, read_answer}
use Rattle.call_laws.proofs.Tests.{Each, each_all, each_other}
use Rattle.call_laws.proofs.Stages.{read_keeps, read_counts}
use Rattle.call_laws.proofs.Answers.{never_zero, front_done}

-- ---- how many places there are

-- Each repair of a received word has its place.
pub many_places : (p : Params) (l matrix : List ℕ)
    → length (places_in p l matrix) ≡ length (repairs_of (checks_for (sizes_for p l)) (received_word p l matrix))
unfolding places_in
many_places p l matrix = length_places (repairs_of (checks_for (sizes_for p l)) (received_word p l matrix))

module _ (p : Params) (l matrix : List ℕ) (work room : ℕ) where
  -- Every answer of a read has at most as many repairs as it has unmet checks, of which there are at most K.
  pub repairs_most : (slots : ℕ)
      → let a = read_answer p l matrix work room slots in
      (a.repairs ≤ a.unmet) × (a.unmet ≤ (sizes_for p l).checks)
  unfolding checks_for
  repairs_most slots =
      let Q : ReadAnswer → Type 0 = λ a. (a.repairs ≤ a.unmet) × (a.unmet ≤ (sizes_for p l).checks) in
      read_keeps p l matrix work room slots Q
      (each_all (λ r. r.test ≡ true → Q (refused r.number r.place)) (λ r t. (omega arith, omega arith)) _)
      (λ e. each_all (λ r. r.test ≡ true → Q (counted (counts_of p l matrix) r.number r.place)) (λ r t. bounded) _)
      (λ e enough fits. bounded)
    where
      bounded : ((counts_of p l matrix).repairs ≤ (counts_of p l matrix).unmet) × ((counts_of p l matrix).unmet ≤ (sizes_for p l).checks)
      bounded =
          let s : Sizes = sizes_for p l in
          let w : List ℕ = received_word p l matrix in (
            repairs_bounded (checks_for s) w (symbol_once s) (received_bits_lem p l matrix),
            unmet_few s.checks s.gross (matrix_for s) w,
          )

  -- On 0 the repairs are as many as there are places, and no more than numbers were lent.
  pub read_places : (slots : ℕ)
      → (read_answer p l matrix work room slots).number ≡ 0
      → ((read_answer p l matrix work room slots).repairs ≡ length (places_in p l matrix)) × (length (places_in p l matrix) ≤ slots)
  read_places slots =
      let n : ℕ = length (places_in p l matrix) in
      let same : n ≡ (counts_of p l matrix).repairs = many_places p l matrix in
      never_zero (λ (a : ReadAnswer). (a.repairs ≡ n) × (n ≤ slots)) p l matrix work room slots (λ enough fits. (sym same, omega arith))

  -- ---- how many numbers to lend

  -- 16 is answered only where there are more repairs than numbers were lent.
  pub places_short : (slots : ℕ)
      → (read_answer p l matrix work room slots).number ≡ 16
      → slots < (read_answer p l matrix work room slots).repairs
  unfolding has Each size_rows front_rows early_rows stream_rows accepted_rows received_rows
  places_short slots =
      let s : Sizes = sizes_for p l in
      let n : ℕ = (counts_of p l matrix).repairs in
      let accepted : List Row = accepted_rows s (last_word (checks_for s) (received_word p l matrix)) room in
      read_keeps p l matrix work room slots (λ (a : ReadAnswer). a.number ≡ 16 → slots < a.repairs)
      (each_other 16 (λ r. slots < 0) (early_rows p l matrix work) refl)
      (λ e. (λ t z. absurd (omega arith), (λ t z. ltb-true slots n t, each_other 16 (λ r. slots < n) accepted refl)))
      (λ e enough fits z. absurd (omega arith))

  -- What a read counts does not depend on how many numbers are lent.
  pub same_counts : (slots slots' : ℕ)
      → counts_in (read_answer p l matrix work room slots) ≡ counts_in (read_answer p l matrix work room slots')
  same_counts slots slots' = read_counts p l matrix work room slots ∙ sym (read_counts p l matrix work room slots')

  -- As many numbers as a read says that it has repairs are enough: with 16 a caller learns how many to lend.
  pub places_enough : (slots slots' : ℕ)
      → (read_answer p l matrix work room slots).repairs ≤ slots'
      → (read_answer p l matrix work room slots').number ≡ 16
      → ⊥
  places_enough slots slots' few short =
      omega (arith, ap (λ (c : Counts). c.repairs) (same_counts slots slots'), places_short slots' short)

  -- So are as many as checks were unmet at first.
  pub unmet_enough : (slots slots' : ℕ)
      → (read_answer p l matrix work room slots).unmet ≤ slots'
      → (read_answer p l matrix work room slots').number ≡ 16
      → ⊥
  unmet_enough slots slots' few = places_enough slots slots' (omega (arith, (repairs_most slots).0))

  -- So are K, whatever matrix is sampled.
  pub checks_enough : (slots : ℕ) → (sizes_for p l).checks ≤ slots → (read_answer p l matrix work room slots).number ≡ 16 → ⊥
  checks_enough slots most = unmet_enough slots slots (omega (arith, (repairs_most slots).1))

-- ---- what is left in them

-- A read that is done changes as many numbers as its answer has repairs, the first ones; the others are as they came.
pub done_places : (p : Params) (l matrix before : List ℕ) (work room : ℕ)
    → let a = read_answer p l matrix work room (length before) in
    a.number ≡ 0
    → let after = front_after a.number (places_in p l matrix) before in
    (length after ≡ length before) × (take a.repairs after ≡ places_in p l matrix) × (drop a.repairs after ≡ drop a.repairs before)
done_places p l matrix before work room e =
    let a : ReadAnswer = read_answer p l matrix work room (length before) in
    front_done a.number a.repairs (places_in p l matrix) before e (read_places p l matrix work room (length before) e)
