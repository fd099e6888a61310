-- Demand 3 as one record over the whole read: what mending is held to, from the sampled matrix to the answer, its counts and the places
-- of the repairs (document 02, W-205). It says nothing of how the repairs are found.
-- Assumes nothing.
use Rattle.std.specs.Prelude.{ℕ, suc, ◌≤◌, ◌<◌, ◌≡◌, List, ◌++◌, map, length, drop}
use Rattle.symbology.specs.declared.Params.{Params}
use Rattle.symbology.specs.Capacity.{sizes_for}
use Rattle.symbology.specs.Rule.{unmet_count, after_turns}
use Rattle.symbology.specs.Steps.{Steps, Lowers, Ended}
use Rattle.symbology.specs.Code.{checks_for}
use Rattle.symbology.specs.Symbol.{received_word}
use Rattle.calls.specs.declared.ReadAnswer.{ReadAnswer}
use Rattle.calls.specs.Answers.{counted, counts_in}
use Rattle.calls.specs.Read.{answer_from_accepted, message_in_accepted, front_after}

-- A read of the matrix that reached the checks gave the answer a. It left the message buffer, which came as `before`, as `after`, and the
-- slice for places, which came as `slice`, as `stored`.
pub record Mends (p : Params) (l matrix before slice : List ℕ) (a : ReadAnswer) (after stored : List ℕ) : Type 0 where
  -- the received word has Pg bits
  pub whole : length (received_word p l matrix) ≡ (sizes_for p l).gross
  -- the bits turned, in order, and the word the rule ends with
  pub repaired : List ℕ
  pub last : List ℕ
  -- the rule's own steps from the received word, each of which lowers the unmet count, run to its end
  pub steps : Steps (checks_for (sizes_for p l)) (received_word p l matrix) repaired last
  pub lowers : Lowers (checks_for (sizes_for p l)) (received_word p l matrix) repaired
  pub ended : Ended (checks_for (sizes_for p l)) last
  -- all of them and no others: steps from the received word to an end are these
  pub only : (js v : List ℕ)
      → Steps (checks_for (sizes_for p l)) (received_word p l matrix) js v
      → Ended (checks_for (sizes_for p l)) v
      → (js ≡ repaired) × (v ≡ last)
  -- turned one after the other in the received word they give the last one
  pub turning : after_turns (received_word p l matrix) repaired ≡ last
  -- the counts reported
  pub repairs_are : a.repairs ≡ length repaired
  pub unmet_is : a.unmet ≡ unmet_count (checks_for (sizes_for p l)) (received_word p l matrix)
  pub bounded : a.repairs ≤ a.unmet
  -- stuck exactly when the rule ends with a check unmet; the message buffer is then as it came
  pub is_stuck : 0 < unmet_count (checks_for (sizes_for p l)) last → (a ≡ counted (counts_in a) 9 0) × (after ≡ before)
  pub when_stuck : a.number ≡ 9 → 0 < unmet_count (checks_for (sizes_for p l)) last
  -- otherwise all checks hold in the last word
  pub accepted : (a.number ≡ 9 → ⊥) → unmet_count (checks_for (sizes_for p l)) last ≡ 0
  -- 16 exactly when there are then more repairs than the slice holds; the message buffer is as it came
  pub is_short : unmet_count (checks_for (sizes_for p l)) last ≡ 0
      → length slice < length repaired
      → (a ≡ counted (counts_in a) 16 0) × (after ≡ before)
  pub when_short : a.number ≡ 16 → (unmet_count (checks_for (sizes_for p l)) last ≡ 0) × (length slice < length repaired)
  -- otherwise answer and message come from the last word
  pub goes_on : (a.number ≡ 9 → ⊥)
      → (a.number ≡ 16 → ⊥)
      → (a ≡ answer_from_accepted (sizes_for p l) last (counts_in a) (length before))
      × (after ≡ front_after a.number (message_in_accepted (sizes_for p l) last) before)
  -- on 0 the slice begins with the repairs in their order, each one more, and goes on as it came
  pub places : a.number ≡ 0
      → (length repaired ≤ length slice)
      × (stored ≡ map suc repaired ++ drop (length repaired) slice)
  -- on every refusal all of it is as it came
  pub no_places : (a.number ≡ 0 → ⊥) → stored ≡ slice
