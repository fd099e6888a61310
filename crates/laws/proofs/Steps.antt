-- Laws of the rule's run: it consists of steps of the rule, comes to an end within as many steps as there were unmet checks, and no
-- other run does.
-- Assumes nothing.
use Prim.Native.Nat.{ℕ, zero, suc, ◌+◌, ◌≤◌, ◌<◌}
use mathlib.Core.Path.{◌≡◌, refl, sym, ap, ◌∙◌, subst, subst⁻¹}
use mathlib.Core.Bool.{true, false}
use mathlib.Core.Logic.{inl, inr}
use mathlib.Core.List.{List, [], ◌∷◌}
use native.Mathlib.Omega.{arith}
use lib.ListN.{length, get_or}
use borrow.Author.Tests.{ltb-true, ltb-false, lt-ltb, le-ltb}
use Rattle.symbology.specs.Bits.{AllBits}
use Rattle.symbology.specs.Rule.{bit_sum, unmet, unmet_count, suspect, turned, ends, repairs, after_turns, repairs_of, last_word, stuck}
use Rattle.symbology.specs.Steps.{LowestSuspect, Steps, Lowers, Ended}
use Rattle.laws.proofs.Ranges.{by}
use Rattle.laws.proofs.Rule.{AllOnce, length_turned, turned_bits, step_lowers, suspect_lowest}
use Rattle.laws.proofs.Rule.{lowest_suspect, ends_means, goes_means, ended_ends}

-- ---- turned bits

pub length_after : (w js : List ℕ) → length (after_turns w js) ≡ length w
unfolding after_turns
length_after w [] = refl
length_after w (j ∷ js) = length_after (turned w j) js ∙ length_turned w j

pub after_bits : (w js : List ℕ) → AllBits w → AllBits (after_turns w js)
unfolding after_turns
after_bits w [] b = b
after_bits w (j ∷ js) b = after_bits (turned w j) js (turned_bits w j b)

-- The last word is as long as the received one.
pub length_last : (cs : List (List ℕ)) (w : List ℕ) → length (last_word cs w) ≡ length w
unfolding last_word
length_last cs w = length_after w (repairs_of cs w)

-- The last word of a word of bits is one of bits.
pub last_bits : (cs : List (List ℕ)) (w : List ℕ) → AllBits w → AllBits (last_word cs w)
unfolding last_word
last_bits cs w b = after_bits w (repairs_of cs w) b

-- ---- steps of the rule

-- Steps of the rule lead to the word with their bits turned.
pub steps_turn : (cs : List (List ℕ)) (w js v : List ℕ) → Steps cs w js v → after_turns w js ≡ v
unfolding Steps after_turns
steps_turn cs w [] v s = s
steps_turn cs w (j ∷ js) v s = steps_turn cs (turned w j) js v s.2

-- Each step of the rule lowers the number of unmet checks.
pub steps_lower : (cs : List (List ℕ)) (w js v : List ℕ) → AllOnce cs → AllBits w → Steps cs w js v → Lowers cs w js
unfolding Steps Lowers
steps_lower cs w [] v o b s = tt
steps_lower cs w (j ∷ js) v o b s =
    (step_lowers cs w j o b s.1.inside s.1.suspected, steps_lower cs (turned w j) js v o (turned_bits w j b) s.2)

-- Turns that each lower the number of unmet checks lower it by at least their number.
pub lowers_bounded : (cs : List (List ℕ)) (w js : List ℕ) → Lowers cs w js
    → length js + unmet_count cs (after_turns w js) ≤ unmet_count cs w
unfolding Lowers after_turns
lowers_bounded cs w [] s = omega arith
lowers_bounded cs w (j ∷ js) s = omega (arith, s.0, lowers_bounded cs (turned w j) js s.1)

-- where the rule ends there is no step
no_step : (cs : List (List ℕ)) (w : List ℕ) (j : ℕ) → Ended cs w → 0 < unmet_count cs w → LowestSuspect cs w j → ⊥
no_step cs w j (inl e) h s = omega arith
no_step cs w j (inr none) h s = omega (arith, none j s.inside, s.suspected)

-- Steps of the rule from a word to an end are the only ones.
pub steps_only : (cs : List (List ℕ)) (w js v js' v' : List ℕ)
    → Steps cs w js v → Ended cs v → Steps cs w js' v' → Ended cs v' → (js ≡ js') × (v ≡ v')
unfolding Steps
steps_only cs w [] v [] v' s e s' e' = (refl, sym s ∙ s')
steps_only cs w [] v (k ∷ ks) v' s e s' e' = absurd (no_step cs w k (subst⁻¹ (Ended cs) s e) s'.0 s'.1)
steps_only cs w (j ∷ js) v [] v' s e s' e' = absurd (no_step cs w j (subst⁻¹ (Ended cs) s' e') s.0 s.1)
steps_only cs w (j ∷ js) v (k ∷ ks) v' s e s' e' =
    let same : k ≡ j = sym (lowest_suspect cs w k s'.1) ∙ lowest_suspect cs w j s.1 in
    let later : Steps cs (turned w j) ks v' = subst (λ (i : ℕ). Steps cs (turned w i) ks v') same s'.2 in
    let rest : (js ≡ ks) × (v ≡ v') = steps_only cs (turned w j) js v ks v' s.2 e later e' in
    (rw (same, rest.0) refl, rest.1)

-- ---- the run

-- where the test of the end holds, nothing is turned
pub repairs_end : (cs : List (List ℕ)) (n : ℕ) (w : List ℕ) → ends cs w ≡ true → repairs cs n w ≡ []
unfolding repairs
repairs_end cs zero w e = refl
repairs_end cs (suc n) w e = rw e refl

-- where the test of the end fails, the suspect bit is turned, and the run goes on
pub repairs_more : (cs : List (List ℕ)) (n : ℕ) (w : List ℕ) → ends cs w ≡ false
    → repairs cs (suc n) w ≡ suspect cs w ∷ repairs cs n (turned w (suspect cs w))
unfolding repairs
repairs_more cs n w e = rw e refl

-- the bits of the list, turned in this order, are steps of the rule to its end
abbrev Run : List (List ℕ) → List ℕ → List ℕ → Type 0
Run cs w js = Steps cs w js (after_turns w js) × Ended cs (after_turns w js)

run_end : (cs : List (List ℕ)) (w : List ℕ) → Ended cs w → Run cs w []
unfolding Steps after_turns
run_end cs w e = (refl, e)

run_more : (cs : List (List ℕ)) (w js : List ℕ) → ends cs w ≡ false
    → Run cs (turned w (suspect cs w)) js → Run cs w (suspect cs w ∷ js)
unfolding Steps after_turns
run_more cs w js e r =
    let some : (0 < unmet_count cs w) × (suspect cs w < length w) = goes_means cs w e in
    let s : LowestSuspect cs w (suspect cs w) = suspect_lowest cs w some.1 in
    ((some.0, s, r.0), r.1)

-- with fuel for each unmet check the run comes to its end
runs : (cs : List (List ℕ)) (n : ℕ) (w : List ℕ) → AllOnce cs → AllBits w → unmet_count cs w ≤ n → Run cs w (repairs cs n w)
runs cs zero w o b h = subst⁻¹ (Run cs w) (repairs_end cs zero w (ended_ends cs w (inl (omega arith)))) (run_end cs w (inl (omega arith)))
runs cs (suc n) w o b h =
    by (ends cs w) (λ e. subst⁻¹ (Run cs w) (repairs_end cs (suc n) w e) (run_end cs w (ends_means cs w e)))
    (λ e.
    let j : ℕ = suspect cs w in
    let some : (0 < unmet_count cs w) × (j < length w) = goes_means cs w e in
    let less : unmet_count cs (turned w j) < unmet_count cs w = step_lowers cs w j o b some.1 (suspect_lowest cs w some.1).suspected in
    let later : Run cs (turned w j) (repairs cs n (turned w j)) = runs cs n (turned w j) o (turned_bits w j b) (omega arith) in
    subst⁻¹ (Run cs w) (repairs_more cs n w e) (run_more cs w (repairs cs n (turned w j)) e later))

-- The defined run consists of steps of the rule.
pub rule_steps : (cs : List (List ℕ)) (w : List ℕ) → AllOnce cs → AllBits w → Steps cs w (repairs_of cs w) (last_word cs w)
unfolding repairs_of last_word
rule_steps cs w o b = (runs cs (unmet_count cs w) w o b (omega arith)).0

-- Each step of the defined run lowers the number of unmet checks.
pub rule_lowers : (cs : List (List ℕ)) (w : List ℕ) → AllOnce cs → AllBits w → Lowers cs w (repairs_of cs w)
rule_lowers cs w o b = steps_lower cs w (repairs_of cs w) (last_word cs w) o b (rule_steps cs w o b)

-- The defined run comes to the rule's end: it has fuel enough.
pub rule_ends : (cs : List (List ℕ)) (w : List ℕ) → AllOnce cs → AllBits w → Ended cs (last_word cs w)
unfolding repairs_of last_word
rule_ends cs w o b = (runs cs (unmet_count cs w) w o b (omega arith)).1

-- Steps of the rule to an end are the defined run.
pub rule_only : (cs : List (List ℕ)) (w : List ℕ) → AllOnce cs → AllBits w
    → (js v : List ℕ) → Steps cs w js v → Ended cs v → (js ≡ repairs_of cs w) × (v ≡ last_word cs w)
rule_only cs w o b js v s e = steps_only cs w js v (repairs_of cs w) (last_word cs w) s e (rule_steps cs w o b) (rule_ends cs w o b)

-- There are no more repairs than there were unmet checks.
pub repairs_bounded : (cs : List (List ℕ)) (w : List ℕ) → AllOnce cs → AllBits w → length (repairs_of cs w) ≤ unmet_count cs w
repairs_bounded cs w o b = omega (arith, lowers_bounded cs w (repairs_of cs w) (rule_lowers cs w o b))

-- Where all checks hold, no bit is turned.
pub untouched : (cs : List (List ℕ)) (w : List ℕ) → unmet_count cs w ≡ 0 → repairs_of cs w ≡ []
unfolding repairs_of
untouched cs w e = repairs_end cs (unmet_count cs w) w (ended_ends cs w (inl e))

-- Where all checks hold, the last word is the received one.
pub untouched_word : (cs : List (List ℕ)) (w : List ℕ) → unmet_count cs w ≡ 0 → last_word cs w ≡ w
unfolding last_word after_turns
untouched_word cs w e = rw (untouched cs w e) refl

-- A stuck word ends with a check unmet.
pub stuck_means : (cs : List (List ℕ)) (w : List ℕ) → stuck cs w ≡ true → 0 < unmet_count cs (last_word cs w)
unfolding stuck
stuck_means cs w e = ltb-true 0 (unmet_count cs (last_word cs w)) e

-- A word that is not stuck ends with no check unmet.
pub not_stuck : (cs : List (List ℕ)) (w : List ℕ) → stuck cs w ≡ false → unmet_count cs (last_word cs w) ≡ 0
unfolding stuck
not_stuck cs w e = omega (arith, ltb-false 0 (unmet_count cs (last_word cs w)) e)

-- A word is stuck where the rule ends with a check unmet.
pub unmet_stuck : (cs : List (List ℕ)) (w : List ℕ) → 0 < unmet_count cs (last_word cs w) → stuck cs w ≡ true
unfolding stuck
unmet_stuck cs w h = lt-ltb 0 (unmet_count cs (last_word cs w)) h

-- A word is not stuck where the rule ends with no check unmet.
pub met_not_stuck : (cs : List (List ℕ)) (w : List ℕ) → unmet_count cs (last_word cs w) ≡ 0 → stuck cs w ≡ false
unfolding stuck
met_not_stuck cs w e = le-ltb 0 (unmet_count cs (last_word cs w)) (omega arith)

-- Where the unmet count is 0, each check holds.
pub unmet_zero : (cs : List (List ℕ)) (w : List ℕ) → unmet_count cs w ≡ 0 → (i : ℕ) → unmet (get_or cs i []) w ≡ 0
unfolding unmet_count unmet bit_sum
unmet_zero [] w e i = refl
unmet_zero (c ∷ cs) w e zero = omega arith
unmet_zero (c ∷ cs) w e (suc i) = unmet_zero cs w (omega arith) i

-- ---- the run without its fuel

-- Where the test of the end holds, the run turns no bit.
pub run_ends : (cs : List (List ℕ)) (w : List ℕ) → ends cs w ≡ true → (repairs_of cs w ≡ []) × (last_word cs w ≡ w)
unfolding repairs_of last_word after_turns
run_ends cs w e =
    let none : repairs_of cs w ≡ [] = repairs_end cs (unmet_count cs w) w e in
    (none, ap (after_turns w) none)

-- Where the test of the end fails, the run turns the suspect bit and goes on as the run from the word so changed.
pub run_goes : (cs : List (List ℕ)) (w : List ℕ) → AllOnce cs → AllBits w → ends cs w ≡ false
    → (repairs_of cs w ≡ suspect cs w ∷ repairs_of cs (turned w (suspect cs w))) × (last_word cs w ≡ last_word cs (turned w (suspect cs w)))
unfolding last_word after_turns
run_goes cs w o b e =
    let j : ℕ = suspect cs w in
    let v : List ℕ = turned w j in
    let later : Run cs v (repairs_of cs v) = (rule_steps cs v o (turned_bits w j b), rule_ends cs v o (turned_bits w j b)) in
    let r : Run cs w (j ∷ repairs_of cs v) = run_more cs w (repairs_of cs v) e later in
    let same : (j ∷ repairs_of cs v ≡ repairs_of cs w) × (last_word cs v ≡ last_word cs w)
    = rule_only cs w o b (j ∷ repairs_of cs v) (last_word cs v) r.0 r.1 in
    (sym same.0, sym same.1)
