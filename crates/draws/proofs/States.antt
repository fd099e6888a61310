-- The states of the random number generator, one draw at a time, forwards and backwards.
-- Assumes nothing.
use Rattle.std.proofs.Common.{◌≡◌, ℕ, zero, suc, ◌-◌, ◌^◌, ◌<◌, refl, ap, ◌∙◌, arith}
use Rattle.symbology.specs.Generator.{next_state, state_after}
use Rattle.laws.proofs.Generator.{state_lt}
use Rattle.draws.specs.Backwards.{previous_state}
use Rattle.draws.proofs.Backwards.{previous_next}

-- no draw
pub after_none : (s : ℕ) → state_after 0 s ≡ s
unfolding state_after
after_none s = refl

-- n draws are one and n - 1 from the state after it
pub after_turn : (n s : ℕ) → 0 < n → state_after (n - 1) (next_state s) ≡ state_after n s
unfolding state_after
after_turn zero s h = absurd (omega arith)
after_turn (suc n) s h =
    let e : suc n - 1 ≡ n = omega arith in
    ap (λ (k : ℕ). state_after k (next_state s)) e

-- n + 1 draws are n and one more
pub after_next : (n s : ℕ) → state_after (suc n) s ≡ next_state (state_after n s)
unfolding state_after
after_next zero s = refl
after_next (suc n) s = after_next n (next_state s)

-- every state after draws from a state of 64 bits has 64 bits
after_lt : (n s : ℕ) → s < 2 ^ 64 → state_after n s < 2 ^ 64
unfolding state_after
after_lt zero s h = h
after_lt (suc n) s h = after_lt n (next_state s) (state_lt s)

-- The state before that after n + 1 draws is that after n.
pub previous_after : (n s : ℕ) → s < 2 ^ 64 → previous_state (state_after (suc n) s) ≡ state_after n s
previous_after n s h = ap previous_state (after_next n s) ∙ previous_next (state_after n s) (after_lt n s h)
