-- The random number generator run backwards undoes its step.
-- Assumes nothing.
use Rattle.std.proofs.Common.{◌≡◌, ℕ, ◌+◌, ◌-◌, ◌*◌, ◌%◌, ◌^◌, ◌<◌, sym, ap, ◌∙◌, mul_comm, mul_right_comm, arith}
use Rattle.symbology.specs.Generator.{next_state}
use Rattle.draws.specs.Backwards.{previous_state}
use Rattle.draws.proofs.Products.{mul_mod}

-- the generator's 1 taken away again
less_one : (p : ℕ) → ((p + 1) % 2 ^ 64 + (2 ^ 64 - 1)) % 2 ^ 64 ≡ p % 2 ^ 64
less_one p = omega arith

one_times : (s : ℕ) → s < 2 ^ 64 → 1 * s % 2 ^ 64 ≡ s
one_times s h = omega arith

-- the two factors' product is 1 modulo 2^64
inverse : (s : ℕ) → s < 2 ^ 64 → 6364136223846793005 * s * 13877824140714322085 % 2 ^ 64 ≡ s
inverse s h =
    ap (λ (z : ℕ). z % 2 ^ 64) (mul_right_comm 6364136223846793005 s 13877824140714322085)
    ∙ sym (mul_mod (6364136223846793005 * 13877824140714322085) s (2 ^ 64))
    ∙ one_times s h

-- The state before the state after a state is the state.
pub previous_next : (s : ℕ) → s < 2 ^ 64 → previous_state (next_state s) ≡ s
previous_next s h =
    ap (λ (z : ℕ). 13877824140714322085 * z % 2 ^ 64) (less_one (6364136223846793005 * s))
    ∙ ap (λ (z : ℕ). z % 2 ^ 64) (mul_comm 13877824140714322085 (6364136223846793005 * s % 2 ^ 64))
    ∙ mul_mod (6364136223846793005 * s) 13877824140714322085 (2 ^ 64)
    ∙ inverse s h
