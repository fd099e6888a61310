-- The random number generator run backwards. That it undoes a step is the law `previous_next`.
-- Assumes nothing.
use Rattle.std.specs.Prelude.{ℕ, ◌+◌, ◌-◌, ◌*◌, ◌%◌, ◌^◌}

-- The state before a state. The factor is the inverse of the generator's modulo 2^64.
abbrev pub previous_state : ℕ → ℕ
previous_state s = 13877824140714322085 * ((s + (2 ^ 64 - 1)) % 2 ^ 64) % 2 ^ 64
