-- 002, Annex E: the random number generator. Its 64-bit sums and products drop the carry.
-- Assumes nothing.
use Rattle.std.specs.Prelude.{ℕ, zero, suc, ◌+◌, ◌*◌, ◌/◌, ◌%◌, ◌^◌}
use Rattle.std.specs.Int.Bits.{bit_and, bit_xor}

-- lcg64_temper's step of the seed
abbrev pub next_state : ℕ → ℕ
next_state s = (6364136223846793005 * s + 1) % 2 ^ 64

-- temper, on 32 bits
unfoldable pub temper : ℕ → ℕ
temper x =
    let a = bit_xor x (x / 2 ^ 11) in
    let b = bit_xor a (bit_and (a * 2 ^ 7 % 2 ^ 32) 0x9D2C5680) in
    let c = bit_xor b (bit_and (b * 2 ^ 15 % 2 ^ 32) 0xEFC60000) in
    bit_xor c (c / 2 ^ 18)

-- the number drawn in a state: its upper half, tempered
abbrev pub draw : ℕ → ℕ
draw s = temper (s / 2 ^ 32)

-- the state after n draws
unfoldable pub state_after : ℕ → ℕ → ℕ
state_after zero s = s
state_after (suc n) s = state_after n (next_state s)
