-- Laws of the random number generator: its states and draws stay in range, and draws run on from where others ended.
-- Assumes nothing.
use Prim.Native.Nat.{ℕ, zero, suc, ◌+◌, ◌*◌, ◌/◌, ◌%◌, ◌^◌, ◌<◌}
use mathlib.Core.Path.{◌≡◌, ap, ◌∙◌}
use native.Mathlib.Nat.{zero-add, suc-add, lt_of_le_of_lt}
use native.Mathlib.Omega.{arith}
use lib.Bits.{bit_and, bit_xor, xor_lt, and_le_l}
use lib.Pow.{shr_le}
use Rattle.symbology.specs.Generator.{next_state, temper, draw, state_after}

-- a word of 32 bits with itself moved down, and with itself moved up and masked
down_lt : (x k : ℕ) → x < 2 ^ 32 → bit_xor x (x / 2 ^ k) < 2 ^ 32
down_lt x k h = xor_lt 32 x (x / 2 ^ k) h (lt_of_le_of_lt (shr_le x k) h)

up_lt : (x k mask : ℕ) → x < 2 ^ 32 → bit_xor x (bit_and (x * 2 ^ k % 2 ^ 32) mask) < 2 ^ 32
up_lt x k mask h =
    xor_lt 32 x (bit_and (x * 2 ^ k % 2 ^ 32) mask) h (lt_of_le_of_lt (and_le_l (x * 2 ^ k % 2 ^ 32) mask) (omega arith))

-- A tempered word of 32 bits has 32 bits.
pub temper_lt : (x : ℕ) → x < 2 ^ 32 → temper x < 2 ^ 32
unfolding temper
temper_lt x h =
    let a : ℕ = bit_xor x (x / 2 ^ 11) in
    let b : ℕ = bit_xor a (bit_and (a * 2 ^ 7 % 2 ^ 32) 0x9D2C5680) in
    let c : ℕ = bit_xor b (bit_and (b * 2 ^ 15 % 2 ^ 32) 0xEFC60000) in
    down_lt c 18 (up_lt b 15 0xEFC60000 (up_lt a 7 0x9D2C5680 (down_lt x 11 h)))

-- A state has 64 bits.
pub state_lt : (s : ℕ) → next_state s < 2 ^ 64
state_lt s = omega arith

-- A draw has 32 bits.
pub draw_lt : (s : ℕ) → draw (next_state s) < 2 ^ 32
draw_lt s = temper_lt (next_state s / 2 ^ 32) (omega arith)

-- The state after m and n draws is that after n draws from the state after m.
pub after_add : (m n s : ℕ) → state_after (m + n) s ≡ state_after n (state_after m s)
unfolding state_after
after_add zero n s = ap (λ (k : ℕ). state_after k s) (zero-add n)
after_add (suc m) n s = ap (λ (k : ℕ). state_after k s) (suc-add m n) ∙ after_add m n (next_state s)
