-- Document 01, "Bits": the place of a draw with n places left, in single precision (IEEE 754, to nearest, ties to even).
-- Assumes nothing.
use Rattle.std.specs.Prelude.{ℕ, ◌-◌, ◌*◌, ◌/◌, ◌^◌, false, cond, eqb, pos, Float}
use Rattle.std.specs.Float.{fin, binary32}
use Rattle.std.specs.Float.Ieee.{mul, div, of_int, to_unsigned, size}
use Rattle.std.specs.Float.Ieee.Nearest.{closest}

-- the draw, its quotient by 4,294,967,296 and the product with n, each rounded once
unfoldable pub scaled : ℕ → ℕ → Float
scaled d n = mul binary32 (div binary32 (of_int binary32 (pos d)) (fin false 1 (pos 32))) (of_int binary32 (pos n))

-- its whole part
unfoldable pub raw_place : ℕ → ℕ → ℕ
raw_place d n = to_unsigned 64 (scaled d n)

-- if that is n, the place is n - 1
abbrev pub capped : ℕ → ℕ → ℕ
capped raw n = cond (eqb raw n) (n - 1) raw

-- the place of the draw d with n places left, counted from 0
unfoldable pub place_of : ℕ → ℕ → ℕ
place_of d n = capped (raw_place d n) n

-- ---- the same in whole numbers, as the code works it (02, W-203); that it is the same is the law `place_whole`

-- a whole number rounded to the 24 binary digits of single precision, to nearest, ties to even
unfoldable pub nearest_single : ℕ → ℕ
nearest_single x =
    let unit = 2 ^ (size x - 24) in
    closest x unit * unit

-- the place of the draw d with n places left: the division by 2^32 never rounds
unfoldable pub whole_place : ℕ → ℕ → ℕ
whole_place d n = capped (nearest_single (nearest_single d * n) / 2 ^ 32) n
