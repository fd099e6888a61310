-- Document 01, "Bits": the end mark in the net bits, and the stuffing bits (002, 4.4.2).
-- Assumes nothing.
use Rattle.std.specs.Prelude.{ℕ, suc, ◌-◌, ◌%◌, Bool, cond, List, [], ◌∷◌, ◌++◌, length, take, replicate, ltb, eqb}
use Rattle.symbology.specs.Ranges.{tabulate, tally}

-- the stream, a 1, then zeros up to n bits
unfoldable pub with_end_mark : ℕ → List ℕ → List ℕ
with_end_mark n stream = stream ++ 1 ∷ replicate (n - suc (length stream)) 0

-- the stream and its end mark exceed the n net bits
abbrev pub exceeds : ℕ → ℕ → Bool
exceeds stream_length n = ltb n (suc stream_length)

-- how many bits there are up to the last 1, that one counted; 0 where all are 0
unfoldable pub up_to_last_one : List ℕ → ℕ
up_to_last_one [] = 0
up_to_last_one (b ∷ bs) =
    let n = up_to_last_one bs in
    cond (eqb n 0) (tally (eqb (b % 2) 1)) (suc n)

-- the stream that net bits hold: what stands before the last 1
unfoldable pub stream_in : List ℕ → List ℕ
stream_in net = take (up_to_last_one net - 1) net

-- n stuffing bits: 0, 1, 0, ..
unfoldable pub stuffing : ℕ → List ℕ
stuffing n = tabulate n (λ i. i % 2)
