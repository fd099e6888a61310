-- The pieces of a run and of a stream, stored one behind the other.
-- Assumes nothing.
use Prim.Native.Nat.{ℕ, min, ◌+◌, ◌≤◌, ◌<◌}
use mathlib.Core.Path.{◌≡◌, refl, ◌∙◌}
use mathlib.Core.List.{List, [], ◌∷◌, ◌++◌, append-nil}
use native.Mathlib.Numerals.{add-one}
use native.Mathlib.Omega.{arith}
use lib.ListN.{length, get_or, take, drop, length-append, drop_of_length-le}
use lib.Seq.{take_all, take_at, drop_at, drop-cons, sets}
use Rattle.symbology.specs.Bits.{bits}
use Rattle.symbology.specs.Stream.{byte_bits, run_count, byte_run, byte_stream}
use Rattle.laws.proofs.Bits.{length_bits}
use Rattle.laws.proofs.ByteMode.{stream_first}
use Rattle.pieces.specs.Pieces.{StoredAt}

-- a number stored in w bits
pub field : (w v : ℕ) {before after : List ℕ} {at next : ℕ} → next ≡ at + w → after ≡ sets before at (bits w v)
    → StoredAt (bits w v) at before after next
field w v e stored = record { place = omega (arith, length_bits w v); stored = stored }

-- ---- a run

-- the bits of the next byte in front of those of the others
pub bytes_next : (m : List ℕ) (i : ℕ) → i < length m → byte_bits (drop i m) ≡ bits 8 (get_or m i 0) ++ byte_bits (drop (i + 1) m)
unfolding byte_bits
bytes_next m i h = rw (add-one i, drop-cons m i 0 h)

-- the switches as one number, the count, the bytes
pub run_pieces : (m : List ℕ) → bits 7 124 ++ run_count (length m) ++ byte_bits m ≡ byte_run m
unfolding byte_run bits
run_pieces m = refl

-- ---- a stream

-- a first part of the greatest length, or of all there is
first_run : (run more : List ℕ) → length run ≡ min 8206 (length (run ++ more))
    → (take 8206 (run ++ more) ≡ run) × (drop 8206 (run ++ more) ≡ more)
first_run run [] h =
    let few : length (run ++ []) ≤ 8206 = omega (arith, length-append run []) in
    (take_all 8206 (run ++ []) few ∙ append-nil run, drop_of_length-le (run ++ []) few)
first_run run (b ∷ more) h =
    let full : length run ≡ 8206 = omega (arith, length-append run (b ∷ more)) in
    (take_at run (b ∷ more) 8206 full, drop_at run (b ∷ more) 8206 full)

-- Of what is left, a part that a chunk takes off the front: its run comes first in the stream.
pub stream_next : {size : ℕ} {rest : List ℕ} (run more : List ℕ) → size ≡ 8206
    → (rest ≡ run ++ more) × (length run ≡ min size (length rest)) × (0 < length rest)
    → byte_stream rest ≡ byte_run run ++ byte_stream more
stream_next {rest = rest} run more e h =
    let parts = first_run run more (rw (e, h.0) at h.1) in
    stream_first rest h.2 ∙ rw (h.0, parts.0, parts.1)
