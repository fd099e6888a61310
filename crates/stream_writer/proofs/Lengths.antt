-- The length of a stream as the code works it out, and its bounds.
-- Assumes nothing.
use Prim.Native.Nat.{ℕ, ◌+◌, ◌*◌, ◌/◌, ◌%◌, ◌≤◌, ◌<◌}
use mathlib.Core.Path.{◌≡◌, sym}
use mathlib.Core.List.{List}
use native.Mathlib.Decide.{dec_lt}
use native.Mathlib.Omega.{arith}
use lib.ListN.{length}
use borrow.Author.Tests.{lt-ltb, le-ltb, ne_eqb}
use Rattle.symbology.specs.Stream.{byte_stream, stream_of}
use Rattle.laws.proofs.ByteMode.{last_run, stream_length, stream_length_lem}

-- a last run of no bytes, of at most 15, of more
pub last_none : {r : ℕ} → r ≡ 0 → last_run r ≡ 0
last_none e = rw e

pub last_short : {r : ℕ} → 0 < r → r < 16 → last_run r ≡ 11 + 8 * r
last_short {r} some few = rw (ne_eqb r 0 (λ e. omega arith), lt-ltb r 16 few)

pub last_long : {r : ℕ} → 16 ≤ r → last_run r ≡ 24 + 8 * r
last_long {r} many = rw (ne_eqb r 0 (λ e. omega arith), le-ltb r 16 many)

-- runs of the greatest length and a last run
pub whole_runs : (m : List ℕ) → length m / 8206 * 65672 + last_run (length m % 8206) ≡ length (byte_stream m)
unfolding stream_length
whole_runs m = sym (stream_length_lem m)

last_bounds : (r : ℕ) → (8 * r ≤ last_run r) × (last_run r ≤ 32 * r)
last_bounds r = elim (dec_lt r 16) [
  | yes few ↦
      elim (dec_lt 0 r) [
        | yes some ↦ omega (arith, last_short some few)
        | no none ↦ omega (arith, last_none {r = r} (omega arith))
      ]
  | no many ↦ omega (arith, last_long {r = r} (omega arith))
]

-- eight bits for each byte at least, 32 at most
stream_bounds : (m : List ℕ) → (8 * length m ≤ length (byte_stream m)) × (length (byte_stream m) ≤ 32 * length m)
stream_bounds m = omega (arith, whole_runs m, last_bounds (length m % 8206))

-- the stream that is chosen has no fewer bits than the message has bytes, and 32 for each at most
pub chosen_bounds : (m : List ℕ) → (length m ≤ length (stream_of m)) × (length (stream_of m) ≤ 32 * length m)
unfolding stream_of
chosen_bounds m = omega (arith, stream_bounds m)
