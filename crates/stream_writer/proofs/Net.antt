-- The net bits of a stream: the stream stored, a 1 behind it, and zeros filled in behind that.
-- Assumes nothing.
use Prim.Native.Nat.{ℕ, suc, ◌+◌, ◌-◌, ◌≤◌, ◌<◌}
use mathlib.Core.Path.{◌≡◌, refl}
use mathlib.Core.List.{List, [], ◌∷◌, ◌++◌, append-nil}
use native.Mathlib.Omega.{arith}
use lib.ListN.{length, set, take, drop, replicate, length-take, length-drop, drop_of_length-le}
use lib.Seq.{append_snoc}
use borrow.Rule.Slice.PartMut.{put_mid}
use Rattle.symbology.specs.Net.{with_end_mark}
use Rattle.pieces.specs.Pieces.{StoredAt}
use Rattle.pieces.proofs.Pieces.{joined, stored_kept, stored_front}

-- the stream, the mark behind it and the zeros
pub net_stored : (stream : List ℕ) {before stored zeros : List ℕ} {end : ℕ} → length stream < length before
    → StoredAt stream 0 before stored end
    → let marked = set stored end 1 in
    let left = length marked - (end + 1) in
    zeros ≡ replicate (length (take left (drop (end + 1) marked))) 0
    → put_mid (end + 1) left marked zeros ≡ with_end_mark (length before) stream
unfolding with_end_mark
net_stored stream {before} {stored} {zeros} {end} h t filled =
    let marked : List ℕ = set stored end 1 in
    let left : ℕ = length marked - (end + 1) in
    let back : List ℕ = drop (end + 1) marked in
    let front : StoredAt (stream ++ (1 ∷ [])) 0 before marked (end + 1) = joined t (record { place = refl; stored = refl }) in
    let room : end + 1 ≤ length before = omega (arith, t.place) in
    let many : length (take left back) ≡ length before - suc (length stream) =
    omega (arith, length-take left back, length-drop (end + 1) marked, t.place, stored_kept front) in
    let none : drop left back ≡ [] = drop_of_length-le back (omega (arith, length-drop (end + 1) marked)) in
    let rest : List ℕ = replicate (length before - suc (length stream)) 0 in
    rw (stored_front front room, filled, many, none, append-nil rest) (append_snoc stream 1 rest)
