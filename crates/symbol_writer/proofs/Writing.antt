-- The stages of a write: what each asks of the work buffer, and what they leave for the next.
-- Assumes nothing.
use Prim.Native.Nat.{ℕ, suc, ◌+◌, ◌-◌, ◌≤◌, ◌<◌}
use mathlib.Core.Path.{◌≡◌, sym, ap, ap₂, ◌∙◌, subst⁻¹}
use mathlib.Core.Bool.{Bool, true, false}
use mathlib.Core.List.{List, ◌++◌}
use native.Mathlib.Omega.{arith}
use lib.ListN.{length, drop, take}
use lib.Seq.{take-add, drop-drop}
use borrow.Author.Tests.{ltb-true, ltb-false}
use borrow.Rule.Slice.PartMut.{put_mid}
use Rattle.symbology.specs.declared.Params.{Params}
use Rattle.symbology.specs.declared.Sizes.{Sizes}
use Rattle.symbology.specs.Bits.{AllBits}
use Rattle.symbology.specs.Shuffle.{shuffled, interleaving_seed}
use Rattle.symbology.specs.Net.{with_end_mark, exceeds, stuffing}
use Rattle.symbology.specs.Placement.{filled}
use Rattle.symbology.specs.Capacity.{sizes_for}
use Rattle.symbology.specs.Code.{matrix_for, codeword_for}
use Rattle.symbology.specs.Symbol.{placed_bits, written_matrix}
use Rattle.laws.proofs.Net.{length_net, net_bits_lem, length_stuffing}
use Rattle.laws.proofs.Shuffle.{length_shuffled}
use Rattle.calls.specs.declared.Answer.{Answer}
use Rattle.calls.specs.Answers.{answer}
use Rattle.calls.specs.Tests.{is_legal}
use Rattle.call_laws.proofs.RoundTrip.{writes_and_reads}
use Rattle.lent.specs.declared.Areas.{Areas}
use Rattle.lent.specs.Buffer.{part}
use Rattle.lent.specs.Work.{Laid, CodeSizes, RoomFor, word_in, net_in}
use Rattle.lent.proofs.Buffer.{length_part, part_lent, length_lent, length_put, part_put, changed_put, given_back, length_back, part_back}
use Rattle.lent.proofs.Work.{net_inside, part_kept, gross_areas, net_areas, bits_inside}
use Rattle.coding.specs.Stages.{WordEncoded}
use Rattle.ldpc.proofs.Stages.{codeword_for_lem}
use Rattle.symbol_writer.specs.Writing.{NetStored, BitsPlaced, MatrixWritten}

-- ---- the stages in the work buffer

-- the net bits came back in their area
pub net_stored : {a : Areas} {before : List ℕ} (stream : List ℕ) {new : List ℕ}
    → Laid a (length before)
    → length stream < a.net
    → new ≡ with_end_mark (length (part before a.message (a.message + a.net - a.message))) stream
    → NetStored a stream before (given_back a.message a.net before new)
net_stored {a} {before} stream {new} laid fits is =
    let inside : a.message + a.net ≤ length before = net_inside laid in
    let net : new ≡ with_end_mark a.net stream =
    is ∙ ap (λ (m : ℕ). with_end_mark m stream) (length_lent before a.message a.net inside) in
    let long : length new ≡ a.net = ap length net ∙ length_net a.net stream fits in
    record {
      long = length_back a.message a.net before new inside long;
      net_is = part_back a.message a.net before new inside long ∙ net;
    }

module _ {s : Sizes} {a : Areas} (before : List ℕ) (r : RoomFor s a (length before)) (encoded : List ℕ)
    (coded : WordEncoded a (matrix_for s) before encoded) (stuff : List ℕ) where
  abbrev seam : ℕ
  seam = a.word + a.gross

  abbrev end : ℕ
  end = a.word + s.capacity

  -- the buffer with the stuffing bits behind the word
  abbrev later : List ℕ
  later = put_mid seam (end - seam) encoded stuff

  abbrev Stuffed : Type 0
  Stuffed = stuff ≡ stuffing (length (part encoded seam (end - seam)))

  -- the stuffing bits lie behind the word, in front of the numbers
  pub seam_inside : (a.gross ≤ s.capacity) × (seam + (end - seam) ≤ length encoded)
  seam_inside =
      let whole : a.gross ≤ s.capacity = omega (arith, gross_areas r, r.sizes.inside) in
      (whole, omega (arith, bits_inside r, coded.changed.long))

  -- they are so many
  stuff_long : Stuffed → length stuff ≡ end - seam
  stuff_long is = ap length is ∙ length_stuffing _ ∙ length_part encoded seam (end - seam) seam_inside.1

  -- the buffer is as long as before
  pub stuffed_long : Stuffed → length later ≡ length before
  stuffed_long is = length_put seam (end - seam) encoded stuff seam_inside.1 (stuff_long is) ∙ coded.changed.long

  -- codeword and stuffing stand one behind the other
  stuffed_word : Stuffed → part later a.word s.capacity ≡ codeword_for s (net_in a before) ++ stuffing (s.capacity - s.gross)
  stuffed_word is =
      let m : ℕ = end - seam in
      let changed = changed_put seam m encoded stuff seam_inside.1 (stuff_long is) in
      let whole : s.capacity ≡ a.gross + m = omega (arith, seam_inside.0) in
      let many : m ≡ s.capacity - s.gross = omega (arith, gross_areas r) in
      let front : part later a.word a.gross ≡ word_in a encoded =
      part_kept changed a.word a.gross (omega (arith, seam_inside.1)) (λ i h g. omega arith) in
      let behind : part later seam m ≡ stuffing (s.capacity - s.gross) =
      part_put seam m encoded stuff seam_inside.1 (stuff_long is)
      ∙ is
      ∙ ap stuffing (length_part encoded seam m seam_inside.1 ∙ many) in
      ap (part later a.word) whole
      ∙ take-add a.gross m (drop a.word later)
      ∙ ap₂ (λ (xs ys : List ℕ). xs ++ take m ys) (front ∙ coded.word_is ∙ codeword_for_lem r (net_in a before))
      (drop-drop a.gross a.word later)
      ∙ ap (λ (ys : List ℕ). codeword_for s (net_in a before) ++ ys) behind

  -- and the C bits in their area, interleaved
  pub bits_placed : {new : List ℕ}
      → Stuffed
      → new ≡ shuffled 0 interleaving_seed (part later a.word (end - a.word))
      → BitsPlaced s a before (given_back a.word s.capacity later new)
  unfolding placed_bits
  bits_placed {new} stuffs is =
      let at : ℕ = a.word in
      let c : ℕ = s.capacity in
      let inside : at + c ≤ length later = omega (arith, stuffed_long stuffs, bits_inside r) in
      let placed : new ≡ shuffled 0 interleaving_seed (part later at c) =
      is ∙ ap (shuffled 0 interleaving_seed) (part_lent later at c) in
      let many : length (part later at c) ≡ c = length_part later at c inside in
      let long : length new ≡ c = ap length placed ∙ length_shuffled 0 interleaving_seed (part later at c) ∙ many in
      record {
        long = length_back at c later new inside long ∙ stuffed_long stuffs;
        bits_are = part_back at c later new inside long ∙ placed ∙ ap (shuffled 0 interleaving_seed) (stuffed_word stuffs);
      }

-- ---- the matrix

-- the net bits are few
pub net_few : {s : Sizes} → CodeSizes s → s.net ≤ 4096
net_few k = omega (arith, k.parts, k.inside, k.few)

-- the net bits of a stream of bits are bits
pub stored_bits : {a : Areas} {stream before after : List ℕ} → AllBits stream → NetStored a stream before after → AllBits (net_in a after)
stored_bits {a} {stream} bits n = subst⁻¹ AllBits n.net_is (net_bits_lem a.net stream bits)

-- a matrix filled with the C bits of a stream
pub matrix_stored : (p : Params) (l stream : List ℕ) {s : Sizes} {a : Areas} {room : ℕ} {first second third matrix : List ℕ}
    → s ≡ sizes_for p l
    → RoomFor s a room
    → NetStored a stream first second
    → BitsPlaced s a second third
    → matrix ≡ filled p l (part third a.word (a.word + s.capacity - a.word))
    → matrix ≡ written_matrix p l stream
unfolding written_matrix
matrix_stored p l stream {s} {a} {third = third} e r n b is =
    is
    ∙ ap (filled p l)
    (part_lent third a.word s.capacity
    ∙ b.bits_are
    ∙ ap (placed_bits s) (n.net_is ∙ ap (λ (m : ℕ). with_end_mark m stream) (net_areas r)))
    ∙ ap (λ (z : Sizes). filled p l (placed_bits z (with_end_mark z.net stream))) e

-- ---- test 6

module _ (p : Params) (l stream matrix : List ℕ) (work : ℕ) (is-legal : is_legal p l (length matrix) work ≡ true) {s : Sizes}
    (e : s ≡ sizes_for p l) {b : Bool} (is : b ≡ exceeds (length stream) s.net) where
  -- it holds
  pub no_room_lem : {a : Answer} → b ≡ true → a ≡ answer 6 0 → MatrixWritten p l stream matrix work a matrix
  no_room_lem t six =
      let more : (sizes_for p l).net < suc (length stream) =
      omega (arith, ltb-true s.net (suc (length stream)) (sym is ∙ t), ap (λ (z : Sizes). z.net) e) in
      let law = (writes_and_reads p l stream matrix work is-legal).denied more in
      record { answer_is = six ∙ sym law.0; matrix_is = sym law.1 }

  -- it does not: the stream and its end mark fit
  pub fits : b ≡ false → length stream < s.net
  fits f = ltb-false s.net (suc (length stream)) (sym is ∙ f)

  -- and the matrix is stored
  pub room_enough : {a : Answer} {matrix' : List ℕ} → b ≡ false → matrix' ≡ written_matrix p l stream → a ≡ answer 0 0
      → MatrixWritten p l stream matrix work a matrix'
  room_enough f stored zero_is =
      let law = (writes_and_reads p l stream matrix work is-legal).written (omega (arith, fits f, ap (λ (z : Sizes). z.net) e)) in
      record { answer_is = zero_is ∙ sym law.0; matrix_is = stored ∙ sym law.1 }
