-- The net bits and the C bits in the work buffer: they fit, and once C bits are received, the word and the stuffing bits are parts of
-- the buffer.
-- Assumes nothing.
use Prim.Native.Nat.{ℕ, ◌+◌, ◌-◌, ◌≤◌}
use mathlib.Core.Path.{◌≡◌, sym, ap, ◌∙◌, subst⁻¹}
use mathlib.Core.List.{List}
use native.Mathlib.Omega.{arith}
use lib.ListN.{length, take, drop, length-drop}
use Rattle.symbology.specs.declared.Params.{Params}
use Rattle.symbology.specs.declared.Sizes.{Sizes}
use Rattle.symbology.specs.Bits.{AllBits, differing}
use Rattle.symbology.specs.Net.{stuffing}
use Rattle.symbology.specs.Placement.{sampled}
use Rattle.symbology.specs.Shuffle.{interleaving_seed}
use Rattle.symbology.specs.Capacity.{sizes_for}
use Rattle.symbology.specs.Symbol.{received_bits, received_word, wrong_stuffing}
use Rattle.laws.proofs.Shuffle.{length_unshuffled}
use Rattle.laws.proofs.Sizes.{sampled_whole}
use Rattle.laws.proofs.Symbols.{received_bits_lem}
use Rattle.call_laws.proofs.Tests.{Legal}
use Rattle.layout.specs.Walk.{SizedSymbol}
use Rattle.layout.proofs.Legal.{sized_symbol}
use Rattle.lent.specs.declared.Areas.{Areas}
use Rattle.lent.specs.Buffer.{part}
use Rattle.lent.proofs.Buffer.{part_lent, length_lent, given_back, length_back, front_back, behind_back}
use Rattle.lent.specs.Work.{areas_of, RoomFor, word_in, net_in}
use Rattle.lent.proofs.Work.{legal_room, room_as, gross_areas, net_areas, bits_inside}

-- ---- the net bits

-- as they are lent
pub net_lent : {s : Sizes} {a : Areas} {room : ℕ} (work : List ℕ) → RoomFor s a room
    → part work a.message (a.message + s.net - a.message) ≡ net_in a work
net_lent {s} {a} work r = part_lent work a.message s.net ∙ ap (part work a.message) (sym (net_areas r))

-- ---- the C bits

-- the sizes of a legal symbol, and the areas of a work buffer for them
pub record Sized (p : Params) (l : List ℕ) (modules : ℕ) (work : List ℕ) (s : Sizes) (a : Areas) : Type 0 where
  pub room : RoomFor s a (length work)
  pub sizes_are : s ≡ sizes_for p l
  pub legal_is : Legal p l modules (length work)

pub sized : (p : Params) (l : List ℕ) (modules : ℕ) (work : List ℕ) {s : Sizes} {a : Areas}
    → Legal p l modules (length work)
    → s ≡ sizes_for p l
    → a ≡ areas_of s
    → Sized p l modules work s a
sized p l modules work e same areas =
    record { room = legal_room p l e.symbol e.enough same areas; sizes_are = same; legal_is = e }

module _ {p : Params} {l : List ℕ} {modules : ℕ} {work : List ℕ} {s : Sizes} {a : Areas} (k : Sized p l modules work s a) where
  -- they fit
  pub bits_fit : a.word + s.capacity ≤ length work
  bits_fit = bits_inside k.room

  -- what receiving them asks for
  pub bits_lent : let out = part work a.word (a.word + s.capacity - a.word) in
      SizedSymbol p l (length out) modules × (length out ≤ 4096)
  bits_lent =
      let c : ℕ = s.capacity in
      let many : length (part work a.word (a.word + c - a.word)) ≡ c = length_lent work a.word c bits_fit in (
        sized_symbol p l k.legal_is.symbol (many ∙ ap (λ (z : Sizes). z.capacity) k.sizes_are) k.legal_is.whole,
        omega (arith, k.room.sizes.few),
      )

  -- the buffer once they are received
  module _ (matrix : List ℕ) {bits : List ℕ} (got : bits ≡ received_bits p l matrix) where
    abbrev after : List ℕ
    after = given_back a.word s.capacity work bits

    many_bits : length bits ≡ s.capacity
    unfolding received_bits
    many_bits =
        ap length got
        ∙ length_unshuffled 0 interleaving_seed (sampled p l matrix)
        ∙ sampled_whole p l matrix k.legal_is.symbol
        ∙ sym (ap (λ (z : Sizes). z.capacity) k.sizes_are)

    pub same_room : length after ≡ length work
    same_room = length_back a.word s.capacity work bits bits_fit many_bits

    -- its word
    pub word_received : word_in a after ≡ received_word p l matrix
    unfolding received_word
    word_received =
        ap (part after a.word) (gross_areas k.room)
        ∙ front_back a.word s.capacity work bits bits_fit many_bits s.gross k.room.sizes.inside
        ∙ ap (take s.gross) got
        ∙ ap (λ (z : Sizes). take z.gross (received_bits p l matrix)) k.sizes_are

    -- what going on from the word asks for
    pub word_asks : RoomFor s a (length after) × AllBits (word_in a after)
    word_asks = (room_as k.room same_room, subst⁻¹ AllBits word_received (received_bits_lem p l matrix))

    -- its wrong stuffing bits, of the bits behind the word
    pub stuffing_told : {n : ℕ}
        → let end = part after (a.word + s.gross) (a.word + s.capacity - (a.word + s.gross)) in
        n ≡ differing (stuffing (length end)) end → n ≡ wrong_stuffing p l matrix
    unfolding wrong_stuffing
    stuffing_told e =
        let rest : List ℕ = drop s.gross bits in
        let same : part after (a.word + s.gross) (a.word + s.capacity - (a.word + s.gross)) ≡ rest =
        behind_back a.word s.capacity work bits bits_fit many_bits s.gross k.room.sizes.inside in
        let long : length rest ≡ s.capacity - s.gross = length-drop s.gross bits ∙ ap (λ (n : ℕ). n - s.gross) many_bits in
        e
        ∙ ap (λ (x : List ℕ). differing (stuffing (length x)) x) same
        ∙ ap (λ (n : ℕ). differing (stuffing n) rest) long
        ∙ ap (λ (x : List ℕ). differing (stuffing (s.capacity - s.gross)) (drop s.gross x)) got
        ∙ ap (λ (z : Sizes). differing (stuffing (z.capacity - z.gross)) (drop z.gross (received_bits p l matrix))) k.sizes_are
