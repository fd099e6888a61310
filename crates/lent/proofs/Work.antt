-- The work buffer: where its areas lie, what lies in them where they are not changed, and the sizes of a legal symbol.
-- Assumes nothing.
use Prim.Native.Nat.{ℕ, ◌+◌, ◌*◌, ◌/◌, ◌≤◌, ◌<◌}
use mathlib.Core.Path.{◌≡◌, refl, sym, ap, ◌∙◌, subst⁻¹}
use mathlib.Core.List.{List}
use native.Mathlib.Nat.{le-div_iff_mul-le, mul-div_cancel_left}
use native.Mathlib.Omega.{arith}
use lib.ListN.{length}
use Rattle.symbology.specs.declared.Params.{Params}
use Rattle.symbology.specs.declared.Sizes.{Sizes}
use Rattle.symbology.specs.Capacity.{sizes_of, sizes_for}
use Rattle.laws.proofs.Parameters.{ranges}
use Rattle.laws.proofs.Sizes.{LegalSymbol, gross_most, gross_parts}
use Rattle.lent.specs.declared.Areas.{Areas}
use Rattle.lent.specs.Changes.{Span, Outside, Changed}
use Rattle.lent.specs.Buffer.{part}
use Rattle.lent.specs.Work.{Laid, word_in, net_in, areas_of, CodeSizes, RoomFor}
use Rattle.lent.proofs.Buffer.{part_same}

-- ---- areas

-- Areas lie in a buffer that is as long.
pub laid_as : {a : Areas} {m n : ℕ} → Laid a n → m ≡ n → Laid a m
laid_as {a} l e = rw e l

-- Each area lies in the buffer.
module _ {a : Areas} {room : ℕ} (laid : Laid a room) where
  pub marks_inside : a.marks + a.checks ≤ room
  marks_inside = omega arith

  pub word_inside : a.word + a.gross ≤ room
  word_inside = omega arith

  pub numbers_inside : a.numbers + 2 * a.gross ≤ room
  numbers_inside = omega arith

  pub net_inside : a.message + a.net ≤ room
  net_inside = omega arith

  pub repaired_inside : a.repaired + 2 * a.checks ≤ room
  repaired_inside = laid.repaired_end

-- A part is as before where it is not changed.
pub part_kept : {ss : List Span} {before after : List ℕ} → Changed ss before after → (at n : ℕ) → at + n ≤ length before
    → ((i : ℕ) → at ≤ i → i < at + n → Outside ss i) → part after at n ≡ part before at n
part_kept {before = before} {after = after} c at n room out =
    part_same before after at n room (omega (arith, c.long)) (λ i h g. c.kept i (out i h g))

module _ {a : Areas} {ss : List Span} {before after : List ℕ} (laid : Laid a (length before)) (c : Changed ss before after) where
  -- so are the word
  pub word_kept : ((i : ℕ) → a.word ≤ i → i < a.word + a.gross → Outside ss i) → word_in a after ≡ word_in a before
  word_kept = part_kept c a.word a.gross (word_inside laid)

  -- and the net bits
  pub net_kept : ((i : ℕ) → a.message ≤ i → i < a.message + a.net → Outside ss i) → net_in a after ≡ net_in a before
  net_kept = part_kept c a.message a.net (net_inside laid)

-- ---- the areas for the sizes of a symbol

-- The sizes of a legal symbol belong together.
pub code_sizes : (p : Params) (l : List ℕ) → LegalSymbol p l → CodeSizes (sizes_for p l)
unfolding sizes_of
code_sizes p l k =
    let heavy : 0 < p.wr = omega (arith, (ranges p k.inside_range).wr_least) in
    let least : 1 * p.wr ≤ (sizes_for p l).capacity = omega (arith, k.least) in
    record {
      wc = p.wc;
      some = (le-div_iff_mul-le {k = p.wr} {x = 1} {y = (sizes_for p l).capacity} heavy).1 least;
      heavy = heavy;
      gross_is = refl;
      checks_is = refl;
      parts = gross_parts p l k;
      inside = gross_most p l;
      few = k.most;
      work_is = refl;
    }

-- So do sizes that equal them.
pub legal_sizes : (p : Params) (l : List ℕ) {s : Sizes} → LegalSymbol p l → s ≡ sizes_for p l → CodeSizes s
legal_sizes p l k same = subst⁻¹ CodeSizes same (code_sizes p l k)

-- The areas lie in a buffer of so many bytes.
pub areas_laid : {s : Sizes} {room : ℕ} → CodeSizes s → s.work ≤ room → Laid (areas_of s) room
unfolding areas_of
areas_laid {s} k h =
    record {
      few = omega (arith, k.inside, k.few);
      parts = omega (arith, k.parts);
      wide = omega arith;
      rows_end = omega arith;
      marks_end = omega arith;
      word_end = omega (arith, k.inside);
      numbers_end = omega arith;
      message_end = omega arith;
      repaired_end = omega (arith, k.work_is, k.parts, k.inside);
    }

-- A buffer that test 5 lets pass is long enough for the sizes of a legal symbol.
pub legal_room : (p : Params) (l : List ℕ) {s : Sizes} {a : Areas} {room : ℕ} → LegalSymbol p l → (sizes_for p l).work ≤ room
    → s ≡ sizes_for p l → a ≡ areas_of s → RoomFor s a room
legal_room p l {room = room} k enough same areas =
    record {
      sizes = legal_sizes p l k same;
      areas_are = areas;
      enough = subst⁻¹ (λ (t : Sizes). t.work ≤ room) same enough;
    }

-- Another buffer of that length is, too.
pub room_as : {s : Sizes} {a : Areas} {m n : ℕ} → RoomFor s a n → m ≡ n → RoomFor s a m
room_as r e = rw e r

module _ {s : Sizes} {a : Areas} {room : ℕ} (r : RoomFor s a room) where
  pub room_laid : Laid a room
  room_laid = subst⁻¹ (λ (b : Areas). Laid b room) r.areas_are (areas_laid r.sizes r.enough)

  pub gross_areas : a.gross ≡ s.gross
  unfolding areas_of
  gross_areas = ap (λ (b : Areas). b.gross) r.areas_are

  pub checks_areas : a.checks ≡ s.checks
  unfolding areas_of
  checks_areas = ap (λ (b : Areas). b.checks) r.areas_are

  pub net_areas : a.net ≡ s.net
  unfolding areas_of
  net_areas = ap (λ (b : Areas). b.net) r.areas_are

  -- the C bits, of which the first are the word, lie in front of the numbers
  pub bits_end : a.word + s.capacity ≡ a.numbers
  unfolding areas_of
  bits_end = omega (arith, ap (λ (b : Areas). b.word) r.areas_are, ap (λ (b : Areas). b.numbers) r.areas_are)

  -- and in the buffer
  pub bits_inside : a.word + s.capacity ≤ room
  bits_inside = omega (arith, bits_end, numbers_inside room_laid)

  -- A has wc blocks of t rows.
  pub blocks : s.checks ≡ s.block * (s.checks / s.block)
  blocks =
      let k = r.sizes in
      k.checks_is
      ∙ ap (λ (n : ℕ). s.block * n) (sym (ap (λ (n : ℕ). n / s.block) k.checks_is ∙ mul-div_cancel_left k.wc k.some))
