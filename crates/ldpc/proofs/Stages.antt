-- The stages of error correction over A, and what they say in the terms of a symbol.
-- Assumes nothing.
use Prim.Native.Nat.{ℕ, ◌*◌, ◌/◌, ◌<◌}
use mathlib.Core.Path.{◌≡◌, ap, ap₂, ◌∙◌, subst⁻¹}
use mathlib.Core.Bool.{Bool}
use mathlib.Core.List.{List}
use native.Mathlib.Omega.{arith}
use lib.ListN.{length}
use Rattle.symbology.specs.declared.Sizes.{Sizes}
use Rattle.symbology.specs.Bits.{AllBits}
use Rattle.symbology.specs.Matrix.{checks_of}
use Rattle.symbology.specs.Rule.{unmet_count, repairs_of, places_of, last_word, stuck}
use Rattle.symbology.specs.Codeword.{codeword, message_bits}
use Rattle.symbology.specs.Code.{matrix_for, checks_for, codeword_for, message_bits_for}
use Rattle.lent.specs.declared.Areas.{Areas}
use Rattle.lent.specs.Work.{Laid, RoomFor, word_in, net_in}
use Rattle.lent.proofs.Changes.{changed_wider, changed_then}
use Rattle.lent.proofs.Work.{laid_as, word_kept, net_kept, room_laid, gross_areas, checks_areas, blocks}
use Rattle.checks.specs.Checks.{stands_in, ChecksBuilt}
use Rattle.mending.specs.Mending.{MendedBy}
use Rattle.coding.specs.Stages.{WordEncoded, WordMended}
use Rattle.coding.proofs.Stages.{encoded_as, mended_as}

module _ {s : Sizes} {a : Areas} {room : ℕ} (r : RoomFor s a room) where
  -- ---- what the stages ask for

  pub build_fits : Laid a room × (a.gross ≡ s.block * s.wr) × (a.checks ≡ s.block * (s.checks / s.block)) × (0 < s.wr)
  build_fits = (room_laid r, gross_areas r ∙ r.sizes.gross_is, checks_areas r ∙ blocks r, r.sizes.heavy)

  -- ---- in the terms of a symbol

  pub checks_for_lem : checks_of a.checks a.gross (matrix_for s) ≡ checks_for s
  unfolding checks_for
  checks_for_lem = ap₂ (λ (k n : ℕ). checks_of k n (matrix_for s)) (checks_areas r) (gross_areas r)

  pub codeword_for_lem : (net : List ℕ) → codeword a.checks a.gross (matrix_for s) net ≡ codeword_for s net
  unfolding codeword_for
  codeword_for_lem net = ap₂ (λ (k n : ℕ). codeword k n (matrix_for s) net) (checks_areas r) (gross_areas r)

  pub message_for : (w : List ℕ) → message_bits a.checks a.gross (matrix_for s) w ≡ message_bits_for s w
  unfolding message_bits_for
  message_for w = ap₂ (λ (k n : ℕ). message_bits k n (matrix_for s) w) (checks_areas r) (gross_areas r)

module _ {s : Sizes} {a : Areas} {before built : List ℕ} (r : RoomFor s a (length before))
    (b : ChecksBuilt a (matrix_for s) before built) where
  -- the areas lie in the buffer with A, as before
  laid_built : Laid a (length built)
  laid_built = laid_as (room_laid r) b.changed.long

  -- net bits and word stay
  net_built : net_in a built ≡ net_in a before
  net_built = let laid = room_laid r in net_kept laid b.changed (λ q h g. omega arith)

  word_built : word_in a built ≡ word_in a before
  word_built = let laid = room_laid r in word_kept laid b.changed (λ q h g. omega arith)

  -- what encoding asks for
  pub encode_fits : AllBits (net_in a before) → Laid a (length built) × AllBits (net_in a built)
  encode_fits bits = (laid_built, subst⁻¹ AllBits net_built bits)

  -- what mending asks for
  pub mend_fits : AllBits (word_in a before) → Laid a (length built) × AllBits (word_in a built)
  mend_fits bits = (laid_built, subst⁻¹ AllBits word_built bits)

  -- A is built and the word encoded
  pub encoded_over : {after : List ℕ} → WordEncoded a (stands_in a built) built after → WordEncoded a (matrix_for s) before after
  encoded_over e =
      let over = encoded_as b.holds e in
      record {
        changed = changed_then (changed_wider b.changed (λ q o. (o.0, (o.1.1.1.1.0, tt)))) over.changed;
        word_is = over.word_is ∙ ap (codeword a.checks a.gross (matrix_for s)) net_built;
      }

  -- A is built and the word mended
  pub mended_over : {after : List ℕ} {repairs first : ℕ} {stuck_there : Bool} → MendedBy a built after repairs first stuck_there
      → WordMended a (matrix_for s) before after repairs first stuck_there
  mended_over m =
      let over = mended_as b.holds (room_laid r) m in
      let cs : List (List ℕ) = checks_of a.checks a.gross (matrix_for s) in
      record {
        changed = changed_then (changed_wider b.changed (λ q o. (o.0, (o.1.1.1.1.0, tt)))) over.changed;
        word_is = over.word_is ∙ ap (last_word cs) word_built;
        repairs_are = over.repairs_are ∙ ap (λ (w : List ℕ). length (repairs_of cs w)) word_built;
        places_are = over.places_are ∙ ap (λ (w : List ℕ). places_of (repairs_of cs w)) word_built;
        first_is = over.first_is ∙ ap (unmet_count cs) word_built;
        bounded = over.bounded;
        stuck_is = over.stuck_is ∙ ap (stuck cs) word_built;
        holds = over.holds;
      }
