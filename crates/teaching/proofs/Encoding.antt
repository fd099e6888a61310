-- What `ldpc::encode` asks for and stores, where none of the tests 1 to 3 applies.
-- Assumes nothing.
use Prim.Native.Nat.{ℕ, ◌≤◌}
use mathlib.Core.Path.{◌≡◌, sym, ap, ap₂, ◌∙◌, subst⁻¹}
use mathlib.Core.Bool.{true}
use mathlib.Core.List.{List}
use native.Mathlib.Omega.{arith}
use lib.ListN.{length}
use Rattle.symbology.specs.declared.Params.{Params}
use Rattle.symbology.specs.declared.Sizes.{Sizes}
use Rattle.symbology.specs.Bits.{AllBits, bitwise_sum}
use Rattle.symbology.specs.Parameters.{in_range}
use Rattle.symbology.specs.Capacity.{sizes_for}
use Rattle.symbology.specs.Code.{matrix_for, codeword_for}
use Rattle.laws.proofs.Sizes.{LegalSymbol}
use Rattle.laws.proofs.Teaching.{codeword_of_sum}
use Rattle.calls.specs.declared.SizesAnswer.{SizesAnswer}
use Rattle.calls.specs.Answers.{no_sizes, the_sizes}
use Rattle.calls.specs.Sizes.{sizes_answer}
use Rattle.calls.specs.Tests.{size_rows}
use Rattle.call_laws.proofs.Tests.{Each, first_zero, legal_symbol}
use Rattle.lent.specs.declared.Areas.{Areas}
use Rattle.lent.specs.Work.{areas_of, CodeSizes, RoomFor, word_in, net_in}
use Rattle.lent.proofs.Buffer.{length_part}
use Rattle.lent.proofs.Work.{net_inside, code_sizes, areas_laid, legal_sizes, legal_room}
use Rattle.coding.specs.Stages.{WordEncoded}
use Rattle.ldpc.proofs.Stages.{codeword_for_lem}

module _ (p : Params) (l : List ℕ) (passed : (sizes_answer p l).number ≡ 0) where
  legal : LegalSymbol p l
  unfolding sizes_answer size_rows Each
  legal =
      let number : SizesAnswer → ℕ = λ a. a.number in
      legal_symbol p l
      (first_zero no_sizes number (size_rows p l) (the_sizes (sizes_for p l)) (λ z. omega arith, (λ z. omega arith, (λ z. omega arith, tt)))
      passed).0

  pub range_passed : in_range p ≡ true
  range_passed = legal.inside_range

  -- the sizes belong together
  pub belong : {s : Sizes} → s ≡ sizes_for p l → CodeSizes s
  belong = legal_sizes p l legal

  -- the areas of a work buffer for them
  abbrev areas : Areas
  areas = areas_of (sizes_for p l)

  net_long : (work : List ℕ) → (sizes_for p l).work ≤ length work → length (net_in areas work) ≡ (sizes_for p l).net
  unfolding areas_of
  net_long work h = length_part work areas.message areas.net (net_inside (areas_laid (code_sizes p l legal) h))

  module _ {s : Sizes} {a : Areas} (same : s ≡ sizes_for p l) (is : a ≡ areas_of s) where
    -- the areas are those of the symbol
    areas_are : a ≡ areas
    areas_are = is ∙ ap areas_of same

    room : (work : List ℕ) → (sizes_for p l).work ≤ length work → RoomFor s a (length work)
    room work h = legal_room p l legal h same is

    -- What encoding asks of a work buffer.
    pub encode_asks : (work : List ℕ)
        → (sizes_for p l).work ≤ length work
        → AllBits (net_in areas work)
        → RoomFor s a (length work) × AllBits (net_in a work)
    encode_asks work long bits = (room work long, subst⁻¹ (λ (b : Areas). AllBits (net_in b work)) areas_are bits)

    -- The word stored is the codeword of the net bits.
    pub word_stored : {before after : List ℕ}
        → (sizes_for p l).work ≤ length before
        → WordEncoded a (matrix_for s) before after
        → word_in areas after ≡ codeword_for (sizes_for p l) (net_in areas before)
    word_stored {before} {after} long e =
        ap (λ (b : Areas). word_in b after) (sym areas_are)
        ∙ e.word_is
        ∙ codeword_for_lem (room before long) (net_in a before)
        ∙ ap₂ (λ (t : Sizes) (b : Areas). codeword_for t (net_in b before)) same areas_are

    -- Where the net bits add up, so do the words stored for them.
    pub words_add : {x x' y y' z z' : List ℕ}
        → (sizes_for p l).work ≤ length x
        → (sizes_for p l).work ≤ length y
        → (sizes_for p l).work ≤ length z
        → AllBits (net_in areas x)
        → AllBits (net_in areas y)
        → WordEncoded a (matrix_for s) x x'
        → WordEncoded a (matrix_for s) y y'
        → WordEncoded a (matrix_for s) z z'
        → net_in areas z ≡ bitwise_sum (net_in areas x) (net_in areas y)
        → word_in areas z' ≡ bitwise_sum (word_in areas x') (word_in areas y')
    words_add {x} {x'} {y} long-x long-y long-z bits-x bits-y first second third sum =
        word_stored long-z third
        ∙ ap (codeword_for (sizes_for p l)) sum
        ∙ codeword_of_sum p l (net_in areas x) (net_in areas y) bits-x bits-y (net_long x long-x) (net_long y long-y)
        ∙ sym (ap₂ bitwise_sum (word_stored long-x first) (word_stored long-y second))
