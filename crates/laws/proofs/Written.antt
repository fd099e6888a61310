-- A stream written as a matrix: its length, its modules, and what is received of it.
-- Assumes nothing.
use Prim.Native.Nat.{ℕ, ◌-◌, ◌*◌, ◌≤◌}
use mathlib.Core.Path.{◌≡◌, ap, ◌∙◌}
use mathlib.Core.List.{List, ◌++◌}
use native.Mathlib.Nat.{mul_comm}
use native.Mathlib.Omega.{arith}
use lib.ListN.{length, take, drop, length-append}
use lib.Seq.{take_at, drop_at}
use Rattle.symbology.specs.declared.Params.{Params}
use Rattle.symbology.specs.declared.Sizes.{Sizes}
use Rattle.symbology.specs.Bits.{AllBits, differing}
use Rattle.symbology.specs.Sides.{columns, rows}
use Rattle.symbology.specs.Capacity.{sizes_of, sizes_for}
use Rattle.symbology.specs.Shuffle.{unshuffled, interleaving_seed}
use Rattle.symbology.specs.Code.{codeword_for}
use Rattle.symbology.specs.Net.{with_end_mark, stuffing}
use Rattle.symbology.specs.Placement.{filled, sampled, first_bad_module}
use Rattle.symbology.specs.Symbol.{placed_bits, written_matrix, received_bits, received_word, wrong_stuffing}
use Rattle.laws.proofs.Bits.{append_bits}
use Rattle.laws.proofs.Counting.{differing_self}
use Rattle.laws.proofs.Reserved.{sound_list}
use Rattle.laws.proofs.Placement.{length_filled, no_bad_module}
use Rattle.laws.proofs.Shuffle.{length_shuffled, unshuffled_shuffled, shuffled_every}
use Rattle.laws.proofs.Net.{net_bits_lem, stuffing_bits, length_stuffing}
use Rattle.laws.proofs.Sizes.{LegalSymbol, gross_most}
use Rattle.laws.proofs.Symbols.{symbol_back, symbol_codeword, symbol_wide}

module _ (p : Params) (l stream : List ℕ) where
  -- its net bits, their codeword and the stuffing
  abbrev pub net_of : List ℕ
  net_of = with_end_mark (sizes_for p l).net stream

  abbrev pub word_of : List ℕ
  word_of = codeword_for (sizes_for p l) net_of

  abbrev end_of : List ℕ
  end_of = stuffing ((sizes_for p l).capacity - (sizes_for p l).gross)

  -- A written matrix has the length that test 4 asks for.
  pub written_length : length (written_matrix p l stream) ≡ (sizes_for p l).columns * (sizes_for p l).rows
  unfolding written_matrix sizes_of
  written_length = length_filled p l (placed_bits (sizes_for p l) net_of) ∙ mul_comm (rows p) (columns p)

  module _ (k : LegalSymbol p l) where
    -- Each module of a written matrix is below N.
    pub written_below : first_bad_module p.colours (written_matrix p l stream) ≡ length (written_matrix p l stream)
    unfolding written_matrix
    written_below =
        no_bad_module p l (placed_bits (sizes_for p l) net_of) k.inside_range (λ i h. ((sound_list p l k.sound).entry i h).colour_below)

    module _ (bits : AllBits stream) where
      pub written_bits : AllBits net_of
      written_bits = net_bits_lem (sizes_for p l).net stream bits

      -- the codeword has Pg bits
      pub written_wide : length word_of ≡ (sizes_for p l).gross
      written_wide = symbol_wide p l k net_of written_bits

      -- codeword and stuffing have C bits
      whole : length (word_of ++ end_of) ≡ (sizes_for p l).capacity
      whole =
          let s : Sizes = sizes_for p l in
          omega (arith, written_wide, gross_most p l, length-append word_of end_of, length_stuffing (s.capacity - s.gross))

      -- What is received of a written matrix is its codeword and the stuffing bits.
      pub written_received : received_bits p l (written_matrix p l stream) ≡ word_of ++ end_of
      unfolding received_bits written_matrix placed_bits
      written_received =
          let all : List ℕ = word_of ++ end_of in
          let placed : List ℕ = placed_bits (sizes_for p l) net_of in
          let long : length placed ≡ (sizes_for p l).capacity = length_shuffled 0 interleaving_seed all ∙ whole in
          let end_bits : AllBits end_of = stuffing_bits ((sizes_for p l).capacity - (sizes_for p l).gross) in
          let each : AllBits all = append_bits word_of end_of (symbol_codeword p l k net_of written_bits).are_bits end_bits in
          let same : sampled p l (filled p l placed) ≡ placed =
          symbol_back p l k placed (shuffled_every 0 (λ (b : ℕ). b ≤ 1) interleaving_seed all each) long in
          let few : length all ≤ 4096 = omega (arith, whole, k.most) in
          ap (λ (x : List ℕ). unshuffled 0 interleaving_seed x) same ∙ unshuffled_shuffled 0 interleaving_seed all few

      -- No stuffing bit of a written matrix is wrong.
      pub written_stuffing : wrong_stuffing p l (written_matrix p l stream) ≡ 0
      unfolding wrong_stuffing
      written_stuffing =
          ap (λ (bs : List ℕ). differing end_of (drop (sizes_for p l).gross bs)) written_received
          ∙ ap (differing end_of) (drop_at word_of end_of (sizes_for p l).gross written_wide)
          ∙ differing_self end_of

      -- The received word of a written matrix is its codeword.
      pub written_word : received_word p l (written_matrix p l stream) ≡ word_of
      unfolding received_word
      written_word = ap (take (sizes_for p l).gross) written_received ∙ take_at word_of end_of (sizes_for p l).gross written_wide
