-- The laws of layout and code at the sizes of every legal symbol: parameters and list that pass the tests 1 to 3. What is received of a
-- matrix, and the checks that it is judged by.
-- Assumes nothing.
use Prim.Native.Nat.{ℕ, ◌+◌, ◌-◌, ◌*◌, ◌≤◌, ◌<◌}
use mathlib.Core.Path.{◌≡◌, sym, ap, ◌∙◌}
use mathlib.Core.Bool.{true}
use mathlib.Core.List.{List, [], ◌++◌}
use native.Mathlib.Nat.{le_trans}
use native.Mathlib.Omega.{arith}
use lib.ListN.{length, get_or, drop, replicate}
use lib.Seq.{length-take-le}
use Rattle.symbology.specs.declared.Params.{Params}
use Rattle.symbology.specs.declared.Sizes.{Sizes}
use Rattle.symbology.specs.Ranges.{tally, those, sum_from, has}
use Rattle.symbology.specs.Bits.{AllBits}
use Rattle.symbology.specs.Parameters.{in_range}
use Rattle.symbology.specs.Sides.{columns, rows}
use Rattle.symbology.specs.Reserved.{entries}
use Rattle.symbology.specs.Capacity.{data_modules, sizes_of, sizes_for}
use Rattle.symbology.specs.Matrix.{matrix_seed, check_of, checks_of}
use Rattle.symbology.specs.Shuffle.{interleaving_seed}
use Rattle.symbology.specs.Placement.{filled, sampled}
use Rattle.symbology.specs.Code.{matrix_for, codeword_for, checks_for, message_bits_for}
use Rattle.symbology.specs.Rule.{unmet_count}
use Rattle.symbology.specs.Codeword.{message_columns}
use Rattle.symbology.specs.Net.{stuffing}
use Rattle.symbology.specs.Symbol.{received_bits, received_word, wrong_stuffing}
use Rattle.laws.proofs.Ranges.{get_d_tabulate, has_those, Ascending}
use Rattle.laws.proofs.Bits.{take_bits}
use Rattle.laws.proofs.Net.{length_stuffing}
use Rattle.laws.proofs.Counting.{number_ext, differing_most}
use Rattle.laws.proofs.Reserved.{sound_list}
use Rattle.laws.proofs.DataModules.{free, data_free, data_count}
use Rattle.laws.proofs.Placement.{filled_below, sampled_filled, sampled_bits}
use Rattle.laws.proofs.Shuffle.{length_unshuffled, unshuffled_every}
use Rattle.laws.proofs.Matrix.{column_weight, check_weight}
use Rattle.laws.proofs.Rule.{AllOnce, checks_once, check_ascends}
use Rattle.laws.proofs.Sizes.{LegalSymbol, capacity_is, sampled_whole, gross_most, stuffing_few, net_fits}
use Rattle.laws.proofs.Codeword.{IsCodeword, codeword_is, codeword_found, message_back}

module _ (p : Params) (l : List ℕ) (legal : LegalSymbol p l) where
  -- ---- layout

  -- The modules that are neither pattern nor entry number exactly D.
  pub symbol_modules : sum_from 0 (columns p) (λ c. sum_from 0 (rows p) (λ r. tally (free p l (entries l) (c + 1) (r + 1))))
      ≡ (data_modules p.kind p.horizontal p.vertical (entries l)).0
  symbol_modules = sym (data_free p l) ∙ data_count p l legal.inside_range legal.sound

  -- Sampling what was filled with the C bits of the capacity gives them back, for every mask.
  pub symbol_back : (bs : List ℕ) → AllBits bs → length bs ≡ (sizes_for p l).capacity → sampled p l (filled p l bs) ≡ bs
  symbol_back bs bits long = sampled_filled p l bs bits (long ∙ sym (capacity_is p l legal))

  -- Every module filled is below N.
  pub symbol_below : (bs : List ℕ) (i : ℕ) → i < rows p * columns p → get_or (filled p l bs) i 0 < p.colours
  symbol_below bs = filled_below p l bs legal.inside_range (λ k h. ((sound_list p l legal.sound).entry k h).colour_below)

  -- ---- the check matrix

  -- Each column of A has exactly wc ones.
  symbol_ones : (j : ℕ) → j < (sizes_for p l).gross → length (those (sizes_for p l).checks (λ i. matrix_for (sizes_for p l) i j)) ≡ p.wc
  unfolding sizes_of
  symbol_ones j h = column_weight matrix_seed (sizes_for p l).block p.wr p.wc j h

  -- Each column of A stands in exactly wc checks.
  pub symbol_columns : (j : ℕ)
      → j < (sizes_for p l).gross
      → length (those (sizes_for p l).checks (λ i. has j (get_or (checks_for (sizes_for p l)) i []))) ≡ p.wc
  unfolding checks_for checks_of check_of
  symbol_columns j h =
      let s : Sizes = sizes_for p l in
      number_ext (λ i. has j (get_or (checks_for s) i [])) (λ i. matrix_for s i j) s.checks
      (λ i g. ap (has j) (get_d_tabulate s.checks (check_of s.gross (matrix_for s)) [] i g) ∙ has_those (matrix_for s i) s.gross j h)
      ∙ symbol_ones j h

  -- Each check names wr columns.
  pub symbol_checks : (i : ℕ) → i < (sizes_for p l).checks → length (get_or (checks_for (sizes_for p l)) i []) ≡ p.wr
  unfolding sizes_of checks_for checks_of
  symbol_checks i h =
      let s : Sizes = sizes_for p l in
      ap length (get_d_tabulate s.checks (check_of s.gross (matrix_for s)) [] i h)
      ∙ check_weight matrix_seed s.block p.wr p.wc i (le_trans (gross_most p l) legal.most) h

  -- The columns that a check names ascend, so that no two are the same.
  pub symbol_ascends : (i : ℕ) → i < (sizes_for p l).checks → Ascending (get_or (checks_for (sizes_for p l)) i [])
  unfolding checks_for checks_of
  symbol_ascends i h =
      let s : Sizes = sizes_for p l in
      rw (get_d_tabulate s.checks (check_of s.gross (matrix_for s)) [] i h) (check_ascends s.gross (matrix_for s) i)

  -- ---- the codeword

  -- The codeword of net bits has Pg bits, carries them in the message columns and meets every check.
  pub symbol_codeword : (net : List ℕ)
      → AllBits net
      → IsCodeword (sizes_for p l).checks (sizes_for p l).gross (matrix_for (sizes_for p l)) net (codeword_for (sizes_for p l) net)
  unfolding codeword_for
  symbol_codeword net bits = codeword_is (sizes_for p l).checks (sizes_for p l).gross (matrix_for (sizes_for p l)) net bits

  -- The codeword of net bits has Pg bits.
  pub symbol_wide : (net : List ℕ) → AllBits net → length (codeword_for (sizes_for p l) net) ≡ (sizes_for p l).gross
  symbol_wide net bits = (symbol_codeword net bits).wide

  -- No check is unmet in the codeword of net bits.
  pub symbol_meets : (net : List ℕ) → AllBits net → unmet_count (checks_for (sizes_for p l)) (codeword_for (sizes_for p l) net) ≡ 0
  unfolding checks_for
  symbol_meets net bits = (symbol_codeword net bits).met

  -- No other word of Pg bits carries the net bits and meets every check.
  pub symbol_only : (net w : List ℕ)
      → IsCodeword (sizes_for p l).checks (sizes_for p l).gross (matrix_for (sizes_for p l)) net w
      → codeword_for (sizes_for p l) net ≡ w
  unfolding codeword_for
  symbol_only net w is = codeword_found is

  -- Pn net bits are read back from the message columns of their codeword, with 0 in the spare ones.
  pub symbol_message : (net : List ℕ)
      → AllBits net
      → length net ≡ (sizes_for p l).net
      → let s = sizes_for p l in
      message_bits_for s (codeword_for s net) ≡ net ++ replicate (length (message_columns s.checks s.gross (matrix_for s)) - s.net) 0
  unfolding codeword_for message_bits_for
  symbol_message net bits long =
      let s : Sizes = sizes_for p l in
      let columns : List ℕ = message_columns s.checks s.gross (matrix_for s) in
      let fits : length net ≤ length columns = omega (arith, long, net_fits p l legal) in
      message_back s.checks s.gross (matrix_for s) net bits fits
      ∙ ap (λ (n : ℕ). net ++ replicate (length columns - n) 0) long

-- ---- received

-- what is received of any matrix are bits
pub received_bits_lem : (p : Params) (l matrix : List ℕ) → AllBits (received_word p l matrix)
unfolding received_word received_bits
received_bits_lem p l matrix =
    let bits = unshuffled_every 0 (λ (b : ℕ). b ≤ 1) interleaving_seed (sampled p l matrix) (sampled_bits p l matrix) in
    take_bits (sizes_for p l).gross (received_bits p l matrix) bits

-- and there are Pg of them
pub length_received : (p : Params) (l matrix : List ℕ)
    → LegalSymbol p l
    → length (received_word p l matrix) ≡ (sizes_for p l).gross
unfolding received_word received_bits
length_received p l matrix k =
    let whole : length (received_bits p l matrix) ≡ (sizes_for p l).capacity =
    length_unshuffled 0 interleaving_seed (sampled p l matrix) ∙ sampled_whole p l matrix k in
    length-take-le (sizes_for p l).gross (received_bits p l matrix) (omega (arith, whole, gross_most p l))

-- At most 8 of its stuffing bits are wrong.
pub wrong_few : (p : Params) (l matrix : List ℕ) → in_range p ≡ true → wrong_stuffing p l matrix ≤ 8
unfolding wrong_stuffing
wrong_few p l matrix range =
    let s : Sizes = sizes_for p l in
    let end : List ℕ = stuffing (s.capacity - s.gross) in
    let got : List ℕ = drop s.gross (received_bits p l matrix) in
    omega (arith, differing_most end got, length_stuffing (s.capacity - s.gross), stuffing_few p l range)

-- the checks of a symbol name each of their columns once
pub symbol_once : (s : Sizes) → AllOnce (checks_for s)
unfolding checks_for
symbol_once s = checks_once s.checks s.gross _
