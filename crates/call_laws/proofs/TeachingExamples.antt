-- The laws for teaching, each with an instance that the checker computes, and two wrong laws, each with an instance that refutes it.
-- The expected numbers are those of the second program (second/tests/laws.rs).
-- Assumes nothing.
use Prim.Native.Nat.{ℕ, zero, suc, ◌+◌, ◌-◌, ◌*◌, ◌%◌, ◌≤◌}
use mathlib.Core.Path.{◌≡◌, refl, sym, ap, subst}
use mathlib.Core.Bool.{Bool, cond, ◌&&◌, ◌||◌, xor}
use mathlib.Core.List.{List, [], ◌∷◌, map}
use native.Mathlib.Omega.{arith}
use lib.Dec.{eqb}
use lib.ListN.{length, get_or}
use lib.Ieee.{mul, div, of_int, to_unsigned}
use Rattle.symbology.specs.declared.Params.{Params}
use Rattle.symbology.specs.declared.Sizes.{Sizes}
use Rattle.symbology.specs.Ranges.{all_hold, join_from, tabulate, those, has, all_below, lowest}
use Rattle.symbology.specs.Bits.{AllBits, bitwise_sum}
use Rattle.symbology.specs.Parameters.{range_tests, in_range}
use Rattle.symbology.specs.Sides.{columns, rows, core_table, cores_of, inner_patterns}
use Rattle.symbology.specs.Patterns.{near_core, finder, pattern_of, in_squares, colour_in, meeting, pattern_at, covered, pattern_colour}
use Rattle.symbology.specs.Reserved.{entry_at, first_entry, bad_entry, bad_at, entry_verdict, list_verdict, list_number, list_place}
use Rattle.symbology.specs.Capacity.{bits_per_module, pattern_modules, data_modules, as_bits, capacity, sizes_of, sizes_for}
use Rattle.symbology.specs.Generator.{temper, state_after}
use Rattle.symbology.specs.Place.{scaled, raw_place, place_of}
use Rattle.symbology.specs.Shuffle.{drawn_place, exchanged, shuffled_first, shuffled, interleaving_seed}
use Rattle.symbology.specs.Matrix.{column_order, matrix_a, check_of, checks_of}
use Rattle.symbology.specs.Rule.{bit_sum, unmet, unmet_count}
use Rattle.symbology.specs.Codeword.{is_sum, check_columns, is_check_column, message_columns, carries, words, first_word, codeword}
use Rattle.symbology.specs.Placement.{pattern_cell, cell_of, is_data, mask_generators, mask_at, masked}
use Rattle.symbology.specs.Code.{codeword_for}
use Rattle.symbology.proofs.Parameters.{params_of}
use Rattle.calls.specs.Tests.{first_of, size_rows}
use Rattle.calls.specs.Sizes.{sizes_answer}

-- ---- a symbol

-- All its modules but three are reserved or on a pattern, so that C is 9, Pg 8, K 6 and Pn 2 and the search for a codeword is short.
unfoldable symbol : Params
symbol = params_of (0 ∷ 1 ∷ 1 ∷ 8 ∷ 0 ∷ 3 ∷ 2 ∷ 3 ∷ 4 ∷ 6 ∷ 0 ∷ [])

-- the three data modules, at columns and rows counted from 1
is_left : ℕ → ℕ → Bool
is_left x y = eqb x 1 && eqb y 1 || eqb x 10 && eqb y 10 || eqb x 21 && eqb y 20

-- an entry for every other module that no pattern covers
unfoldable reserved : List ℕ
unfolding symbol is_left join_from core_table cores_of near_core finder pattern_of in_squares colour_in meeting pattern_at covered
    pattern_colour
reserved =
    join_from 1 21 (λ x. join_from 1 21 (λ y. cond (covered (pattern_colour symbol x y) || is_left x y) [] (x ∷ y ∷ ((x + y) % 8) ∷ [])))

-- the symbol's sizes, by the definition
sizes : Sizes
unfolding reserved lowest inner_patterns bits_per_module pattern_modules data_modules as_bits capacity sizes_of
sizes = sizes_for symbol reserved

-- and worked out
abbrev small : Sizes
small = record { columns = 21; rows = 21; depth = 3; capacity = 9; wr = 4; block = 2; gross = 8; checks = 6; net = 2; work = 78 }

the_sizes_lem : sizes_for symbol reserved ≡ small
unfolding sizes
the_sizes_lem = refl

-- ---- the codeword of a sum

-- of a legal symbol, with Pn 2 and Pg 8
code : List ℕ → List ℕ
unfolding tabulate those has all_below temper state_after scaled raw_place place_of mul div of_int to_unsigned drawn_place exchanged
    shuffled_first shuffled column_order matrix_a check_of checks_of bit_sum unmet unmet_count xor is_sum check_columns is_check_column
    message_columns carries words first_word codeword codeword_for
code net = codeword_for small net

codewords : (code (1 ∷ 1 ∷ []) ∷ code (0 ∷ 1 ∷ []) ∷ [])
    ≡ ((1 ∷ 1 ∷ 0 ∷ 0 ∷ 0 ∷ 0 ∷ 1 ∷ 1 ∷ []) ∷ (0 ∷ 1 ∷ 0 ∷ 0 ∷ 0 ∷ 1 ∷ 1 ∷ 1 ∷ []) ∷ [])
unfolding code
codewords = refl

-- 11 and 01 add to 10
of_sum : code (bitwise_sum (1 ∷ 1 ∷ []) (0 ∷ 1 ∷ [])) ≡ (1 ∷ 0 ∷ 0 ∷ 0 ∷ 0 ∷ 1 ∷ 0 ∷ 0 ∷ [])
unfolding code bitwise_sum
of_sum = refl

sum_of : bitwise_sum (code (1 ∷ 1 ∷ [])) (code (0 ∷ 1 ∷ [])) ≡ (1 ∷ 0 ∷ 0 ∷ 0 ∷ 0 ∷ 1 ∷ 0 ∷ 0 ∷ [])
unfolding code bitwise_sum
sum_of = refl

-- ---- the interleaving of a sum

interleaved : List ℕ → List ℕ
unfolding temper scaled raw_place place_of mul div of_int to_unsigned drawn_place exchanged shuffled_first shuffled
interleaved w = shuffled 0 interleaving_seed w

first : List ℕ
first = 1 ∷ 1 ∷ 0 ∷ 1 ∷ 0 ∷ 0 ∷ 1 ∷ 0 ∷ 1 ∷ 1 ∷ []

second : List ℕ
second = 0 ∷ 1 ∷ 1 ∷ 1 ∷ 0 ∷ 1 ∷ 0 ∷ 0 ∷ 1 ∷ 0 ∷ []

both_interleaved : (interleaved first ∷ interleaved second ∷ [])
    ≡ ((1 ∷ 0 ∷ 0 ∷ 1 ∷ 1 ∷ 0 ∷ 1 ∷ 1 ∷ 0 ∷ 1 ∷ []) ∷ (1 ∷ 1 ∷ 1 ∷ 1 ∷ 0 ∷ 0 ∷ 0 ∷ 0 ∷ 0 ∷ 1 ∷ []) ∷ [])
unfolding interleaved first second
both_interleaved = refl

sum_interleaved : interleaved (bitwise_sum first second) ≡ (0 ∷ 1 ∷ 1 ∷ 0 ∷ 1 ∷ 0 ∷ 1 ∷ 1 ∷ 0 ∷ 0 ∷ [])
unfolding interleaved first second bitwise_sum tabulate
sum_interleaved = refl

interleaved_sum : bitwise_sum (interleaved first) (interleaved second) ≡ (0 ∷ 1 ∷ 1 ∷ 0 ∷ 1 ∷ 0 ∷ 1 ∷ 1 ∷ 0 ∷ 0 ∷ [])
unfolding interleaved first second bitwise_sum tabulate
interleaved_sum = refl

-- ---- masking twice

-- a matrix with every byte in it
matrix : List ℕ
unfolding tabulate
matrix = tabulate 441 (λ i. i % 256)

-- the list has one entry, at column 2 of row 1
under_mask : ℕ → List ℕ → List ℕ
unfolding symbol tabulate lowest core_table cores_of near_core finder pattern_of in_squares colour_in meeting pattern_at pattern_colour
    entry_at first_entry pattern_cell cell_of is_data mask_generators mask_at masked
under_mask mask m = masked symbol (2 ∷ 1 ∷ 5 ∷ []) mask m

-- two data modules, at column 1 of row 2 and column 21 of row 20, under mask 6; the entry, and the core of UL, which no mask changes
looked : List ℕ
unfolding under_mask matrix
looked =
    let m = under_mask 6 matrix in
    get_or m 21 0 ∷ get_or m 419 0 ∷ get_or m 1 0 ∷ get_or m 66 0 ∷ []

masked_once : looked ≡ (23 ∷ 164 ∷ 1 ∷ 66 ∷ [])
unfolding looked
masked_once = refl

masked_back : under_mask 6 (under_mask 6 matrix) ≡ matrix
unfolding under_mask matrix
masked_back = refl

-- ---- two wrong laws

-- none of the tests 1 to 3 applies to the symbol of the codewords above
none_applies : (sizes_answer symbol reserved).number ≡ 0
unfolding reserved all_hold range_tests in_range lowest inner_patterns bits_per_module pattern_modules data_modules as_bits capacity
    sizes_of entry_at first_entry bad_entry bad_at entry_verdict list_verdict list_number list_place first_of size_rows sizes_answer
none_applies = refl

-- each bit turned
abbrev complement : List ℕ → List ℕ
complement w = map (λ b. 1 - b) w

-- The codeword of a complement is not the complement of the codeword: that of 00 is all zeros, and that of 11 is not all ones.
pub no_complement : ((p : Params) (list x : List ℕ)
    → (sizes_answer p list).number ≡ 0
    → AllBits x
    → length x ≡ (sizes_for p list).net
    → codeword_for (sizes_for p list) (complement x) ≡ complement (codeword_for (sizes_for p list) x))
    → ⊥
unfolding code
no_complement law =
    let net : List ℕ = 1 ∷ 1 ∷ [] in
    let said : codeword_for (sizes_for symbol reserved) (complement net) ≡ complement (codeword_for (sizes_for symbol reserved) net) =
    law symbol reserved net none_applies bits (sym (ap (λ (s : Sizes). s.net) the_sizes_lem)) in
    let wrong : codeword_for small (complement net) ≡ complement (codeword_for small net) =
    subst (λ (s : Sizes). codeword_for s (complement net) ≡ complement (codeword_for s net)) the_sizes_lem said in
    let third : ◌≡◌ {A = ℕ} 0 1 = ap (λ (w : List ℕ). get_or w 2 0) wrong in
    absurd (omega arith)
  where
    bits : AllBits (1 ∷ 1 ∷ [])
    bits zero = omega arith
    bits (suc zero) = omega arith
    bits (suc (suc i)) = omega arith

-- Masking with two different masks does not give the matrix back: masks 0 and 1 differ at column 1 of row 2.
pub no_two_masks : ((p : Params) (list matrix : List ℕ) (one other : ℕ)
    → one ≤ 7
    → other ≤ 7
    → (one ≡ other → ⊥)
    → length matrix ≡ rows p * columns p
    → masked p list other (masked p list one matrix) ≡ matrix)
    → ⊥
unfolding under_mask matrix
no_two_masks law =
    let said : under_mask 1 (under_mask 0 matrix) ≡ matrix =
    law symbol (2 ∷ 1 ∷ 5 ∷ []) matrix 0 1 (omega arith) (omega arith) (λ e. omega arith) refl in
    let wrong : ◌≡◌ {A = ℕ} 20 21 = ap (λ (m : List ℕ). get_or m 21 0) said in
    absurd (omega arith)
