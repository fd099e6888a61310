-- Document 01, "Points on each side": the points P1 to P12, one statement over one list.
-- Assumes nothing.
use Prim.Native.Nat.{ℕ, ◌-◌}
use mathlib.Core.Bool.{Bool, true, false, not, ◌&&◌}
use mathlib.Core.List.{List, [], ◌∷◌, map, ◌++◌}
use lib.ListN.{length, replicate}
use lib.Dec.{T, eqb}
use lib.Ieee.{mul, div, of_int, to_unsigned}
use Rattle.symbology.specs.declared.Params.{Params}
use Rattle.symbology.specs.Ranges.{all_hold, lowest, tabulate, has, join_from}
use Rattle.symbology.specs.Bits.{value, bits, any_one}
use Rattle.symbology.specs.Parameters.{range_tests, in_range}
use Rattle.symbology.specs.Sides.{side_size, core_table, cores_of, inner_patterns}
use Rattle.symbology.specs.Patterns.{near_core, finder, pattern_of, in_squares, colour_in, meeting, pattern_at, covered, pattern_colour}
use Rattle.symbology.specs.Reserved.{list_verdict, entry_verdict, list_number, list_place, entry_at, first_entry, bad_entry, bad_at}
use Rattle.symbology.specs.Capacity.{bits_per_module, pattern_modules, data_modules, as_bits, capacity, sizes_of}
use Rattle.symbology.specs.Place.{scaled, raw_place, place_of}
use Rattle.symbology.specs.Rule.{bit_sum, unmet, unmet_count, unmet_at, met_at, is_suspect, suspect}
use Rattle.symbology.specs.Rule.{turned, ends, repairs, after_turns, repairs_of, places_of, last_word, stuck}
use Rattle.symbology.specs.Stream.{read_code, read_codes, decode, byte_runs, byte_stream, byte_bits, run_count, byte_run, stream_of}
use Rattle.symbology.specs.Net.{up_to_last_one, stream_in, stuffing, exceeds, with_end_mark}
use Rattle.symbology.proofs.Parameters.{params_of}
use Rattle.calls.specs.Tests.{first_of, size_rows, front_rows, write_rows, early_rows, stream_rows}
use Rattle.calls.specs.Write.{write_answer}
use Rattle.calls.specs.Read.{stream_answer, read_answer}

-- two lists of numbers are equal
unfoldable pub same : List ℕ → List ℕ → Bool
same [] [] = true
same [] (y ∷ ys) = false
same (x ∷ xs) [] = false
same (x ∷ xs) (y ∷ ys) = eqb x y && same xs ys

-- a primary symbol of these side-versions
abbrev rectangle : ℕ → ℕ → ℕ → ℕ → ℕ → Params
rectangle h v colours wc wr = params_of (0 ∷ h ∷ v ∷ colours ∷ 0 ∷ 3 ∷ 2 ∷ wc ∷ wr ∷ 0 ∷ 0 ∷ [])

-- a square one
abbrev symbol : ℕ → ℕ → ℕ → ℕ → Params
symbol version colours wc wr = rectangle version version colours wc wr

-- the numbers that a write of the empty message and a read answer, with no list and empty buffers
abbrev answered : ℕ → ℕ → List ℕ
answered h v =
    (write_answer (rectangle h v 8 4 9) [] (stream_of []) 0 0).number ∷ (read_answer (rectangle h v 8 4 9) [] [] 0 0 0).number ∷ []

-- 24 entries, in the rows 1 and 21 of side-version 1, where no pattern lies
abbrev entries24 : List ℕ
entries24 = join_from 1 21 (λ x. x ∷ 1 ∷ 0 ∷ []) ++ join_from 1 3 (λ x. x ∷ 21 ∷ 0 ∷ [])

-- the number that a write of so many bytes answers, wc 3 and wr 9, with a work buffer of this length
abbrev writes : ℕ → ℕ → ℕ
writes bytes work = (write_answer (symbol 1 8 3 9) entries24 (stream_of (replicate bytes 0)) 441 work).number

-- P10 and P11 count bits from 1
abbrev from_zero : List (List ℕ) → List (List ℕ)
from_zero checks = map (λ c. map (λ j. j - 1) c) checks

abbrev checks10 : List (List ℕ)
checks10 = from_zero ((1 ∷ 2 ∷ []) ∷ (1 ∷ 3 ∷ []) ∷ [])

abbrev checks11 : List (List ℕ)
checks11 = from_zero ((1 ∷ 2 ∷ []) ∷ (1 ∷ 3 ∷ []) ∷ (2 ∷ 4 ∷ []) ∷ (3 ∷ 4 ∷ []) ∷ [])

abbrev word10 : List ℕ
word10 = 1 ∷ 0 ∷ 0 ∷ []

abbrev word11 : List ℕ
word11 = 1 ∷ 0 ∷ 1 ∷ 0 ∷ []

abbrev pub points : List Bool
points =
    -- P1
    eqb (side_size 1) 21
    ∷ eqb (side_size 32) 145
    ∷ same (answered 0 0) (1 ∷ 1 ∷ [])
    ∷ same (answered 33 33) (1 ∷ 1 ∷ [])
    ∷ same (answered 0 1) (1 ∷ 1 ∷ [])
    ∷ same (answered 1 0) (1 ∷ 1 ∷ [])
    ∷ same (answered 33 1) (1 ∷ 1 ∷ [])
    ∷ same (answered 1 33) (1 ∷ 1 ∷ [])
    ∷ same (answered 1 1) (4 ∷ 4 ∷ [])
    ∷ same (answered 32 32) (3 ∷ 3 ∷ [])
    -- P2
    ∷ eqb (inner_patterns 10 10) 12
    ∷ eqb (pattern_modules 0 10 10) 152
    -- P3
    ∷ eqb (data_modules 0 1 1 24).0 349
    ∷ eqb (sizes_of (symbol 1 8 4 9) 24).capacity 1047
    -- P4
    ∷ eqb (data_modules 0 1 1 35).0 338
    ∷ eqb (sizes_of (symbol 1 4 4 9) 35).capacity 676
    -- P5
    ∷ eqb (sizes_of (symbol 1 8 4 9) 24).block 116
    ∷ eqb (sizes_of (symbol 1 8 4 9) 24).gross 1044
    ∷ eqb (sizes_of (symbol 1 8 4 9) 24).checks 464
    ∷ eqb (sizes_of (symbol 1 8 4 9) 24).net 580
    ∷ same (stuffing ((sizes_of (symbol 1 8 4 9) 24).capacity - (sizes_of (symbol 1 8 4 9) 24).gross)) (0 ∷ 1 ∷ 0 ∷ [])
    -- P6
    ∷ eqb (sizes_of (symbol 1 8 3 9) 24).checks 348
    ∷ eqb (sizes_of (symbol 1 8 3 9) 24).net 696
    ∷ not (exceeds 695 (sizes_of (symbol 1 8 3 9) 24).net)
    ∷ exceeds 696 (sizes_of (symbol 1 8 3 9) 24).net
    -- and by the whole write: 84 bytes are a stream of 24 + 8 × 84 = 696 bits; 53,964 work bytes are asked for
    ∷ eqb (writes 84 53964) 6
    ∷ eqb (writes 83 53964) 0
    ∷ eqb (writes 83 53963) 5
    -- P7
    ∷ eqb (raw_place 4294967295 1047) 1047
    ∷ eqb (place_of 4294967295 1047) 1046
    ∷ eqb (place_of 4294967295 1) 0
    -- P8
    ∷ eqb (raw_place 4294967167 1047) 1046
    ∷ eqb (place_of 4294967167 1047) 1046
    -- P9
    ∷ eqb (place_of 2147483648 1047) 523
    ∷ eqb (place_of 0 1047) 0
    -- P10
    ∷ eqb (unmet_count checks10 word10) 2
    ∷ eqb (length (repairs_of checks10 word10)) 1
    ∷ same (last_word checks10 word10) (0 ∷ 0 ∷ 0 ∷ [])
    ∷ not (stuck checks10 word10)
    -- and the bit turned is the first (document 02, W-205)
    ∷ same (places_of (repairs_of checks10 word10)) (1 ∷ [])
    -- P11
    ∷ eqb (unmet_count checks11 word11) 2
    ∷ eqb (length (repairs_of checks11 word11)) 0
    ∷ stuck checks11 word11
    -- P12
    ∷ same (with_end_mark 5 (1 ∷ 0 ∷ [])) (1 ∷ 0 ∷ 1 ∷ 0 ∷ 0 ∷ [])
    ∷ same (with_end_mark 5 []) (1 ∷ 0 ∷ 0 ∷ 0 ∷ 0 ∷ [])
    ∷ same (stream_in (1 ∷ 0 ∷ 1 ∷ 0 ∷ 0 ∷ [])) (1 ∷ 0 ∷ [])
    ∷ same (stream_in (1 ∷ 0 ∷ 0 ∷ 0 ∷ 0 ∷ [])) []
    ∷ eqb (stream_answer (1 ∷ 0 ∷ 0 ∷ 0 ∷ 0 ∷ []) 0).number 0
    ∷ eqb (stream_answer (0 ∷ 0 ∷ 0 ∷ 0 ∷ 0 ∷ []) 0).number 11
    ∷ []

pub all_points : T (all_hold points)
unfolding all_hold lowest tabulate has value bits any_one range_tests in_range core_table cores_of inner_patterns list_verdict entry_verdict
    list_number list_place bits_per_module pattern_modules data_modules as_bits capacity sizes_of scaled raw_place place_of mul div of_int
    to_unsigned bit_sum unmet unmet_count unmet_at met_at is_suspect suspect turned ends repairs after_turns repairs_of places_of last_word
    stuck read_code read_codes decode byte_runs byte_stream up_to_last_one stream_in stuffing stream_of same first_of size_rows front_rows
    write_rows early_rows stream_rows write_answer stream_answer read_answer join_from near_core finder pattern_of in_squares colour_in
    meeting pattern_at covered pattern_colour entry_at first_entry bad_entry bad_at with_end_mark byte_bits run_count byte_run
all_points = tt
