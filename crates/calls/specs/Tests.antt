-- Document 01, "Numbers returned", without 8 and with 16 (document 02, W-202 and W-205): a table of tests is a list of rows, each with
-- its number and place, and the answer is that of the first row whose test holds. Each row is written here, once; the tables of the
-- calls are made of them.
-- Assumes nothing.
use Rattle.std.specs.Prelude.{ℕ, ◌*◌, Bool, true, cond, not, ◌&&◌, ◌||◌, List, [], ◌∷◌, ◌++◌, length, take, drop, ltb, eqb}
use Rattle.symbology.specs.declared.Params.{Params}
use Rattle.symbology.specs.declared.Sizes.{Sizes}
use Rattle.symbology.specs.Bits.{any_one}
use Rattle.symbology.specs.Parameters.{in_range}
use Rattle.symbology.specs.Reserved.{list_verdict, list_number, list_place}
use Rattle.symbology.specs.Capacity.{sizes_for}
use Rattle.symbology.specs.Rule.{repairs_of, last_word, stuck}
use Rattle.symbology.specs.Code.{checks_for, message_bits_for}
use Rattle.symbology.specs.Stream.{Decoded, decode}
use Rattle.symbology.specs.Net.{exceeds, stream_in}
use Rattle.symbology.specs.Placement.{first_bad_module}

-- ---- tables

-- a test, and the number and place that are given where it holds
pub record Row : Type 0 where
  pub test : Bool
  pub number : ℕ
  pub place : ℕ

-- a row of them
abbrev pub row : Bool → ℕ → ℕ → Row
row t number place = record { test = t; number = number; place = place }

-- The answer of the first row whose test holds, and d where none does. `refusal` makes an answer of a number and a place.
unfoldable pub first_of : {A : Type 0} → (ℕ → ℕ → A) → List Row → A → A
first_of refusal [] d = d
first_of refusal (r ∷ rs) d =
    let later = first_of refusal rs d in
    cond r.test (refusal r.number r.place) later

-- no test of the table holds
unfoldable pub passes : List Row → Bool
passes [] = true
passes (r ∷ rs) = not r.test && passes rs

-- ---- the rows, with `l` for the reserved list

-- a parameter is outside its range
abbrev pub out_of_range : Params → Row
out_of_range p = row (not (in_range p)) 1 0

-- bad reserved list
abbrev pub bad_list : Params → List ℕ → Row
bad_list p l = row (eqb (list_number (list_verdict p l)) 2) 2 (list_place (list_verdict p l))

-- C below wr, or above 4,096
abbrev pub bad_capacity : Params → List ℕ → Row
bad_capacity p l =
    let c = (sizes_for p l).capacity in
    row (ltb c p.wr || ltb 4096 c) 3 0

-- matrix length is not columns × rows
abbrev pub other_matrix : Params → List ℕ → ℕ → Row
other_matrix p l modules = row (not (eqb modules ((sizes_for p l).columns * (sizes_for p l).rows))) 4 0

-- the work buffer is too short
abbrev pub short_work : Params → List ℕ → ℕ → Row
short_work p l work = row (ltb work (sizes_for p l).work) 5 0

-- stream + 1 exceeds Pn
abbrev pub no_room : Params → List ℕ → List ℕ → Row
no_room p l stream = row (exceeds (length stream) (sizes_for p l).net) 6 0

-- a module is N or more
abbrev pub bad_module : Params → List ℕ → Row
bad_module p matrix =
    let bad = first_bad_module p.colours matrix in
    row (ltb bad (length matrix)) 7 bad

-- stuck
abbrev pub stuck_word : Sizes → List ℕ → Row
stuck_word s w = row (stuck (checks_for s) w) 9 0

-- document 02, W-205: there are more repairs than the slice for their places holds
abbrev pub short_places : Sizes → List ℕ → ℕ → Row
short_places s w slots = row (ltb slots (length (repairs_of (checks_for s) w))) 16 0

-- a spare message column is 1
abbrev pub spare_one : Sizes → List ℕ → Row
spare_one s w = row (any_one (drop s.net (message_bits_for s w))) 10 0

-- the net bits are all 0
abbrev pub no_end_mark : List ℕ → Row
no_end_mark net = row (not (any_one net)) 11 0

-- a code 4.3 doesn't define, or the stream ends inside one
abbrev pub bad_code : Decoded → Row
bad_code d = row (eqb d.number 12) 12 0

-- ECI or FNC1
abbrev pub eci_or_fnc1 : Decoded → Row
eci_or_fnc1 d = row (eqb d.number 13) 13 0

-- the message is longer than the room for it
abbrev pub overfull : Decoded → ℕ → Row
overfull d room = row (ltb room (length d.bytes)) 14 0

-- ---- the tables

-- what needs no buffer
unfoldable pub size_rows : Params → List ℕ → List Row
size_rows p l = out_of_range p ∷ bad_list p l ∷ bad_capacity p l ∷ []

-- every call's tests first, for a matrix and a work buffer of these lengths
unfoldable pub front_rows : Params → List ℕ → ℕ → ℕ → List Row
front_rows p l modules work = size_rows p l ++ (other_matrix p l modules ∷ short_work p l work ∷ [])

-- a write of a stream
unfoldable pub write_rows : Params → List ℕ → List ℕ → ℕ → ℕ → List Row
write_rows p l stream modules work = front_rows p l modules work ++ (no_room p l stream ∷ [])

-- a read up to the checks
unfoldable pub early_rows : Params → List ℕ → List ℕ → ℕ → List Row
early_rows p l matrix work = front_rows p l (length matrix) work ++ (bad_module p matrix ∷ [])

-- net bits, with room for so many bytes
unfoldable pub stream_rows : List ℕ → ℕ → List Row
stream_rows net room =
    let d = decode (stream_in net) in
    no_end_mark net ∷ bad_code d ∷ eci_or_fnc1 d ∷ overfull d room ∷ []

-- an accepted word
unfoldable pub accepted_rows : Sizes → List ℕ → ℕ → List Row
accepted_rows s w room = spare_one s w ∷ stream_rows (take s.net (message_bits_for s w)) room

-- a received word, with room for so many bytes and so many places
unfoldable pub received_rows : Sizes → List ℕ → ℕ → ℕ → List Row
received_rows s w room slots = stuck_word s w ∷ short_places s w slots ∷ accepted_rows s (last_word (checks_for s) w) room

-- Parameters, list and buffers are legal (document 01's term): none of the tests 1 to 5 applies.
unfoldable pub is_legal : Params → List ℕ → ℕ → ℕ → Bool
is_legal p l modules work = passes (front_rows p l modules work)

-- a read reaches the checks (document 01's term): none of its tests before 9, which are 1 to 5 and 7, applies
unfoldable pub reaches_checks : Params → List ℕ → List ℕ → ℕ → Bool
reaches_checks p l matrix work = passes (early_rows p l matrix work)
