-- 002, 4.3: a stream of bits read, code by code from uppercase mode; the byte-mode stream of a message; and the stream that is chosen.
-- Assumes nothing.
use Rattle.std.specs.Prelude.{ℕ, zero, suc, ◌-◌, ◌≡◌, cond, List, [], ◌∷◌, ◌++◌, length, take, drop, leb, ltb}
use Rattle.symbology.specs.declared.Mode.{Mode}
use Rattle.symbology.specs.declared.Mode.TheVariants.{Upper}
use Rattle.symbology.specs.declared.Expected.{Expected}
use Rattle.symbology.specs.declared.Expected.TheVariants.{Latched}
use Rattle.symbology.specs.declared.ModeAnswer.{ModeAnswer}
use Rattle.symbology.specs.declared.ModeAnswer.TheVariants.{Next, EndOfMessage, Undefined, Eci, Fnc1}
use Rattle.symbology.specs.Bits.{AllBits, value, bits}
use Rattle.symbology.specs.Modes.{code_width, switch_of, bytes_of, mode_number, end_number}

-- ---- reading

-- what a stream gives: document 01's number, 0, 12 or 13, and the bytes read until there
pub record Decoded : Type 0 where
  pub number : ℕ
  pub bytes : List ℕ

-- a reading: at a mode and an expected code, with the bits left and the bytes read; or at its end
pub data Reading : Type 0 where
  at : Mode → Expected → List ℕ → List ℕ → Reading
  over : ℕ → List ℕ → Reading

-- the reading after a code, by what the code does to the mode
unfoldable pub after_code : ModeAnswer → List ℕ → List ℕ → Reading
after_code (Next m e) bs out = at m e bs out
after_code EndOfMessage bs out = over (mode_number EndOfMessage) out
after_code Undefined bs out = over (mode_number Undefined) out
after_code Eci bs out = over (mode_number Eci) out
after_code Fnc1 bs out = over (mode_number Fnc1) out

-- one code read, or the stream's end met
unfoldable pub read_code : Mode → Expected → List ℕ → List ℕ → Reading
read_code m e bs out =
    let w = code_width m e in
    let v = value (take w bs) in
    cond (leb w (length bs)) (after_code (switch_of m e v) (drop w bs) (out ++ bytes_of m e v)) (over (end_number e (length bs)) out)

-- n codes read, which for n above the number of bits is the whole stream
unfoldable pub read_codes : ℕ → Reading → Decoded
read_codes zero (over k out) = record { number = k; bytes = out }
read_codes zero (at m e bs out) = record { number = 12; bytes = out }
read_codes (suc n) (over k out) = record { number = k; bytes = out }
read_codes (suc n) (at m e bs out) = read_codes n (read_code m e bs out)

-- the whole stream, from uppercase mode
unfoldable pub decode : List ℕ → Decoded
decode bs = read_codes (suc (length bs)) (at Upper Latched bs [])

-- ---- writing in byte mode

-- the eight bits of each byte
unfoldable pub byte_bits : List ℕ → List ℕ
byte_bits [] = []
byte_bits (b ∷ bs) = bits 8 b ++ byte_bits bs

-- 4.3.7: the count of a run, short from 1 to 15 and long above
unfoldable pub run_count : ℕ → List ℕ
run_count n = cond (ltb n 16) (bits 4 n) (bits 4 0 ++ bits 13 (n - 15))

-- Table 13: a run from uppercase mode, to which it returns: 11111, 00, the count, the bytes
unfoldable pub byte_run : List ℕ → List ℕ
byte_run m = bits 5 31 ++ bits 2 0 ++ run_count (length m) ++ byte_bits m

-- 4.3.7: the greatest length of a run, 15 + 8,191
abbrev pub longest_run : ℕ
longest_run = 8206

-- runs of the greatest length, the last shorter, at most n of them
unfoldable pub byte_runs : ℕ → List ℕ → List ℕ
byte_runs zero m = []
byte_runs (suc n) [] = []
byte_runs (suc n) (b ∷ bs) = byte_run (take longest_run (b ∷ bs)) ++ byte_runs n (drop longest_run (b ∷ bs))

-- the byte-mode stream of a message; an empty message has an empty stream
unfoldable pub byte_stream : List ℕ → List ℕ
byte_stream m = byte_runs (length m) m

-- ---- the stream of a message

-- the stream that a message is written as: byte mode is chosen here
unfoldable pub stream_of : List ℕ → List ℕ
stream_of message = byte_stream message

-- a stream of bits that reads as the message
pub record ReadsAs (stream message : List ℕ) : Type 0 where
  pub are_bits : AllBits stream
  pub gives : decode stream ≡ record { number = 0; bytes = message }
