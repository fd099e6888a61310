-- Laws of the byte-mode stream of a message: it reads back as that message, it is made of bits, and how long it is.
-- Assumes nothing.
use Prim.Native.Nat.{ℕ, zero, suc, ◌+◌, ◌-◌, ◌*◌, ◌/◌, ◌%◌, ◌^◌, ◌≤◌, ◌<◌}
use mathlib.Core.Path.{◌≡◌, refl, sym, ap, ◌∙◌}
use mathlib.Core.Bool.{cond}
use mathlib.Core.List.{List, [], ◌∷◌, ◌++◌, append_assoc, append-nil}
use native.Mathlib.Nat.{zero-add}
use native.Mathlib.Omega.{arith}
use native.Mathlib.Decide.{dec_lt, ℕ_discrete}
use lib.Dec.{ltb, eqb}
use lib.ListN.{length, take, drop, length-append, length-drop, take-append-drop, drop_of_length-le}
use lib.Seq.{take_at, drop_at, length-take-le, take_all}
use borrow.Author.Tests.{lt-ltb, le-ltb, ne_eqb}
use Rattle.symbology.specs.declared.Mode.{Mode}
use Rattle.symbology.specs.declared.Mode.TheVariants.{Upper}
use Rattle.symbology.specs.declared.Expected.{Expected}
use Rattle.symbology.specs.declared.Expected.TheVariants.{Latched, MoreSwitches, ShortCount, LongCount, Byte}
use Rattle.symbology.specs.Bits.{AllBits, AllBytes, bits}
use Rattle.symbology.specs.Ranges.{tabulate}
use Rattle.symbology.specs.Characters.{upper_characters, utf8_bytes, character_bytes}
use Rattle.symbology.specs.Modes.{code_width, character_count, direct_switches, more_switches, switch_of, characters_of, bytes_of}
use Rattle.symbology.specs.Stream.{stream_of, ReadsAs, decode, byte_bits, run_count, byte_run, byte_runs, byte_stream}
use Rattle.laws.proofs.Bits.{take_every, drop_every, length_bits, value_bits, append_bits, bits_are}
use Rattle.laws.proofs.Stream.{width_some, read_from, read_on, decode_from, read_step, read_short}

-- ---- a run of bytes read back

-- a code of value v at the front of the bits left
code_back : (m : Mode) (e : Expected) (v : ℕ) (rest out : List ℕ) → v < 2 ^ code_width m e
    → read_from m e (bits (code_width m e) v ++ rest) out ≡ read_on (switch_of m e v) rest (out ++ bytes_of m e v)
code_back m e v rest out h =
    let w : ℕ = code_width m e in
    let l : length (bits w v) ≡ w = length_bits w v in
    read_step m e (bits w v ++ rest) out (omega (arith, length-append (bits w v) rest))
    ∙ rw (take_at (bits w v) rest w l, drop_at (bits w v) rest w l, value_bits w v h)

-- the bytes of a run
bytes_back : (m : Mode) (b : ℕ) (bs rest out : List ℕ) → AllBytes (b ∷ bs)
    → read_from m (Byte (length bs)) (byte_bits (b ∷ bs) ++ rest) out ≡ read_from m Latched rest (out ++ b ∷ bs)
unfolding byte_bits switch_of bytes_of
bytes_back m b [] rest out h =
    let same : b % 256 ≡ b = omega (arith, h 0) in
    rw (append_assoc (bits 8 b) [] rest) (rw same at (code_back m (Byte 0) b rest out (h 0)))
bytes_back m b (c ∷ bs) rest out h =
    let same : b % 256 ≡ b = omega (arith, h 0) in
    rw (append_assoc (bits 8 b) (byte_bits (c ∷ bs)) rest)
    (rw same at (code_back m (Byte (suc (length bs))) b (byte_bits (c ∷ bs) ++ rest) out (h 0)))
    ∙ bytes_back m c bs rest (out ++ (b ∷ [])) (λ i. h (suc i)) ∙ rw (append_assoc out (b ∷ []) (c ∷ bs))

-- the count of a run, short and long
pub count_short : (n : ℕ) → n < 16 → run_count n ≡ bits 4 n
unfolding run_count
count_short n h = rw (lt-ltb n 16 h)

pub count_long : (n : ℕ) → 16 ≤ n → run_count n ≡ bits 4 0 ++ bits 13 (n - 15)
unfolding run_count
count_long n h = rw (le-ltb n 16 h)

short_back : (m : Mode) (n : ℕ) (rest out : List ℕ) → suc n < 16
    → read_from m ShortCount (bits 4 (suc n) ++ rest) out ≡ read_from m (Byte n) rest out
unfolding switch_of bytes_of
short_back m n rest out h =
    let less : suc n - 1 ≡ n = omega arith in
    code_back m ShortCount (suc n) rest out h ∙ rw (ne_eqb (suc n) 0 (λ e. omega arith), less, append-nil out)

long_back : (m : Mode) (n : ℕ) (rest out : List ℕ) → 15 ≤ n → n ≤ 8205
    → read_from m ShortCount (bits 4 0 ++ (bits 13 (suc n - 15) ++ rest)) out ≡ read_from m (Byte n) rest out
unfolding switch_of bytes_of
long_back m n rest out above few =
    let more : suc n - 15 + 14 ≡ n = omega arith in
    code_back m ShortCount 0 (bits 13 (suc n - 15) ++ rest) out (omega arith)
    ∙ code_back m LongCount (suc n - 15) rest (out ++ []) (omega arith) ∙ rw (more, append-nil out, append-nil out)

count_back : (m : Mode) (n : ℕ) (rest out : List ℕ) → n ≤ 8205
    → read_from m ShortCount (run_count (suc n) ++ rest) out ≡ read_from m (Byte n) rest out
count_back m n rest out h = elim (dec_lt (suc n) 16) [
  | yes s ↦ rw (count_short (suc n) s) (short_back m n rest out s)
  | no s ↦
      rw (count_long (suc n) (omega arith), append_assoc (bits 4 0) (bits 13 (suc n - 15)) rest) (long_back m n rest out (omega arith) h)
]

-- the two switches of a run
switch_back : (rest out : List ℕ) → read_from Upper Latched (bits 5 31 ++ (bits 2 0 ++ rest)) out ≡ read_from Upper ShortCount rest out
unfolding switch_of character_count direct_switches more_switches bytes_of
    characters_of character_bytes upper_characters tabulate utf8_bytes
switch_back rest out =
    code_back Upper Latched 31 (bits 2 0 ++ rest) out (omega arith)
    ∙ code_back Upper MoreSwitches 0 rest (out ++ []) (omega arith) ∙ rw (append-nil out, append-nil out)

run_parts : (m rest : List ℕ) → byte_run m ++ rest ≡ bits 5 31 ++ (bits 2 0 ++ (run_count (length m) ++ (byte_bits m ++ rest)))
unfolding byte_run
run_parts m rest = simp append_assoc

-- a run
run_back : (b : ℕ) (bs rest out : List ℕ) → AllBytes (b ∷ bs) → length bs ≤ 8205
    → read_from Upper Latched (byte_run (b ∷ bs) ++ rest) out ≡ read_from Upper Latched rest (out ++ b ∷ bs)
run_back b bs rest out h few =
    rw (run_parts (b ∷ bs) rest) (switch_back (run_count (suc (length bs)) ++ (byte_bits (b ∷ bs) ++ rest)) out)
    ∙ count_back Upper (length bs) (byte_bits (b ∷ bs) ++ rest) out few ∙ bytes_back Upper b bs rest out h

-- ---- the whole stream read back

take_bytes : (n : ℕ) (m : List ℕ) → AllBytes m → AllBytes (take n m)
take_bytes n m = take_every (λ (b : ℕ). b < 256) n m (omega arith)

drop_bytes : (n : ℕ) (m : List ℕ) → AllBytes m → AllBytes (drop n m)
drop_bytes n m = drop_every (λ (b : ℕ). b < 256) n m

take_few : (n : ℕ) (m : List ℕ) → length (take n m) ≤ n
take_few zero m = omega arith
take_few (suc n) [] = omega arith
take_few (suc n) (x ∷ m) = omega (arith, take_few n m)

-- the end of a stream, met between codes
end_back : (out : List ℕ) → read_from Upper Latched [] out ≡ record { number = 0; bytes = out ++ [] }
end_back out = read_short Upper Latched [] out (width_some Upper Latched) ∙ rw (append-nil out)

-- a first run of k + 1 bytes at most, and what follows it
first_back : (k b : ℕ) (bs rest out : List ℕ) → k ≤ 8205 → AllBytes (b ∷ bs)
    → ((out : List ℕ) → read_from Upper Latched rest out ≡ record { number = 0; bytes = out ++ drop k bs })
    → read_from Upper Latched (byte_run (b ∷ take k bs) ++ rest) out ≡ record { number = 0; bytes = out ++ b ∷ bs }
first_back k b bs rest out few h later =
    run_back b (take k bs) rest out (take_bytes (suc k) (b ∷ bs) h) (omega (arith, take_few k bs)) ∙ later (out ++ b ∷ take k bs)
    ∙ rw (append_assoc out (b ∷ take k bs) (drop k bs), take-append-drop k bs)

-- all the runs
runs_back : (n : ℕ) (m out : List ℕ) → AllBytes m → length m ≤ n
    → read_from Upper Latched (byte_runs n m) out ≡ record { number = 0; bytes = out ++ m }
unfolding byte_runs
runs_back zero [] out h fits = end_back out
runs_back zero (b ∷ bs) out h fits = absurd (omega arith)
runs_back (suc n) [] out h fits = end_back out
runs_back (suc n) (b ∷ bs) out h fits =
    first_back 8205 b bs (byte_runs n (drop 8205 bs)) out (omega arith) h
    (λ out. runs_back n (drop 8205 bs) out (drop_bytes 8205 bs (λ i. h (suc i))) (omega (arith, length-drop 8205 bs)))

-- The byte-mode stream of any list of bytes reads back as that list.
pub stream_back : (m : List ℕ) → AllBytes m → decode (byte_stream m) ≡ record { number = 0; bytes = m }
unfolding byte_stream
stream_back m h = decode_from (byte_runs (length m) m) ∙ runs_back (length m) m [] h (omega arith)

-- ---- the stream is made of bits

bytes_are_bits : (m : List ℕ) → AllBits (byte_bits m)
unfolding byte_bits
bytes_are_bits [] = λ i. omega arith
bytes_are_bits (b ∷ bs) = append_bits (bits 8 b) (byte_bits bs) (bits_are 8 b) (bytes_are_bits bs)

count_bits : (n : ℕ) → AllBits (run_count n)
count_bits n = elim (dec_lt n 16) [
  | yes s ↦ rw (count_short n s) (bits_are 4 n)
  | no s ↦ rw (count_long n (omega arith)) (append_bits (bits 4 0) (bits 13 (n - 15)) (bits_are 4 0) (bits_are 13 (n - 15)))
]

run_bits : (m : List ℕ) → AllBits (byte_run m)
unfolding byte_run
run_bits m =
    append_bits (bits 5 31 ++ bits 2 0 ++ run_count (length m)) (byte_bits m)
    (append_bits (bits 5 31 ++ bits 2 0) (run_count (length m))
    (append_bits (bits 5 31) (bits 2 0) (bits_are 5 31) (bits_are 2 0)) (count_bits (length m)))
    (bytes_are_bits m)

runs_bits : (n : ℕ) (m : List ℕ) → AllBits (byte_runs n m)
unfolding byte_runs
runs_bits zero m = λ i. omega arith
runs_bits (suc n) [] = λ i. omega arith
runs_bits (suc n) (b ∷ bs) =
    let run : List ℕ = take 8206 (b ∷ bs) in
    let rest : List ℕ = drop 8206 (b ∷ bs) in
    append_bits (byte_run run) (byte_runs n rest) (run_bits run) (runs_bits n rest)

-- The byte-mode stream is made of bits.
pub stream_bits : (m : List ℕ) → AllBits (byte_stream m)
unfolding byte_stream
stream_bits m = runs_bits (length m) m

-- ---- the length of the stream

pub length_bytes : (m : List ℕ) → length (byte_bits m) ≡ 8 * length m
unfolding byte_bits
length_bytes [] = refl
length_bytes (b ∷ bs) = omega (arith, length-append (bits 8 b) (byte_bits bs), length_bits 8 b, length_bytes bs)

-- how many bits a count has
pub short_length : (n : ℕ) → n < 16 → length (run_count n) ≡ 4
short_length n h = omega (arith, ap length (count_short n h), length_bits 4 n)

pub long_length : (n : ℕ) → 16 ≤ n → length (run_count n) ≡ 17
long_length n h =
    omega (arith, ap length (count_long n h), length-append (bits 4 0) (bits 13 (n - 15)), length_bits 4 0, length_bits 13 (n - 15))

-- the bits of a run before its bytes: two switches and the count
abbrev pub run_head : ℕ → ℕ
run_head n = cond (ltb n 16) 11 24

length_head : (n : ℕ) → 7 + length (run_count n) ≡ run_head n
length_head n = elim (dec_lt n 16) [
  | yes s ↦ rw (lt-ltb n 16 s) (omega (arith, short_length n s))
  | no s ↦ let long : 16 ≤ n = omega arith in rw (le-ltb n 16 long) (omega (arith, long_length n long))
]

-- a run has two switches, its count and eight bits for each byte
pub run_length : (m : List ℕ) → length (byte_run m) ≡ 7 + length (run_count (length m)) + 8 * length m
unfolding byte_run
run_length m =
    let count : List ℕ = run_count (length m) in
    let switches : List ℕ = bits 5 31 ++ bits 2 0 in
    let whole = length-append (switches ++ count) (byte_bits m) in
    let head = length-append switches count in
    let first = length-append (bits 5 31) (bits 2 0) in
    omega (arith, whole, head, first, length_bits 5 31, length_bits 2 0, length_bytes m)

length_run : (m : List ℕ) → length (byte_run m) ≡ run_head (length m) + 8 * length m
length_run m = run_length m ∙ ap (λ (x : ℕ). x + 8 * length m) (length_head (length m))

runs_none : (n : ℕ) → byte_runs n [] ≡ []
unfolding byte_runs
runs_none zero = refl
runs_none (suc n) = refl

-- as many runs as there are bytes, or more, are all the runs
runs_fuel : (n k : ℕ) (m : List ℕ) → length m ≤ n → length m ≤ k → byte_runs n m ≡ byte_runs k m
unfolding byte_runs
runs_fuel zero k [] h l = sym (runs_none k)
runs_fuel zero k (b ∷ bs) h l = absurd (omega arith)
runs_fuel (suc n) k [] h l = sym (runs_none k)
runs_fuel (suc n) zero (b ∷ bs) h l = absurd (omega arith)
runs_fuel (suc n) (suc k) (b ∷ bs) h l =
    ap (λ (x : List ℕ). byte_run (b ∷ take 8205 bs) ++ x)
    (runs_fuel n k (drop 8205 bs) (omega (arith, length-drop 8205 bs)) (omega (arith, length-drop 8205 bs)))

-- a stream is a run of at most 8,206 bytes and the stream of the bytes left
pub stream_first : (m : List ℕ) → 0 < length m → byte_stream m ≡ byte_run (take 8206 m) ++ byte_stream (drop 8206 m)
unfolding byte_stream byte_runs
stream_first [] h = absurd (omega arith)
stream_first (b ∷ bs) h =
    ap (λ (x : List ℕ). byte_run (b ∷ take 8205 bs) ++ x)
    (runs_fuel (length bs) (length (drop 8205 bs)) (drop 8205 bs) (omega (arith, length-drop 8205 bs)) (omega arith))

-- a run that takes all the bytes is the only one
only_run : (k n : ℕ) (m : List ℕ) → length m ≤ k → byte_run (take k m) ++ byte_runs n (drop k m) ≡ byte_run m
only_run k n m h = rw (take_all k m h, drop_of_length-le m {i = k} h, runs_none n) (append-nil (byte_run m))

length_first : (k n : ℕ) (m : List ℕ) → k ≤ length m
    → length (byte_run (take k m) ++ byte_runs n (drop k m)) ≡ run_head k + 8 * k + length (byte_runs n (drop k m))
length_first k n m h =
    length-append (byte_run (take k m)) (byte_runs n (drop k m))
    ∙ ap (λ (x : ℕ). x + length (byte_runs n (drop k m))) (length_run (take k m) ∙ rw (length-take-le k m h))

-- the bits of a last run of r bytes, of which there may be none
abbrev pub last_run : ℕ → ℕ
last_run r = cond (eqb r 0) 0 (run_head r + 8 * r)

-- the bits of a stream of n bytes: runs of 8,206 bytes, then a last run
unfoldable pub stream_length : ℕ → ℕ
stream_length n = n / 8206 * (24 + 8 * 8206) + last_run (n % 8206)

-- a stream of one run
pub length_one : (n : ℕ) → 0 < n → n ≤ 8206 → stream_length n ≡ run_head n + 8 * n
unfolding stream_length
length_one n some few = elim (ℕ_discrete n 8206) [
  | yes e ↦ rw e refl
  | no e ↦
      let none : n / 8206 ≡ 0 = omega arith in
      let all : n % 8206 ≡ n = omega arith in
      rw (none, all, ne_eqb n 0 (λ z. omega arith)) (zero-add (run_head n + 8 * n))
]

-- a stream that begins with a run of the greatest length
pub length_more : (n : ℕ) → 8206 ≤ n → stream_length n ≡ 24 + 8 * 8206 + stream_length (n - 8206)
unfolding stream_length
length_more n h =
    let runs : n / 8206 ≡ suc ((n - 8206) / 8206) = omega arith in
    let rest : n % 8206 ≡ (n - 8206) % 8206 = omega arith in
    rw (runs, rest) (omega arith)

length_runs : (n : ℕ) (m : List ℕ) → length m ≤ n → length (byte_runs n m) ≡ stream_length (length m)
unfolding byte_runs stream_length
length_runs zero [] h = refl
length_runs zero (b ∷ bs) h = absurd (omega arith)
length_runs (suc n) [] h = refl
length_runs (suc n) (b ∷ bs) h = go (length_runs n (drop 8205 bs))
  where
    go : (length (drop 8205 bs) ≤ n → length (byte_runs n (drop 8205 bs)) ≡ stream_length (length (drop 8205 bs)))
        → length (byte_run (take 8206 (b ∷ bs)) ++ byte_runs n (drop 8206 (b ∷ bs))) ≡ stream_length (suc (length bs))
    go later = elim (dec_lt (suc (length bs)) 8206) [
      | yes s ↦
          ap length (only_run 8206 n (b ∷ bs) (omega arith))
          ∙ length_run (b ∷ bs)
          ∙ sym (length_one (suc (length bs)) (omega arith) (omega arith))
      | no s ↦
          let left : length (drop 8205 bs) ≡ suc (length bs) - 8206 = length-drop 8205 bs ∙ omega arith in
          length_first 8206 n (b ∷ bs) (omega arith) ∙ ap (λ (x : ℕ). 24 + 8 * 8206 + x) (later (omega arith) ∙ rw left refl)
          ∙ sym (length_more (suc (length bs)) (omega arith))
    ]

-- The length of the byte-mode stream follows from that of the message.
pub stream_length_lem : (m : List ℕ) → length (byte_stream m) ≡ stream_length (length m)
unfolding byte_stream
stream_length_lem m = length_runs (length m) m (omega arith)

-- ---- the stream that is chosen

-- A message's stream is made of bits.
pub chosen_bits : (m : List ℕ) → AllBits (stream_of m)
unfolding stream_of
chosen_bits m = stream_bits m

-- It reads as the message.
pub chosen_reads : (m : List ℕ) → AllBytes m → ReadsAs (stream_of m) m
unfolding stream_of
chosen_reads m bytes = record { are_bits = stream_bits m; gives = stream_back m bytes }
