-- Laws of reading a stream: how it goes from code to code, which numbers it gives and how many bytes.
-- Assumes nothing.
use Prim.Native.Nat.{ℕ, zero, suc, ◌+◌, ◌≤◌, ◌<◌}
use mathlib.Core.Path.{◌≡◌, refl, sym, ap, ◌∙◌, subst⁻¹}
use mathlib.Core.Logic.{◌⊎◌, inl, inr}
use mathlib.Core.Bool.{Bool, true, false, cond}
use mathlib.Core.List.{List, [], ◌++◌}
use native.Mathlib.Omega.{arith}
use native.Mathlib.Decide.{dec_lt}
use lib.Dec.{leb, eqb}
use lib.ListN.{length, get_or, take, drop, length-append, length-drop, get_or-eq_default}
use borrow.Author.Tests.{le-leb, lt-leb, leb-true}
use Rattle.symbology.specs.declared.Mode.{Mode}
use Rattle.symbology.specs.declared.Mode.TheVariants.{Upper, Lower, Numeric, Alphanumeric}
use Rattle.symbology.specs.declared.Expected.{Expected}
use Rattle.symbology.specs.declared.Expected.TheVariants.{Latched, Punctuation, Mixed, Capital, MoreSwitches, ShortCount, LongCount, Byte}
use Rattle.symbology.specs.declared.ModeAnswer.{ModeAnswer}
use Rattle.symbology.specs.declared.ModeAnswer.TheVariants.{Next, EndOfMessage, Undefined, Eci, Fnc1}
use Rattle.symbology.specs.Bits.{value}
use Rattle.symbology.specs.Ranges.{tabulate, all_below}
use Rattle.symbology.specs.Characters.{upper_characters, lower_characters, numeric_characters, punctuation_characters}
use Rattle.symbology.specs.Characters.{mixed_characters, alphanumeric_characters, utf8, utf8_bytes, character_bytes}
use Rattle.symbology.specs.Modes.{code_width, switch_of, characters_of, bytes_of, mode_number, end_number}
use Rattle.symbology.specs.Stream.{Decoded, Reading, at, over, after_code, read_code, read_codes, decode}
use Rattle.symbology.proofs.Ranges.{below_true}

-- ---- one code

-- a code has bits, at most 13
widths : (m : Mode) (e : Expected) → (0 < code_width m e) × (code_width m e ≤ 13)
widths Upper Latched = omega arith
widths Lower Latched = omega arith
widths Numeric Latched = omega arith
widths Alphanumeric Latched = omega arith
widths m Punctuation = omega arith
widths m Mixed = omega arith
widths m Capital = omega arith
widths m MoreSwitches = omega arith
widths m ShortCount = omega arith
widths m LongCount = omega arith
widths m (Byte k) = omega arith

pub width_some : (m : Mode) (e : Expected) → 0 < code_width m e
width_some m e = (widths m e).0

pub width_most : (m : Mode) (e : Expected) → code_width m e ≤ 13
width_most m e = (widths m e).1

-- a code whose bits are there
code_whole : (m : Mode) (e : Expected) (bs out : List ℕ) → code_width m e ≤ length bs
    → let v : ℕ = value (take (code_width m e) bs) in
    read_code m e bs out ≡ after_code (switch_of m e v) (drop (code_width m e) bs) (out ++ bytes_of m e v)
unfolding read_code
code_whole m e bs out h = rw (le-leb (code_width m e) (length bs) h)

-- a code for which the bits left are too few
code_cut : (m : Mode) (e : Expected) (bs out : List ℕ) → length bs < code_width m e
    → read_code m e bs out ≡ over (end_number e (length bs)) out
unfolding read_code
code_cut m e bs out h = rw (lt-leb (code_width m e) (length bs) h)

-- what holds of the reading after a code, by whether its bits are there
code_by : (P : Reading → Type 0) (m : Mode) (e : Expected) (bs out : List ℕ)
    → (code_width m e ≤ length bs
    → let v : ℕ = value (take (code_width m e) bs) in P (after_code (switch_of m e v) (drop (code_width m e) bs) (out ++ bytes_of m e v)))
    → (length bs < code_width m e → P (over (end_number e (length bs)) out)) → P (read_code m e bs out)
code_by P m e bs out whole cut = elim (dec_lt (length bs) (code_width m e)) [
  | yes h ↦ subst⁻¹ P (code_cut m e bs out h) (cut h)
  | no h ↦ let l : code_width m e ≤ length bs = omega arith in subst⁻¹ P (code_whole m e bs out l) (whole l)
]

-- a reading at its end stays there
pub codes_over : (f k : ℕ) (out : List ℕ) → read_codes f (over k out) ≡ record { number = k; bytes = out }
unfolding read_codes
codes_over zero k out = refl
codes_over (suc f) k out = refl

-- ---- the reader's number

-- the number of a stream: 0, 12 or 13
abbrev pub IsNumber : ℕ → Type 0
IsNumber k = (k ≡ 0) ⊎ (k ≡ 12) ⊎ (k ≡ 13)

-- the number of a reading at its end
abbrev EndIsNumber : Reading → Type 0
EndIsNumber (at m e bs out) = Unit {0}
EndIsNumber (over k out) = IsNumber k

after_number : (s : ModeAnswer) (bs out : List ℕ) → EndIsNumber (after_code s bs out)
unfolding after_code
after_number (Next m e) bs out = tt
after_number EndOfMessage bs out = inl refl
after_number Undefined bs out = inr (inl refl)
after_number Eci bs out = inr (inr refl)
after_number Fnc1 bs out = inr (inr refl)

end_number_lem : (e : Expected) (left : ℕ) → IsNumber (end_number e left)
end_number_lem Latched left = go (eqb left 0)
  where
    go : (t : Bool) → IsNumber (cond t 0 12)
    go true = inl refl
    go false = inr (inl refl)
end_number_lem Punctuation left = inr (inl refl)
end_number_lem Mixed left = inr (inl refl)
end_number_lem Capital left = inr (inl refl)
end_number_lem MoreSwitches left = inr (inl refl)
end_number_lem ShortCount left = inr (inl refl)
end_number_lem LongCount left = inr (inl refl)
end_number_lem (Byte k) left = inr (inl refl)

code_number : (m : Mode) (e : Expected) (bs out : List ℕ) → EndIsNumber (read_code m e bs out)
code_number m e bs out =
    let w : ℕ = code_width m e in
    let v : ℕ = value (take w bs) in
    code_by EndIsNumber m e bs out (λ l. after_number (switch_of m e v) (drop w bs) (out ++ bytes_of m e v))
    (λ l. end_number_lem e (length bs))

codes_number : (f : ℕ) (r : Reading) → EndIsNumber r → IsNumber (read_codes f r).number
unfolding read_codes
codes_number zero (at m e bs out) h = inr (inl refl)
codes_number zero (over k out) h = h
codes_number (suc f) (at m e bs out) h = codes_number f (read_code m e bs out) (code_number m e bs out)
codes_number (suc f) (over k out) h = h

-- The number of a stream that is read is 0, 12 or 13, and nothing else.
pub decode_number : (bs : List ℕ) → ((decode bs).number ≡ 0) ⊎ ((decode bs).number ≡ 12) ⊎ ((decode bs).number ≡ 13)
unfolding decode
decode_number bs = codes_number (suc (length bs)) (at Upper Latched bs []) tt

-- ---- the reader, code by code

-- what is left to read is less than the fuel
abbrev Enough : ℕ → Reading → Type 0
Enough f (at m e bs out) = length bs < f
Enough f (over k out) = Unit {0}

after_enough : (f : ℕ) (s : ModeAnswer) (bs out : List ℕ) → length bs < f → Enough f (after_code s bs out)
unfolding after_code
after_enough f (Next m e) bs out h = h
after_enough f EndOfMessage bs out h = tt
after_enough f Undefined bs out h = tt
after_enough f Eci bs out h = tt
after_enough f Fnc1 bs out h = tt

code_enough : (f : ℕ) (m : Mode) (e : Expected) (bs out : List ℕ) → length bs < suc f → Enough f (read_code m e bs out)
code_enough f m e bs out h =
    let w : ℕ = code_width m e in
    let v : ℕ = value (take w bs) in
    code_by (Enough f) m e bs out
    (λ l. after_enough f (switch_of m e v) (drop w bs) (out ++ bytes_of m e v) (omega (arith, length-drop w bs, width_some m e))) (λ l. tt)

codes_fuel : (f g : ℕ) (r : Reading) → Enough f r → Enough g r → read_codes f r ≡ read_codes g r
unfolding read_codes
codes_fuel zero g (at m e bs out) p q = absurd (omega arith)
codes_fuel zero g (over k out) p q = sym (codes_over g k out)
codes_fuel (suc f) zero (at m e bs out) p q = absurd (omega arith)
codes_fuel (suc f) zero (over k out) p q = refl
codes_fuel (suc f) (suc g) (at m e bs out) p q =
    codes_fuel f g (read_code m e bs out) (code_enough f m e bs out p) (code_enough g m e bs out q)
codes_fuel (suc f) (suc g) (over k out) p q = refl

-- fuel above the bits left reads as any other such fuel
pub read_fuel : (f g : ℕ) (m : Mode) (e : Expected) (bs out : List ℕ) → length bs < f → length bs < g
    → read_codes f (at m e bs out) ≡ read_codes g (at m e bs out)
read_fuel f g m e bs out p q = codes_fuel f g (at m e bs out) p q

-- the whole of a reading that stands at a mode and an expected code
unfoldable pub read_from : Mode → Expected → List ℕ → List ℕ → Decoded
read_from m e bs out = read_codes (suc (length bs)) (at m e bs out)

-- a stream is read from uppercase mode on
pub decode_from : (bs : List ℕ) → decode bs ≡ read_from Upper Latched bs []
unfolding decode read_from
decode_from bs = refl

-- what follows a code, by what the code does to the mode
abbrev pub read_on : ModeAnswer → List ℕ → List ℕ → Decoded
read_on (Next m e) bs out = read_from m e bs out
read_on EndOfMessage bs out = record { number = mode_number EndOfMessage; bytes = out }
read_on Undefined bs out = record { number = mode_number Undefined; bytes = out }
read_on Eci bs out = record { number = mode_number Eci; bytes = out }
read_on Fnc1 bs out = record { number = mode_number Fnc1; bytes = out }

after_on : (f : ℕ) (s : ModeAnswer) (bs out : List ℕ) → length bs < f → read_codes f (after_code s bs out) ≡ read_on s bs out
unfolding after_code read_from
after_on f (Next m e) bs out h = read_fuel f (suc (length bs)) m e bs out h (omega arith)
after_on f EndOfMessage bs out h = codes_over f (mode_number EndOfMessage) out
after_on f Undefined bs out h = codes_over f (mode_number Undefined) out
after_on f Eci bs out h = codes_over f (mode_number Eci) out
after_on f Fnc1 bs out h = codes_over f (mode_number Fnc1) out

-- a code whose bits are there is read, and the reading goes on behind it or ends with it
pub read_step : (m : Mode) (e : Expected) (bs out : List ℕ) → code_width m e ≤ length bs
    → let v : ℕ = value (take (code_width m e) bs) in
    read_from m e bs out ≡ read_on (switch_of m e v) (drop (code_width m e) bs) (out ++ bytes_of m e v)
unfolding read_from read_codes
read_step m e bs out h =
    let w : ℕ = code_width m e in
    let v : ℕ = value (take w bs) in
    ap (λ (r : Reading). read_codes (length bs) r) (code_whole m e bs out h)
    ∙ after_on (length bs) (switch_of m e v) (drop w bs) (out ++ bytes_of m e v) (omega (arith, length-drop w bs, width_some m e))

-- a reading ends where the bits left are too few for the code
pub read_short : (m : Mode) (e : Expected) (bs out : List ℕ) → length bs < code_width m e
    → read_from m e bs out ≡ record { number = end_number e (length bs); bytes = out }
unfolding read_from read_codes
read_short m e bs out h =
    ap (λ (r : Reading). read_codes (length bs) r) (code_cut m e bs out h) ∙ codes_over (length bs) (end_number e (length bs)) out

-- ---- how many bytes a code and a stream give

-- a table's characters give at most k bytes each
characters_few : (k : ℕ) (table : List (List ℕ)) → all_below (length table) (λ v. leb (length (character_bytes table v)) k) ≡ true
    → (v : ℕ) → length (character_bytes table v) ≤ k
unfolding character_bytes utf8_bytes
characters_few k table t v = elim (dec_lt v (length table)) [
  | yes h ↦
      let few = below_true (λ v. leb (length (utf8_bytes (get_or table v []))) k) (length table) t v h in
      leb-true (length (utf8_bytes (get_or table v []))) k few
  | no h ↦ rw (get_or-eq_default table [] {n = v} (omega arith)) (omega arith)
]

latched_few : (m : Mode) (v : ℕ) → length (character_bytes (characters_of m) v) ≤ 1
unfolding characters_of upper_characters lower_characters numeric_characters alphanumeric_characters tabulate all_below character_bytes
    utf8_bytes utf8
latched_few Upper v = characters_few 1 upper_characters refl v
latched_few Lower v = characters_few 1 lower_characters refl v
latched_few Numeric v = characters_few 1 numeric_characters refl v
latched_few Alphanumeric v = characters_few 1 alphanumeric_characters refl v

punctuation_few : (v : ℕ) → length (character_bytes punctuation_characters v) ≤ 1
unfolding punctuation_characters all_below character_bytes utf8_bytes utf8
punctuation_few v = characters_few 1 punctuation_characters refl v

mixed_few : (v : ℕ) → length (character_bytes mixed_characters v) ≤ 3
unfolding mixed_characters all_below character_bytes utf8_bytes utf8
mixed_few v = characters_few 3 mixed_characters refl v

-- a code gives at most three bytes
pub bytes_three : (m : Mode) (e : Expected) (v : ℕ) → length (bytes_of m e v) ≤ 3
unfolding bytes_of characters_of
bytes_three m Latched v = omega (arith, latched_few m v)
bytes_three m Punctuation v = omega (arith, punctuation_few v)
bytes_three m Mixed v = mixed_few v
bytes_three m Capital v = omega (arith, latched_few Upper v)
bytes_three m MoreSwitches v = omega arith
bytes_three m ShortCount v = omega arith
bytes_three m LongCount v = omega arith
bytes_three m (Byte k) v = omega arith

-- a code gives no more bytes than it has bits
pub bytes_few : (m : Mode) (e : Expected) (v : ℕ) → length (bytes_of m e v) ≤ code_width m e
unfolding bytes_of characters_of
bytes_few m Latched v = omega (arith, latched_few m v, width_some m Latched)
bytes_few m Punctuation v = omega (arith, punctuation_few v)
bytes_few m Mixed v = omega (arith, mixed_few v)
bytes_few m Capital v = omega (arith, latched_few Upper v)
bytes_few m MoreSwitches v = omega arith
bytes_few m ShortCount v = omega arith
bytes_few m LongCount v = omega arith
bytes_few m (Byte k) v = omega arith

-- the bytes read and the bits left are at most n
abbrev Few : ℕ → Reading → Type 0
Few n (at m e bs out) = length out + length bs ≤ n
Few n (over k out) = length out ≤ n

after_few : (n : ℕ) (s : ModeAnswer) (bs out : List ℕ) → length out + length bs ≤ n → Few n (after_code s bs out)
unfolding after_code
after_few n (Next m e) bs out h = h
after_few n EndOfMessage bs out h = omega arith
after_few n Undefined bs out h = omega arith
after_few n Eci bs out h = omega arith
after_few n Fnc1 bs out h = omega arith

code_few : (n : ℕ) (m : Mode) (e : Expected) (bs out : List ℕ) → length out + length bs ≤ n → Few n (read_code m e bs out)
code_few n m e bs out h =
    let w : ℕ = code_width m e in
    let v : ℕ = value (take w bs) in
    code_by (Few n) m e bs out
    (λ l. after_few n (switch_of m e v) (drop w bs) (out ++ bytes_of m e v)
    (omega (arith, length-append out (bytes_of m e v), length-drop w bs, bytes_few m e v))) (λ l. omega arith)

codes_few : (n f : ℕ) (r : Reading) → Few n r → length (read_codes f r).bytes ≤ n
unfolding read_codes
codes_few n zero (at m e bs out) h = omega arith
codes_few n zero (over k out) h = h
codes_few n (suc f) (at m e bs out) h = codes_few n f (read_code m e bs out) (code_few n m e bs out h)
codes_few n (suc f) (over k out) h = h

-- A stream gives no more bytes than it has bits.
pub decode_few : (bs : List ℕ) → length (decode bs).bytes ≤ length bs
unfolding decode
decode_few bs = codes_few (length bs) (suc (length bs)) (at Upper Latched bs []) (omega arith)
