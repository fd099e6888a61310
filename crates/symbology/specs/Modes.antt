-- 002, 4.3 and Tables 13 to 16: how wide a code is, what it does to the mode, and which bytes it gives.
-- Assumes nothing.
use Rattle.std.specs.Prelude.{ℕ, zero, suc, ◌+◌, ◌-◌, ◌%◌, cond, List, [], ◌∷◌, get_or, ltb, eqb}
use Rattle.symbology.specs.declared.Mode.{Mode}
use Rattle.symbology.specs.declared.Mode.TheVariants.{Upper, Lower, Numeric, Alphanumeric}
use Rattle.symbology.specs.declared.Expected.{Expected}
use Rattle.symbology.specs.declared.Expected.TheVariants.{Latched, Punctuation, Mixed, Capital}
use Rattle.symbology.specs.declared.Expected.TheVariants.{MoreSwitches, ShortCount, LongCount, Byte}
use Rattle.symbology.specs.declared.ModeAnswer.{ModeAnswer}
use Rattle.symbology.specs.declared.ModeAnswer.TheVariants.{Next, EndOfMessage, Undefined, Eci, Fnc1}
use Rattle.symbology.specs.Characters.{upper_characters, lower_characters, numeric_characters, punctuation_characters}
use Rattle.symbology.specs.Characters.{mixed_characters, alphanumeric_characters, character_bytes}

-- the bits of a code of a latched mode
abbrev pub mode_width : Mode → ℕ
mode_width Upper = 5
mode_width Lower = 5
mode_width Numeric = 4
mode_width Alphanumeric = 6

-- the bits of the next code
abbrev pub code_width : Mode → Expected → ℕ
code_width m Latched = mode_width m
code_width m Punctuation = 4
code_width m Mixed = 5
code_width m Capital = 5
code_width m MoreSwitches = 2
code_width m ShortCount = 4
code_width m LongCount = 13
code_width m (Byte k) = 8

-- the characters of a latched mode; its values past them are switches
unfoldable pub character_count : Mode → ℕ
character_count Upper = 27
character_count Lower = 27
character_count Numeric = 13
character_count Alphanumeric = 63

-- Tables 13 to 16, "Direct" and the value MS: the switches of a mode, in the order of their values. Table 16 prints 15 for MS; the
-- text and Table 12 say 63.
unfoldable pub direct_switches : Mode → List ModeAnswer
direct_switches Upper =
    Next Upper Punctuation ∷ Next Lower Latched ∷ Next Numeric Latched ∷ Next Alphanumeric Latched ∷ Next Upper MoreSwitches ∷ []
direct_switches Lower =
    Next Lower Punctuation ∷ Next Lower Capital ∷ Next Numeric Latched ∷ Next Alphanumeric Latched ∷ Next Lower MoreSwitches ∷ []
direct_switches Numeric = Next Numeric Punctuation ∷ Next Upper Latched ∷ Next Numeric MoreSwitches ∷ []
direct_switches Alphanumeric = Next Alphanumeric MoreSwitches ∷ []

-- the same tables, "Extended": by the two bits appended
unfoldable pub more_switches : Mode → List ModeAnswer
more_switches Upper = Next Upper ShortCount ∷ Next Upper Mixed ∷ Eci ∷ Fnc1 ∷ []
more_switches Lower = Next Lower ShortCount ∷ Next Lower Mixed ∷ Next Upper Latched ∷ EndOfMessage ∷ []
more_switches Numeric = Next Numeric ShortCount ∷ Next Numeric Mixed ∷ Next Numeric Capital ∷ Next Lower Latched ∷ []
more_switches Alphanumeric =
    Next Alphanumeric ShortCount ∷ Next Alphanumeric Mixed ∷ Next Alphanumeric Punctuation ∷ Next Upper Latched ∷ []

-- What the code of value v does. After a character the latched mode stands again. A shift to uppercase mode is for a character: a
-- switch value there is not defined. 4.3.7: a short count of 0 says that the long one follows, which counts the bytes less 15.
unfoldable pub switch_of : Mode → Expected → ℕ → ModeAnswer
switch_of m Latched v = cond (ltb v (character_count m)) (Next m Latched) (get_or (direct_switches m) (v - character_count m) Undefined)
switch_of m Punctuation v = Next m Latched
switch_of m Mixed v = Next m Latched
switch_of m Capital v = cond (ltb v (character_count Upper)) (Next m Latched) Undefined
switch_of m MoreSwitches v = get_or (more_switches m) v Undefined
switch_of m ShortCount v = cond (eqb v 0) (Next m LongCount) (Next m (Byte (v - 1)))
switch_of m LongCount v = Next m (Byte (v + 14))
switch_of m (Byte zero) v = Next m Latched
switch_of m (Byte (suc k)) v = Next m (Byte k)

-- the characters of a latched mode
unfoldable pub characters_of : Mode → List (List ℕ)
characters_of Upper = upper_characters
characters_of Lower = lower_characters
characters_of Numeric = numeric_characters
characters_of Alphanumeric = alphanumeric_characters

-- the bytes that the code of value v gives; a byte is eight bits, and of a greater number the lowest eight
unfoldable pub bytes_of : Mode → Expected → ℕ → List ℕ
bytes_of m Latched v = character_bytes (characters_of m) v
bytes_of m Punctuation v = character_bytes punctuation_characters v
bytes_of m Mixed v = character_bytes mixed_characters v
bytes_of m Capital v = character_bytes upper_characters v
bytes_of m MoreSwitches v = []
bytes_of m ShortCount v = []
bytes_of m LongCount v = []
bytes_of m (Byte k) v = v % 256 ∷ []

-- document 01's number for each case of the enum; 0 where no refusal is meant
abbrev pub mode_number : ModeAnswer → ℕ
mode_number (Next m e) = 0
mode_number EndOfMessage = 0
mode_number Undefined = 12
mode_number Eci = 13
mode_number Fnc1 = 13

-- document 01's number where the stream ends and this code was expected, with so many bits left, too few for it: a stream may end
-- only between codes, and after a shift a character is owed
abbrev pub end_number : Expected → ℕ → ℕ
end_number Latched left = cond (eqb left 0) 0 12
end_number Punctuation left = 12
end_number Mixed left = 12
end_number Capital left = 12
end_number MoreSwitches left = 12
end_number ShortCount left = 12
end_number LongCount left = 12
end_number (Byte k) left = 12
