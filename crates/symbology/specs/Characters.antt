-- 002, Table 12: the characters of each mode, as Unicode numbers, in the order of their values. Where the table's Char column is
-- blank or says CR LF, its ISO column decides. The euro sign is U+20AC. Document 01:
-- a character beyond the 7-bit set gives its UTF-8 bytes.
-- Assumes nothing.
use Rattle.std.specs.Prelude.{ℕ, ◌+◌, ◌/◌, ◌%◌, cond, List, [], ◌∷◌, ◌++◌, map, get_or, ltb}
use Rattle.symbology.specs.Ranges.{tabulate}

-- the numbers from a, n of them
abbrev run : ℕ → ℕ → List ℕ
run a n = tabulate n (λ i. a + i)

abbrev alone : List ℕ → List (List ℕ)
alone cs = map (λ c. c ∷ []) cs

-- SP, A to Z
unfoldable pub upper_characters : List (List ℕ)
upper_characters = alone (32 ∷ run 65 26)

-- SP, a to z
unfoldable pub lower_characters : List (List ℕ)
lower_characters = alone (32 ∷ run 97 26)

-- SP, 0 to 9, comma, full stop
unfoldable pub numeric_characters : List (List ℕ)
numeric_characters = alone (32 ∷ run 48 10 ++ (44 ∷ 46 ∷ []))

-- ! " $ % & ' ( ) , - . / : ; ? @
unfoldable pub punctuation_characters : List (List ℕ)
punctuation_characters =
    alone (33 ∷ 34 ∷ 36 ∷ 37 ∷ 38 ∷ 39 ∷ 40 ∷ 41 ∷ 44 ∷ 45 ∷ 46 ∷ 47 ∷ 58 ∷ 59 ∷ 63 ∷ 64 ∷ [])

-- # * + < = > [ \ ] ^ _ ` { | } ~ HT LF CR, then CR LF (10, 13), comma SP, full stop SP, colon SP, then € § Ä Ö Ü ß ä ö ü
unfoldable pub mixed_characters : List (List ℕ)
mixed_characters =
    alone (35 ∷ 42 ∷ 43 ∷ 60 ∷ 61 ∷ 62 ∷ 91 ∷ 92 ∷ 93 ∷ 94 ∷ 95 ∷ 96 ∷ 123 ∷ 124 ∷ 125 ∷ 126 ∷ 9 ∷ 10 ∷ 13 ∷ [])
    ++ ((10 ∷ 13 ∷ []) ∷ (44 ∷ 32 ∷ []) ∷ (46 ∷ 32 ∷ []) ∷ (58 ∷ 32 ∷ []) ∷ [])
    ++ alone (0x20AC ∷ 167 ∷ 196 ∷ 214 ∷ 220 ∷ 223 ∷ 228 ∷ 246 ∷ 252 ∷ [])

-- SP, 0 to 9, A to Z, a to z
unfoldable pub alphanumeric_characters : List (List ℕ)
alphanumeric_characters = alone (32 ∷ run 48 10 ++ run 65 26 ++ run 97 26)

-- the UTF-8 bytes of a character below 0x10000
unfoldable pub utf8 : ℕ → List ℕ
utf8 c =
    cond (ltb c 0x80) (c ∷ [])
    (cond (ltb c 0x800) ((0xC0 + c / 64) ∷ (0x80 + c % 64) ∷ []) ((0xE0 + c / 4096) ∷ (0x80 + c / 64 % 64) ∷ (0x80 + c % 64) ∷ []))

-- the bytes of several characters
unfoldable pub utf8_bytes : List ℕ → List ℕ
utf8_bytes [] = []
utf8_bytes (c ∷ cs) = utf8 c ++ utf8_bytes cs

-- the bytes of value v of a mode's characters; none past them
unfoldable pub character_bytes : List (List ℕ) → ℕ → List ℕ
character_bytes table v = utf8_bytes (get_or table v [])
