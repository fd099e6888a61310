-- The bytes of a code.
-- Assumes nothing.
use Rattle.std.specs.Prelude.{ℕ, List, [], ◌∷◌, Bool, true, false}
use Rattle.symbology.specs.declared.Expected as expected
use Rattle.characters.specs.declared.CodeBytes.{CodeBytes}
use Rattle.characters.specs.declared.CodeBytes.TheVariants.{Character, Byte}

-- those of a character of Table 12, or the byte of a run
abbrev pub bytes_in : CodeBytes → List ℕ
bytes_in (Character bytes) = bytes.now
bytes_in (Byte byte) = byte ∷ []

-- is it the byte of a run
abbrev pub is_byte : CodeBytes → Bool
is_byte (Character bytes) = false
is_byte (Byte byte) = true

-- is a byte of a run expected
abbrev pub is_run : expected.Expected → Bool
is_run (expected.TheVariants.Byte left) = true
is_run e = false
