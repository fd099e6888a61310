-- The states of the scan of an input, byte by byte.
-- Assumes nothing.
use Rattle.std.specs.Prelude.{ℕ, ◌+◌, ◌-◌, ◌*◌, cond, List, Option, None, Some, ltb, eqb}
use Rattle.std.specs.List.{fold}
use Rattle.lister.specs.declared.Numeral.{Numeral}
use Rattle.lister.specs.declared.Numeral.TheVariants.{Start, Digits, Ended, Broken}
use Rattle.lister.specs.Numeral.{is_digit}

-- one digit more; above 32 a number stays as it is
abbrev pub grown : ℕ → ℕ → ℕ
grown n digit = cond (ltb 32 n) n (10 * n + digit)

-- one byte more
unfoldable pub scanned : Numeral → ℕ → Numeral
scanned Start b = cond (is_digit b) (Digits (b - 48)) Broken
scanned (Digits n) b = cond (is_digit b) (Digits (grown n (b - 48))) (cond (eqb b 10) (Ended n) Broken)
scanned (Ended n) b = Broken
scanned Broken b = Broken

-- the bytes of a list, one after the other
abbrev pub scanned_all : Numeral → List ℕ → Numeral
scanned_all state bytes = fold scanned state bytes

-- the number of an input in this state, where it is one; some number above 32 where it is above 32
abbrev pub scan_number : Numeral → Option ℕ
scan_number Start = None
scan_number (Digits n) = Some n
scan_number (Ended n) = Some n
scan_number Broken = None
