-- The side lister's answer by the scan.
-- Assumes nothing.
use Prim.Native.Nat.{ℕ, ◌≤◌, ◌<◌, min}
use mathlib.Core.Path.{◌≡◌, refl, ◌∙◌, sym, ap}
use mathlib.Core.List.{List}
use native.Mathlib.Omega.{arith}
use native.Mathlib.Decide.{dec_lt}
use borrow.Author.Tests.{lt-leb, le-leb}
use Rattle.std.proofs.Common.{Option, None, Some}
use Rattle.lister.specs.declared.Numeral.TheVariants.{Start}
use Rattle.lister.specs.Numeral.{number_in}
use Rattle.lister.specs.Scanning.{scanned_all, scan_number}
use Rattle.lister.specs.Listing.{refused_line, side_text, number_text, listing}
use Rattle.lister.proofs.Scanning.{up_to_33, scan_number_lem}

-- above 32 is no side-version
refused_above : (v : ℕ) → 32 < v → refused_line ≡ side_text v
unfolding side_text
refused_above v h =
    let l : 1 ≤ v = omega arith in
    rw (le-leb 1 v l, lt-leb v 32 h)

-- two numbers that are the same side-version, or none, have the same text
side_text_same : (m n : ℕ) → min m 33 ≡ min n 33 → side_text m ≡ side_text n
side_text_same m n e =
    elim (dec_lt 32 m) [
      | yes h ↦ sym (refused_above m h) ∙ refused_above n (omega arith)
      | no h ↦
          let same : m ≡ n = omega arith in
          ap side_text same
    ]

number_text_same : (m n : Option ℕ) → up_to_33 m ≡ up_to_33 n → number_text m ≡ number_text n
unfolding number_text
number_text_same (Some m) (Some n) e =
    let same : min m 33 ≡ min n 33 = cc in
    side_text_same m n same
number_text_same (Some m) None e =
    let apart : ⊥ = cc in
    absurd apart
number_text_same None (Some n) e =
    let apart : ⊥ = cc in
    absurd apart
number_text_same None None e = refl

-- the text by the scan is what the side lister prints
pub scan_listing : (input : List ℕ) → number_text (scan_number (scanned_all Start input)) ≡ listing input
unfolding listing
scan_listing input = number_text_same (scan_number (scanned_all Start input)) (number_in input) (scan_number_lem input)
