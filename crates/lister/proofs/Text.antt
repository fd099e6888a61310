-- Texts stored and put behind one another.
-- Assumes nothing.
use Prim.Native.Nat.{ℕ, ◌+◌, ◌-◌, ◌≤◌, ◌<◌}
use mathlib.Core.Path.{◌≡◌}
use mathlib.Core.List.{List, [], ◌∷◌, ◌++◌, append_assoc}
use native.Mathlib.Numerals.{add-one}
use native.Mathlib.Omega.{arith}
use lib.ListN.{length, get_or, take, drop, set}
use lib.Seq.{sets, drop-cons}
use Rattle.std.proofs.lemmas.List.{take_all}
use Rattle.lister.specs.Decimal.{decimal}
use Rattle.lister.specs.Listing.{cores_after, cores_line}

-- the next byte of a text is stored, and the others are left
pub stored_next : (text out : List ℕ) (at : ℕ) → at < length text
    → sets (set out at (get_or text at 0)) (at + 1) (drop (at + 1) text) ≡ sets out at (drop at text)
stored_next text out at h = rw (add-one at, drop-cons text at 0 h)

-- a line of cores, of which there is none
pub line_none : (cs before after : List ℕ) → length cs < 1 → after ≡ before ++ (10 ∷ []) → after ≡ before ++ cores_line cs
unfolding cores_line
line_none [] before after h e = e
line_none (c ∷ cs) before after h e = absurd (omega arith)

-- a line of cores, of which the first is put, then the others, then the newline
pub line_all : (cs before first all after : List ℕ) (i : ℕ)
    → 1 ≤ length cs
    → length (take (length cs - 1) (drop 1 cs)) ≤ i
    → first ≡ before ++ decimal (get_or cs 0 0)
    → all ≡ first ++ cores_after (take i (take (length cs - 1) (drop 1 cs)))
    → after ≡ all ++ (10 ∷ [])
    → after ≡ before ++ cores_line cs
unfolding cores_line
line_all [] before first all after i h most e f g = absurd (omega arith)
line_all (c ∷ cs) before first all after i h most e f g =
    let others : take (length (c ∷ cs) - 1) cs ≡ cs = take_all (length (c ∷ cs) - 1) cs (omega arith) in
    let enough : length cs ≤ i = rw others at most in
    let passed : take i cs ≡ cs = take_all i cs enough in
    rw (g, f, e, others, passed) (simp append_assoc)
