-- The checks in the work buffer: they stay where their area does, and a staged word is judged by parities.
-- Assumes nothing.
use Prim.Native.Nat.{ℕ, ◌+◌, ◌-◌, ◌*◌, ◌%◌, ◌≤◌, ◌<◌}
use mathlib.Core.Path.{◌≡◌, refl, sym, ap, ap₂, ◌∙◌}
use mathlib.Core.Bool.{Bool, ◌&&◌}
use mathlib.Core.List.{List, [], ◌∷◌}
use native.Mathlib.Omega.{arith}
use lib.Dec.{ltb, eqb}
use lib.ListN.{length}
use Rattle.std.specs.Prelude.{Option, Some, None, MatchOption}
use borrow.Author.Tests.{lt-ltb, le-ltb}
use Rattle.symbology.specs.Ranges.{tally, lowest, found}
use Rattle.symbology.specs.Matrix.{check_of}
use Rattle.symbology.specs.Rule.{unmet}
use Rattle.laws.specs.Gf2.{dot}
use Rattle.laws.proofs.Ranges.{those_ext, lowest_none, lowest_is}
use Rattle.laws.proofs.Agree.{checks_same}
use Rattle.lent.specs.declared.Areas.{Areas}
use Rattle.lent.specs.Changes.{Span, Outside, Changed}
use Rattle.lent.specs.Work.{marks_span, Laid}
use Rattle.lent.proofs.Work.{word_kept}
use Rattle.dense.specs.Dense.{dense_bits}
use Rattle.dense.proofs.Dense.{row_same, rows_kept, packed_unmet}
use Rattle.checks.specs.Checks.{stands_in, checks_span, checks_in, unmet_in, InNoCheck, NextCheck, Staged}

-- the checks lie outside these spans
abbrev pub ChecksOutside : Areas → List Span → Type 0
ChecksOutside a ss = (q : ℕ) → (checks_span a).from ≤ q → q < (checks_span a).to → Outside ss q

module _ {a : Areas} {ss : List Span} {before after : List ℕ} {room : ℕ} (laid : Laid a room) (c : Changed ss before after)
    (out : ChecksOutside a ss) where
  -- the bits of a check stay
  pub stands_kept : (i : ℕ) → i < a.checks → (j : ℕ) → j < a.gross → stands_in a after i j ≡ stands_in a before i j
  unfolding stands_in
  stands_kept = rows_kept laid c (λ q h. out q (omega arith) h)

  -- so does a check
  pub check_kept : (i : ℕ) → i < a.checks → check_of a.gross (stands_in a after) i ≡ check_of a.gross (stands_in a before) i
  unfolding check_of
  check_kept i h = those_ext a.gross (stands_in a after i) (stands_in a before i) (stands_kept i h)

  -- and so do all
  pub checks_kept : checks_in a after ≡ checks_in a before
  checks_kept = checks_same a.checks a.gross (stands_in a after) (stands_in a before) stands_kept

-- Whether a check is unmet stays where the checks and the word do.
pub unmet_kept : {a : Areas} {ss : List Span} {before after : List ℕ} → Laid a (length before) → Changed ss before after
    → ChecksOutside a ss
    → ((i : ℕ) → a.word ≤ i → i < a.word + a.gross → Outside ss i)
    → (i : ℕ) → i < a.checks → unmet_in a after i ≡ unmet_in a before i
unmet_kept laid c out beside i h = ap₂ unmet (check_kept laid c out i h) (word_kept laid c beside)

-- The parity of a row and the staged word tells whether the check is unmet.
pub staged_unmet : {a : Areas} {room : ℕ} (work : List ℕ) → Laid a room → Staged a work → (i : ℕ)
    → tally (dot (a.stride * 8) (dense_bits work a.stride i) (dense_bits work a.stride a.checks)) ≡ unmet_in a work i
unfolding stands_in
staged_unmet {a} work laid p i = packed_unmet a.stride i a.checks a.word a.gross work laid.wide p

-- The word is still staged where only marks are changed.
pub staged_kept : {a : Areas} {room : ℕ} {before after : List ℕ} → Laid a room → Changed (marks_span a ∷ []) before after
    → Staged a before → Staged a after
staged_kept {a} {before = before} {after = after} laid c p j h =
    row_same before after a.stride a.checks j h (λ q l g. c.kept q (omega arith))
    ∙ p j h
    ∙ ap (λ (v : ℕ). ltb j a.gross && eqb (v % 2) 1) (sym (c.kept (a.word + j) (omega arith)))

-- What a search for a check answers is what the search over the numbers of the checks is defined to find.
pub next_lowest : (a : Areas) (work : List ℕ) (j from : ℕ) (r : Option ℕ) → from ≤ a.checks
    → MatchOption r (InNoCheck a work j from a.checks) (NextCheck a work j from)
    → r ≡ found a.checks (lowest (λ i. stands_in a work i j) (a.checks - from) from)
next_lowest a work j from None le none =
    let f : ℕ → Bool = λ i. stands_in a work i j in
    let n : ℕ = a.checks - from in
    let end : a.checks ≤ lowest f n from = omega (arith, lowest_none f n from (λ i b c. none i b (omega arith))) in
    rw (le-ltb (lowest f n from) a.checks end) refl
next_lowest a work j from (Some i) le next =
    let f : ℕ → Bool = λ i. stands_in a work i j in
    let is : lowest f (a.checks - from) from ≡ i =
    lowest_is f (a.checks - from) from i next.least (omega (arith, next.inside)) next.none_before (λ h. next.there) in
    rw (is, lt-ltb i a.checks next.inside) refl
