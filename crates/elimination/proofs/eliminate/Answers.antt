use Prim.Native.Nat.{ℕ, suc, ◌+◌, ◌-◌, ◌*◌, ◌≤◌}
use mathlib.Core.Path.{◌≡◌, sym, subst, ◌∙◌}
use mathlib.Core.Bool.{Bool}
use mathlib.Core.List.{List}
use native.Mathlib.Omega.{arith}
use lib.ListN.{length, set}
use Rattle.symbology.specs.Ranges.{lowest}
use Rattle.laws.proofs.Ranges.{lowest_before, lowest_to}
use Rattle.lent.specs.Buffer.{stored_number, Cleared}
use Rattle.lent.specs.Work.{Laid}
use Rattle.lent.proofs.Work.{laid_as}
use Rattle.elimination.specs.Reduced.{is_unmarked, is_free, ColumnCleared}
use Rattle.elimination.proofs.Rows.{first_or_all}
use Rattle.elimination.proofs.Eliminated.{Eliminating, eliminating_start, eliminating_all, noted_before, message_step}
use Rattle.elimination.proofs.Eliminated.{pivot_ends, check_step, marked_before}
use Rattle.elimination.proofs.eliminate.Goals as goal
use Rattle.elimination.proofs.eliminate.Goals.{At-loop-j, In-loop-j, After-put_number, After-clear_column}

pub loop-j-init : goal.loop-j-init
loop-j-init c = (λ entry l cleared. eliminating_start l cleared, omega arith, λ i h. absurd (omega arith))

-- ---- at the loop's head
-- the columns from j on are eliminated, from the buffer at entry
so_far : (at-loop : At-loop-j)
    → let args = at-loop.args in Eliminating args.a at-loop.loop-j.j args.work.now at-loop.loop-j.work
so_far at-loop =
    at-loop.loop-j.invariant.0 at-loop.args.work.now at-loop.requires at-loop.clear.ensures

-- ---- a turn, which eliminates column j - 1
-- the columns behind it are eliminated, from every buffer that the clearing makes the loop's first one
behind : (turn : In-loop-j) (entry : List ℕ)
    → let a = turn.args.a in
    Laid a (length entry) → Cleared a.marks (a.marks + a.checks) entry turn.clear.new.xs
    → Eliminating a (suc (turn.loop-j.j - 1)) entry turn.loop-j.work
behind turn entry l cleared =
    let next : suc (turn.loop-j.j - 1) ≡ turn.loop-j.j = omega arith in
    rw next (turn.loop-j.invariant.0 entry l cleared)

-- and so from the buffer at entry
own_behind : (turn : In-loop-j)
    → let args = turn.args in
    Eliminating args.a (suc (turn.loop-j.j - 1)) args.work.now turn.loop-j.work
own_behind turn =
    behind turn turn.args.work.now turn.requires turn.clear.ensures

-- the number stored for the column is that of its row, or the number of rows
stored_row : (c : After-put_number)
    → c.unwrap_or.result ≡ lowest (is_free c.args.a c.loop-j.work (c.loop-j.j - 1)) c.args.a.checks 0
stored_row c =
    c.unwrap_or.ensures
    ∙ first_or_all c.args.a (is_free c.args.a c.loop-j.work (c.loop-j.j - 1)) c.find_row-found.result c.find_row-found.ensures

-- ---- a turn that finds a row: the column is a check column
pub clear_column-requires : goal.clear_column-requires
clear_column-requires c =
    let row = c.in-Some.ensures in
    let same : c.unwrap_or.result ≡ c.in-Some.pivot = omega (arith, stored_row (goal.at.clear_column-requires c).After-put_number, row.0) in
    let ends = pivot_ends c.requires (own_behind (goal.at.clear_column-requires c).In-loop-j) row.0 row.1 in (
      laid_as c.requires (omega (arith, (so_far (goal.at.clear_column-requires c).At-loop-j).changed.long)),
      row.1,
      omega (arith, (so_far (goal.at.clear_column-requires c).At-loop-j).left),
      rw (c.put_number.ensures, same) ends,
    )

-- the row found, noted as the pivot row, is added to the rows that it is to be added to
column_cleared : (c : After-clear_column)
    → let a = c.args.a in
    let j = c.loop-j.j - 1 in
    let pivot = c.in-Some.pivot in
    ColumnCleared a pivot j (stored_number c.loop-j.work (a.numbers + 2 * j) pivot) c.clear_column.new.work
column_cleared c =
    let free : ℕ → Bool = is_free c.args.a c.loop-j.work (c.loop-j.j - 1) in
    let stored = first_or_all c.args.a free c.find_row-found.result c.find_row-found.ensures in
    let same : c.unwrap_or.result ≡ c.in-Some.pivot = c.unwrap_or.ensures ∙ stored ∙ sym c.in-Some.ensures.0 in
    rw (c.put_number.ensures, same) at c.clear_column.ensures

pub first_unmarked-requires : goal.first_unmarked-requires
first_unmarked-requires c =
    let inv = c.loop-j.invariant in
    let pre = c.requires in
    let row = c.in-Some.ensures in
    let column = column_cleared (goal.at.first_unmarked-requires c).After-clear_column in
    let before = own_behind (goal.at.first_unmarked-requires c).In-loop-j in (
      laid_as pre (check_step pre before row.0 row.1 column).changed.long,
      inv.1,
      marked_before pre before row.0 row.1 column inv.1 inv.2,
    )

pub loop-j-preserved-in-Some : goal.loop-j-preserved-in-Some
loop-j-preserved-in-Some c =
    let a = c.args.a in
    let row = c.in-Some.ensures in
    let unmarked : ℕ → Bool = is_unmarked a (set c.clear_column.new.work (a.marks + c.in-Some.pivot) 1) in
    let first : c.unwrap_or-first.result ≡ lowest unmarked a.checks 0 =
    c.unwrap_or-first.ensures ∙ first_or_all a unmarked c.first_unmarked.result c.first_unmarked.ensures in (
      λ entry l z. check_step l (behind (goal.at.loop-j-preserved-in-Some c).In-loop-j entry l z) row.0 row.1
          (column_cleared (goal.at.loop-j-preserved-in-Some c).After-clear_column),
      omega (arith, first, lowest_to unmarked a.checks 0),
      λ i h. lowest_before unmarked a.checks 0 i (omega arith) (omega (arith, first)),
    )

pub loop-j-preserved : goal.loop-j-preserved
loop-j-preserved c =
    let inv = c.loop-j.invariant in
    let row = stored_row (goal.at.loop-j-preserved c).After-put_number in
    let none : c.args.a.checks ≤ c.unwrap_or.result = omega (arith, row, c.in_default.ensures) in (
      λ entry l z. rw c.put_number.ensures (message_step l (behind (goal.at.loop-j-preserved c).In-loop-j entry l z) row none),
      inv.1,
      rw c.put_number.ensures (noted_before c.requires (own_behind (goal.at.loop-j-preserved c).In-loop-j) row inv.1 inv.2),
    )

-- ---- behind the loop
pub returns : goal.returns
returns c =
    let args = c.args in
    let end : c.loop-j.j ≡ 0 = omega arith in
    eliminating_all (subst (λ (j : ℕ). Eliminating args.a j args.work.now c.loop-j.work) end (so_far (goal.at.returns c).At-loop-j))
