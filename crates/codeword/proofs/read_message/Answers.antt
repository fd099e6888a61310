use Prim.Native.Nat.{ℕ, ◌+◌, ◌%◌}
use mathlib.Core.Path.{◌≡◌, sym, ap, ◌∙◌}
use mathlib.Core.Bool.{Bool, true, ◌||◌, or-true, or-false}
use native.Mathlib.Omega.{arith}
use lib.ListN.{get_or}
use borrow.Author.Tests.{eq-eqb, ne_eqb}
use Rattle.codeword.proofs.Rows.{none_message, some_check}
use Rattle.codeword.proofs.Gathering.{gathered_start, gathered_check, gathered_net, gathered_spare, gathered_as}
use Rattle.codeword.proofs.Gathering.{message_read}
use Rattle.codeword.proofs.read_message.Goals as goal
use Rattle.codeword.proofs.read_message.Goals.{else-is_none, then-is_none, then-m-a, else-m-a+then-v-eq1, else-m-a+else-v-eq1}

pub loop-j-init : goal.loop-j-init
loop-j-init c = (omega arith, gathered_start c.args.a c.args.work.now)

pub loop-j-preserved : goal.loop-j-preserved
loop-j-preserved c =
    let laid = c.requires.0 in
    let now = c.loop-j in
    let s = now.invariant.1 in
    let x : ℕ = get_or now.work (c.args.a.word + now.j) 0 in
    let r = c.pivot_row in
    let e = c.is_none.ensures in
    elim c.if-is_none.branch [
      | then-is_none w ↦ let t = none_message c.args.a c.loop-j.work c.loop-j.j r.result r.ensures e w.if-is_none.true in (
        omega (arith, w.m-is, now.invariant.0),
        elim w.if-m-a.branch [
          | then-m-a net ↦ gathered_as (gathered_net laid s (omega arith) t net.if-m-a.true) (w.work-is ∙ net.work-is)
              (w.spare-is ∙ net.spare-is) w.m-is
          | else-m-a+then-v-eq1 one ↦ gathered_as
              (gathered_spare laid s (omega arith) t one.if-m-a.false true
              (sym (ap (λ (b : Bool). now.spare || b) (eq-eqb (x % 2) 1 one.if-v-eq1.true) ∙ or-true now.spare)))
              (w.work-is ∙ one.work-is) (w.spare-is ∙ one.spare-is) w.m-is
          | else-m-a+else-v-eq1 none ↦ gathered_as
              (gathered_spare laid s (omega arith) t none.if-m-a.false now.spare
              (sym (ap (λ (b : Bool). now.spare || b) (ne_eqb (x % 2) 1 none.if-v-eq1.false) ∙ or-false now.spare)))
              (w.work-is ∙ none.work-is) (w.spare-is ∙ none.spare-is) w.m-is
        ],
      )
      | else-is_none w ↦ let t = some_check c.args.a c.loop-j.work c.loop-j.j r.result r.ensures e w.if-is_none.false in (
        omega (arith, w.m-is, now.invariant.0),
        gathered_as (gathered_check laid s (omega arith) t) w.work-is w.spare-is w.m-is,
      )
    ]

pub returns : goal.returns
returns c =
    let end : c.loop-j.j ≡ c.args.a.gross = omega arith in
    message_read c.requires.0 (rw end at c.loop-j.invariant.1)
