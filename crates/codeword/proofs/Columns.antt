-- Message and check columns as the numbers of an elimination tell them apart: those of the definition.
-- Assumes nothing.
use Prim.Native.Nat.{ℕ, ◌+◌, ◌*◌, ◌≤◌, ◌<◌}
use mathlib.Core.Path.{◌≡◌, sym, ap, ◌∙◌}
use mathlib.Core.Bool.{true, false, not}
use mathlib.Core.List.{List, [], ◌∷◌}
use native.Mathlib.Decide.{dec_lt}
use native.Mathlib.Omega.{arith}
use lib.Dec.{leb, ltb}
use lib.ListN.{length}
use borrow.Author.Tests.{lt-ltb, le-ltb, lt-leb, le-leb, leb-false, not-false}
use Rattle.symbology.specs.Ranges.{those}
use Rattle.symbology.specs.Matrix.{BitMatrix}
use Rattle.symbology.specs.Codeword.{is_check_column, message_columns}
use Rattle.laws.proofs.Ranges.{those_ext}
use Rattle.lent.specs.declared.Areas.{Areas}
use Rattle.lent.specs.Changes.{Changed}
use Rattle.lent.specs.Work.{word_row_span, word_span, Laid}
use Rattle.lent.proofs.Buffer.{number_same}
use Rattle.dense.specs.Dense.{dense_bits}
use Rattle.dense.proofs.Dense.{rows_kept}
use Rattle.elimination.specs.Reduced.{row_of, EliminatedFrom}
use Rattle.codeword.specs.Columns.{is_message, RowsEnd}

-- at least k is not below k
at_least : (k x : ℕ) → leb k x ≡ not (ltb x k)
at_least k x =
    elim (dec_lt x k) [
      | yes h ↦ lt-leb k x h ∙ sym (ap not (lt-ltb x k h))
      | no h ↦ le-leb k x (omega arith) ∙ sym (ap not (le-ltb x k (omega arith)))
    ]

module _ (a : Areas) (m : BitMatrix) (work : List ℕ) (e : EliminatedFrom a m 0 work) where
  -- Message columns by their numbers are those that are no check columns.
  pub message_is : (c : ℕ) → c < a.gross → is_message a work c ≡ not (is_check_column a.checks a.gross m c)
  message_is c h = at_least a.checks (row_of a work c) ∙ ap not (e.judged c (omega arith) h)

  -- Up to each column they are the same.
  pub messages_are : (c : ℕ) → c ≤ a.gross → those c (is_message a work) ≡ those c (λ j. not (is_check_column a.checks a.gross m j))
  messages_are c h =
      those_ext c (is_message a work) (λ j. not (is_check_column a.checks a.gross m j)) (λ j l. message_is j (omega arith))

  -- all message columns
  pub all_messages : those a.gross (is_message a work) ≡ message_columns a.checks a.gross m
  unfolding message_columns
  all_messages = messages_are a.gross (omega arith)

  -- After an elimination the row of a check column is 0 behind it.
  pub rows_end : RowsEnd a work
  rows_end c d h z l g =
      let check : is_check_column a.checks a.gross m c ≡ true =
      not-false (is_check_column a.checks a.gross m c) (sym (message_is c h) ∙ z) in
      e.reduced.high c (omega arith, h, check) d l g

-- ---- a buffer of which only the word and the row behind the rows are changed

module _ (a : Areas) (before after : List ℕ) (laid : Laid a (length before))
    (w : Changed (word_row_span a ∷ word_span a ∷ []) before after) where
  -- Numbers stay.
  pub row_kept : (c : ℕ) → row_of a after c ≡ row_of a before c
  row_kept c =
      let at : ℕ = a.numbers + 2 * c in
      number_same before after at (w.kept at (omega arith)) (w.kept (at + 1) (omega arith))

  pub message_kept : (c : ℕ) → is_message a after c ≡ is_message a before c
  message_kept c = ap (leb a.checks) (row_kept c)

  -- Rows stay.
  pub bits_kept : (i : ℕ) → i < a.checks → (c : ℕ) → c < a.gross → dense_bits after a.stride i c ≡ dense_bits before a.stride i c
  bits_kept = rows_kept laid w (λ q h. omega arith)

  -- The row of a check column stays.
  pub own_kept : (c d : ℕ) → is_message a before c ≡ false → d < a.gross
      → dense_bits after a.stride (row_of a after c) d ≡ dense_bits before a.stride (row_of a before c) d
  own_kept c d z g =
      ap (λ (i : ℕ). dense_bits after a.stride i d) (row_kept c)
      ∙ bits_kept (row_of a before c) (leb-false a.checks (row_of a before c) z) d g

  -- The rows of check columns end as before.
  pub ends_kept : RowsEnd a before → RowsEnd a after
  ends_kept ends c d h z l g =
      let z' : is_message a before c ≡ false = sym (message_kept c) ∙ z in own_kept c d z' g ∙ ends c d h z' l g
