-- The stages of error correction put together, and said of the matrix whose checks the buffer holds.
-- Assumes nothing.
use Prim.Native.Nat.{ℕ}
use mathlib.Core.Path.{◌≡◌, ap, ◌∙◌, subst⁻¹}
use mathlib.Core.Bool.{Bool}
use mathlib.Core.List.{List}
use native.Mathlib.Omega.{arith}
use lib.ListN.{length, take, drop}
use Rattle.symbology.specs.Bits.{AllBits, any_one}
use Rattle.symbology.specs.Matrix.{BitMatrix, checks_of}
use Rattle.symbology.specs.Rule.{unmet_count, repairs_of, places_of, last_word, stuck}
use Rattle.symbology.specs.Codeword.{codeword, message_bits}
use Rattle.laws.proofs.Agree.{checks_same, codeword_same, message_same}
use Rattle.lent.specs.declared.Areas.{Areas}
use Rattle.lent.specs.Work.{Laid, word_in, net_in}
use Rattle.lent.proofs.Changes.{changed_wider, changed_then}
use Rattle.lent.proofs.Work.{laid_as, word_kept, net_kept}
use Rattle.dense.specs.Dense.{dense_bits}
use Rattle.checks.specs.Checks.{stands_in, checks_in, HoldsChecks}
use Rattle.checks.proofs.Checks.{stands_kept}
use Rattle.mending.specs.Mending.{MendedBy}
use Rattle.elimination.specs.Reduced.{Eliminated, HoldsElimination}
use Rattle.codeword.specs.Columns.{WordFilled, MessageRead}
use Rattle.coding.specs.Stages.{WordEncoded, WordMended, MessageTaken}

-- ---- the stages behind an elimination

module _ {a : Areas} {before reduced : List ℕ} (laid : Laid a (length before)) (e : Eliminated a before reduced) where
  -- what filling the word asks for
  pub fill_fits : AllBits (net_in a before) → Laid a (length reduced) × HoldsElimination a reduced × AllBits (net_in a reduced)
  fill_fits bits = (
    laid_as laid e.changed.long,
    record { matrix = dense_bits before a.stride; whole = e.whole },
    subst⁻¹ AllBits (net_kept laid e.changed (λ q h g. omega arith)) bits,
  )

  pub encoded : {after : List ℕ} → WordFilled a reduced after → WordEncoded a (stands_in a before) before after
  unfolding stands_in
  encoded w =
      record {
        changed =
            changed_then (changed_wider e.changed (λ q o. (o.0, (o.1.1.0, o.1.1.1.1))))
            (changed_wider w.changed (λ q o. (o.1.0, (o.1.1.1.0, tt))));
        word_is =
            w.word_is (dense_bits before a.stride) e.whole
            ∙ ap (codeword a.checks a.gross (dense_bits before a.stride)) (net_kept laid e.changed (λ q h g. omega arith));
      }

  pub taken : {after : List ℕ} {spare : Bool} → MessageRead a reduced after spare → MessageTaken a (stands_in a before) before after spare
  unfolding stands_in
  taken r =
      let m : BitMatrix = dense_bits before a.stride in
      let word : word_in a reduced ≡ word_in a before = word_kept laid e.changed (λ q h g. omega arith) in
      record {
        changed =
            changed_then (changed_wider e.changed (λ q o. (o.0, (o.1.0, (o.1.1.0, tt)))))
            (changed_wider r.changed (λ q o. o.1.1.1));
        message_is =
            r.message_is m e.whole ∙ ap (λ (w : List ℕ). take a.net (message_bits a.checks a.gross m w)) word;
        spare_is =
            r.spare_is m e.whole ∙ ap (λ (w : List ℕ). any_one (drop a.net (message_bits a.checks a.gross m w))) word;
      }

-- ---- of the matrix whose checks the buffer holds

module _ {a : Areas} {m : BitMatrix} {before after : List ℕ} (holds : HoldsChecks a m before) where
  pub encoded_as : WordEncoded a (stands_in a before) before after → WordEncoded a m before after
  encoded_as e =
      record {
        changed = e.changed;
        word_is = e.word_is ∙ codeword_same a.checks a.gross (stands_in a before) m holds (net_in a before);
      }

  pub taken_as : {spare : Bool} → MessageTaken a (stands_in a before) before after spare → MessageTaken a m before after spare
  taken_as t =
      let k : ℕ = a.checks in
      let n : ℕ = a.gross in
      let w : List ℕ = word_in a before in
      let same : message_bits k n (stands_in a before) w ≡ message_bits k n m w = message_same k n (stands_in a before) m holds w in
      record {
        changed = t.changed;
        message_is = t.message_is ∙ ap (take a.net) same;
        spare_is = t.spare_is ∙ ap (λ (bs : List ℕ). any_one (drop a.net bs)) same;
      }

  pub mended_as : {room repairs first : ℕ} {stuck_there : Bool} → Laid a room → MendedBy a before after repairs first stuck_there
      → WordMended a m before after repairs first stuck_there
  mended_as laid b =
      let w : List ℕ = word_in a before in
      let same : checks_in a before ≡ checks_of a.checks a.gross m =
      checks_same a.checks a.gross (stands_in a before) m holds in
      record {
        changed = changed_wider b.changed (λ q o. o.1);
        word_is = b.word_is ∙ ap (λ (cs : List (List ℕ)). last_word cs w) same;
        repairs_are = b.repairs_are ∙ ap (λ (cs : List (List ℕ)). length (repairs_of cs w)) same;
        places_are = b.places_are ∙ ap (λ (cs : List (List ℕ)). places_of (repairs_of cs w)) same;
        first_is = b.first_is ∙ ap (λ (cs : List (List ℕ)). unmet_count cs w) same;
        bounded = b.bounded;
        stuck_is = b.stuck_is ∙ ap (λ (cs : List (List ℕ)). stuck cs w) same;
        holds = λ i h j g. stands_kept laid b.changed (λ q l k. omega arith) i h j g ∙ holds i h j g;
      }
