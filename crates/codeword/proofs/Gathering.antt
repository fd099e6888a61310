-- The bits of the message columns gathered column by column: the first as net bits, the others as one test.
-- Assumes nothing.
use Prim.Native.Nat.{ℕ, ◌+◌, ◌*◌, ◌%◌, ◌≤◌, ◌<◌}
use mathlib.Core.Path.{◌≡◌, refl, sym, ap, ◌∙◌}
use mathlib.Core.Bool.{Bool, true, false, ◌||◌, or-false}
use mathlib.Core.List.{List, [], ◌∷◌, ◌++◌, map, map-append}
use native.Mathlib.Numerals.{add-one}
use native.Mathlib.Omega.{arith}
use lib.Dec.{leb, eqb}
use lib.ListN.{length, get_or, take, drop, set, length-append, length-map, drop_of_length-le, get_or-append}
use lib.Seq.{length-take-le, get_or-take, get_or-append_seam, drop-append-le}
use Rattle.symbology.specs.Ranges.{those}
use Rattle.symbology.specs.Bits.{any_one}
use Rattle.symbology.specs.Codeword.{message_columns, message_bits}
use Rattle.laws.proofs.Ranges.{those_in, those_out}
use Rattle.laws.proofs.Spare.{enough_columns}
use Rattle.laws.proofs.Stores.{store_next}
use Rattle.lent.specs.declared.Areas.{Areas}
use Rattle.lent.specs.Changes.{Changed}
use Rattle.lent.specs.Work.{net_span, Laid, word_in}
use Rattle.lent.proofs.Buffer.{part_is, part_at, number_same}
use Rattle.lent.proofs.Changes.{changed_none, changed_set}
use Rattle.lent.proofs.Work.{net_inside}
use Rattle.codeword.specs.Columns.{is_message, MessageRead}
use Rattle.codeword.proofs.Columns.{all_messages}

-- ---- one more bit

any_snoc : (bs : List ℕ) (b : ℕ) → any_one (bs ++ (b ∷ [])) ≡ (any_one bs || eqb (b % 2) 1)
unfolding any_one
any_snoc [] b = or-false (eqb (b % 2) 1)
any_snoc (x ∷ bs) b =
    ap (λ (t : Bool). eqb (x % 2) 1 || t) (any_snoc bs b) ∙ sym (or_assoc (eqb (x % 2) 1) (any_one bs) (eqb (b % 2) 1))
  where
    or_assoc : (p q r : Bool) → ((p || q) || r) ≡ (p || (q || r))
    or_assoc true q r = refl
    or_assoc false q r = refl

-- one bit behind n bits or fewer does not count
any_first : (n : ℕ) (bs : List ℕ) (b : ℕ) → length bs < n → any_one (drop n (bs ++ (b ∷ []))) ≡ any_one (drop n bs)
any_first n bs b h =
    ap any_one (drop_of_length-le (bs ++ (b ∷ [])) {i = n} (omega (arith, length-append bs (b ∷ []))))
    ∙ sym (ap any_one (drop_of_length-le bs {i = n} (omega arith)))

-- one behind n bits or more does
any_later : (n : ℕ) (bs : List ℕ) (b : ℕ) → n ≤ length bs → any_one (drop n (bs ++ (b ∷ []))) ≡ (any_one (drop n bs) || eqb (b % 2) 1)
any_later n bs b h = ap any_one (drop-append-le n bs (b ∷ []) h) ∙ any_snoc (drop n bs) b

-- ---- the columns passed

-- the bits of the message columns up to j
abbrev gathered_to : Areas → List ℕ → ℕ → List ℕ
gathered_to a work j = map (λ c. get_or (word_in a work) c 0) (those j (is_message a work))

pub record GatheredTo (a : Areas) (before after : List ℕ) (j m : ℕ) (spare : Bool) : Type 0 where
  pub changed : Changed (net_span a ∷ []) before after
  pub counted : m ≡ length (gathered_to a before j)
  pub stored : (i : ℕ) → i < a.net → i < m → get_or after (a.message + i) 0 ≡ get_or (gathered_to a before j) i 0
  pub spare_is : spare ≡ any_one (drop a.net (gathered_to a before j))

pub gathered_start : (a : Areas) (work : List ℕ) → GatheredTo a work work 0 0 false
unfolding those any_one
gathered_start a work =
    record {
      changed = changed_none (net_span a ∷ []) work;
      counted = refl;
      stored = λ i h l. absurd (omega arith);
      spare_is = sym (ap any_one (drop_of_length-le [] {i = a.net} (omega arith)));
    }

module _ {a : Areas} {before after : List ℕ} {j m : ℕ} {spare : Bool} (laid : Laid a (length before))
    (s : GatheredTo a before after j m spare) (h : j < a.gross) where
  -- numbers and word stay
  number_kept : is_message a after j ≡ is_message a before j
  number_kept =
      ap (leb a.checks) (number_same before after (a.numbers + 2 * j)
      (s.changed.kept (a.numbers + 2 * j) (omega arith)) (s.changed.kept (a.numbers + 2 * j + 1) (omega arith)))

  bit : ℕ
  bit = get_or (word_in a before) j 0

  bit_kept : get_or after (a.word + j) 0 ≡ bit
  unfolding bit
  bit_kept =
      s.changed.kept (a.word + j) (omega arith) ∙ sym (part_at before a.word a.gross j h)

  -- a message column gives one more bit
  more : is_message a before j ≡ true → gathered_to a before (j + 1) ≡ gathered_to a before j ++ (bit ∷ [])
  unfolding bit
  more t =
      ap (λ (k : ℕ). gathered_to a before k) (add-one j)
      ∙ ap (map (λ c. get_or (word_in a before) c 0)) (those_in j (is_message a before) t)
      ∙ map-append (λ c. get_or (word_in a before) c 0) (those j (is_message a before)) (j ∷ [])

  -- a check column gives none
  pub gathered_check : is_message a after j ≡ false → GatheredTo a before after (j + 1) m spare
  gathered_check t =
      let same : gathered_to a before (j + 1) ≡ gathered_to a before j =
      ap (λ (k : ℕ). gathered_to a before k) (add-one j)
      ∙ ap (map (λ c. get_or (word_in a before) c 0)) (those_out j (is_message a before) (sym number_kept ∙ t)) in
      record {
        changed = s.changed;
        counted = s.counted ∙ sym (ap length same);
        stored = λ i g l. s.stored i g l ∙ sym (ap (λ (bs : List ℕ). get_or bs i 0) same);
        spare_is = s.spare_is ∙ sym (ap (λ (bs : List ℕ). any_one (drop a.net bs)) same);
      }

  counted_more : is_message a before j ≡ true → m + 1 ≡ length (gathered_to a before (j + 1))
  counted_more t = omega (arith, s.counted, ap length (more t), length-append (gathered_to a before j) (bit ∷ []))

  -- a bit that is there already
  old_bit : (t : is_message a before j ≡ true) (i : ℕ) → i < m
      → get_or (gathered_to a before j) i 0 ≡ get_or (gathered_to a before (j + 1)) i 0
  old_bit t i l =
      sym (ap (λ (bs : List ℕ). get_or bs i 0) (more t)
      ∙ get_or-append (gathered_to a before j) (bit ∷ []) 0 i (omega (arith, s.counted)))

  -- the new bit
  new_bit : (t : is_message a before j ≡ true) → get_or (gathered_to a before (j + 1)) m 0 ≡ bit
  new_bit t =
      ap (λ (bs : List ℕ). get_or bs m 0) (more t)
      ∙ ap (λ (i : ℕ). get_or (gathered_to a before j ++ (bit ∷ [])) i 0) s.counted
      ∙ get_or-append_seam (gathered_to a before j) bit [] 0

  -- a message column that has a net bit
  pub gathered_net : is_message a after j ≡ true → m < a.net
      → GatheredTo a before (set after (a.message + m) (get_or after (a.word + j) 0)) (j + 1) (m + 1) spare
  gathered_net t l =
      let t' : is_message a before j ≡ true = sym number_kept ∙ t in
      let v : ℕ = get_or after (a.word + j) 0 in
      record {
        changed = changed_set s.changed (a.message + m) v (λ o. omega (arith, o.0 (omega arith)));
        counted = counted_more t';
        stored = λ i g q.
            store_next (λ k w. k < a.net → w ≡ get_or (gathered_to a before (j + 1)) k 0) after a.message m v
            (omega (arith, s.changed.long, net_inside laid)) (λ k b n. s.stored k n b ∙ old_bit t' k b)
            (λ n. bit_kept ∙ sym (new_bit t')) i q g;
        spare_is =
            s.spare_is
            ∙ sym (ap (λ (bs : List ℕ). any_one (drop a.net bs)) (more t')
            ∙ any_first a.net (gathered_to a before j) bit (omega (arith, s.counted)));
      }

  -- a spare message column
  pub gathered_spare : is_message a after j ≡ true → a.net ≤ m → (found : Bool) → found ≡ (spare || eqb (get_or after (a.word + j) 0 % 2) 1)
      → GatheredTo a before after (j + 1) (m + 1) found
  gathered_spare t l found e =
      let t' : is_message a before j ≡ true = sym number_kept ∙ t in
      record {
        changed = s.changed;
        counted = counted_more t';
        stored = λ i g q. s.stored i g (omega arith) ∙ old_bit t' i (omega arith);
        spare_is =
            e
            ∙ ap (λ (b : Bool). b || eqb (get_or after (a.word + j) 0 % 2) 1) s.spare_is
            ∙ ap (λ (x : ℕ). any_one (drop a.net (gathered_to a before j)) || eqb (x % 2) 1) bit_kept
            ∙ sym (ap (λ (bs : List ℕ). any_one (drop a.net bs)) (more t')
            ∙ any_later a.net (gathered_to a before j) bit (omega (arith, s.counted)));
      }

-- a state under other names
pub gathered_as : {a : Areas} {before after after' : List ℕ} {j m m' : ℕ} {spare spare' : Bool} → GatheredTo a before after j m spare
    → after' ≡ after → spare' ≡ spare → m' ≡ m → GatheredTo a before after' j m' spare'
gathered_as s e f g = rw (e, f, g) s

-- ---- the message

-- What is gathered are the message columns of the matrix whose elimination the buffer holds, of which there are enough.
pub message_read : {a : Areas} {before after : List ℕ} {m : ℕ} {spare : Bool} → Laid a (length before)
    → GatheredTo a before after a.gross m spare → MessageRead a before after spare
unfolding message_bits
message_read {a} {before} {after} laid g =
    let bits : List ℕ = gathered_to a before a.gross in
    record {
      changed = g.changed;
      message_is = λ m e.
          let same : bits ≡ message_bits a.checks a.gross m (word_in a before) =
          ap (map (λ j. get_or (word_in a before) j 0)) (all_messages a m before e) in
          let enough : a.net ≤ length bits =
          (let long = length-map (message_columns a.checks a.gross m) (λ j. get_or (word_in a before) j 0) in
          omega (arith, ap length same, long, enough_columns a.checks a.gross m, laid.parts)) in
          part_is after a.message a.net (take a.net bits) (omega (arith, g.changed.long, net_inside laid))
          (length-take-le a.net bits enough)
          (λ i h. g.stored i h (omega (arith, g.counted)) ∙ sym (get_or-take a.net bits i 0 h))
          ∙ ap (take a.net) same;
      spare_is = λ m e.
          g.spare_is
          ∙ ap (λ (l : List ℕ). any_one (drop a.net (map (λ j. get_or (word_in a before) j 0) l))) (all_messages a m before e);
    }
