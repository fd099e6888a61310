-- The check columns solved one after the other, and the codeword that comes of it.
-- Assumes nothing.
use Prim.Native.Nat.{ℕ, ◌+◌, ◌*◌, ◌/◌, ◌%◌, ◌≤◌, ◌<◌}
use mathlib.Core.Path.{◌≡◌, refl, sym, ap, ap₂, ◌∙◌}
use mathlib.Core.Bool.{Bool, true, false, cond, not, ◌&&◌, xor, and-false}
use mathlib.Core.List.{List, [], ◌∷◌}
use native.Mathlib.Decide.{ℕ_discrete, dec_lt}
use native.Mathlib.Omega.{arith}
use lib.Dec.{ltb, eqb}
use lib.ListN.{length, get_or, set}
use lib.Seq.{get_or-set_same, get_or-set_other}
use borrow.Author.Tests.{eq-eqb, ne_eqb, lt-ltb, le-ltb}
use Rattle.symbology.specs.Ranges.{tally, those}
use Rattle.symbology.specs.Bits.{AllBits}
use Rattle.symbology.specs.Matrix.{BitMatrix}
use Rattle.symbology.specs.Codeword.{is_check_column, codeword}
use Rattle.symbology.proofs.Ranges.{clash}
use Rattle.laws.proofs.Ranges.{by, tally_le}
use Rattle.laws.proofs.Bits.{bit_tally}
use Rattle.laws.proofs.Gf2.{parity_short, dot_ext, bit_at, xor_none, none_xor}
use Rattle.laws.specs.Gf2.{dot}
use Rattle.laws.proofs.Codeword.{codeword_filled}
use Rattle.lent.specs.declared.Areas.{Areas}
use Rattle.lent.specs.Changes.{Changed}
use Rattle.lent.specs.Work.{word_row_span, word_span, Laid, word_in, net_in}
use Rattle.lent.proofs.Buffer.{length_part, part_at, part_past}
use Rattle.lent.proofs.Changes.{changed_wider, changed_set, changed_then}
use Rattle.lent.proofs.Work.{word_inside}
use Rattle.dense.specs.Dense.{dense_bits, Turned, Packed, PackedIn}
use Rattle.dense.proofs.Dense.{in_row, row_same}
use Rattle.elimination.specs.Reduced.{row_of, is_used, EliminatedFrom}
use Rattle.codeword.specs.Columns.{is_message, RowsEnd, ChecksZero, word_bit, Placed, Solved, WordFilled}
use Rattle.codeword.proofs.Columns.{message_is, messages_are, message_kept, own_kept}

-- ---- the columns passed

-- the row of a check column
abbrev row_bits : Areas → List ℕ → ℕ → ℕ → Bool
row_bits a work c = dense_bits work a.stride (row_of a work c)

-- the check columns up to c are solved, and the word stands as the row behind the rows
pub record SolvedTo (a : Areas) (before after : List ℕ) (c : ℕ) : Type 0 where
  pub changed : Changed (word_row_span a ∷ word_span a ∷ []) before after
  pub packed : Packed a.stride a.checks a.word a.gross after
  pub kept : (d : ℕ) → d < a.gross → is_message a before d ≡ true → get_or after (a.word + d) 0 ≡ get_or before (a.word + d) 0
  pub rest : (d : ℕ) → c ≤ d → get_or after (a.word + d) 0 ≡ get_or before (a.word + d) 0
  pub passed : (d : ℕ) → d < c → is_message a before d ≡ false
      → get_or after (a.word + d) 0 ≡ tally (dot d (row_bits a before d) (word_bit a after))

module _ {a : Areas} {before after : List ℕ} {c : ℕ} (laid : Laid a (length before)) (s : SolvedTo a before after c)
    (h : c < a.gross) where
  kind : is_message a after c ≡ is_message a before c
  kind = message_kept a before after laid s.changed c

  -- a message column holds what it held
  pub solved_message : is_message a after c ≡ true → SolvedTo a before after (c + 1)
  solved_message t =
      record {
        changed = s.changed;
        packed = s.packed;
        kept = s.kept;
        rest = λ d l. s.rest d (omega arith);
        passed = λ d l z.
            elim (ℕ_discrete d c) [
              | yes same ↦ clash (rw same (sym kind ∙ t)) z
              | no other ↦ s.passed d (omega arith) z
            ];
      }

  module _ (ends : RowsEnd a before) (zeros : ChecksZero a before) (z : is_message a after c ≡ false) where
    check : is_message a before c ≡ false
    check = sym kind ∙ z

    -- the column's own bit is 0 so far
    own_zero : get_or after (a.word + c) 0 ≡ 0
    own_zero = s.rest c (omega arith) ∙ zeros c h check

    -- The parity of the column's row and the packed word is that over the columns before it.
    parity_is : dot (a.stride * 8) (row_bits a after c) (dense_bits after a.stride a.checks)
        ≡ dot c (row_bits a before c) (word_bit a after)
    parity_is =
        parity_short c (a.stride * 8) (λ d. row_bits a after c d && dense_bits after a.stride a.checks d)
        (omega (arith, laid.wide)) past
        ∙ dot_ext c (row_bits a after c) (row_bits a before c) (dense_bits after a.stride a.checks) (word_bit a after)
        (λ d l. own_kept a before after laid s.changed c d check (omega arith))
        (λ d l.
        s.packed d (in_row a.gross a.stride d laid.wide (omega arith))
        ∙ ap (λ (b : Bool). b && word_bit a after d) (lt-ltb d a.gross (omega arith)))
      where
        past : (d : ℕ) → c ≤ d → d < a.stride * 8 → (row_bits a after c d && dense_bits after a.stride a.checks d) ≡ false
        past d l g =
            elim (ℕ_discrete d c) [
              | yes same ↦
                  rw same
                  (ap (λ (b : Bool). row_bits a after c c && b)
                  (s.packed c (in_row a.gross a.stride c laid.wide h)
                  ∙ ap (λ (v : ℕ). ltb c a.gross && eqb (v % 2) 1) own_zero ∙ and-false (ltb c a.gross))
                  ∙ and-false (row_bits a after c c))
              | no other ↦
                  elim (dec_lt d a.gross) [
                    | yes inside ↦
                        ap (λ (b : Bool). b && dense_bits after a.stride a.checks d)
                        (own_kept a before after laid s.changed c d check inside ∙ ends c d h check (omega arith) inside)
                    | no outside ↦
                        ap (λ (b : Bool). row_bits a after c d && b)
                        (s.packed d (omega arith) ∙ ap (λ (b : Bool). b && word_bit a after d) (le-ltb d a.gross (omega arith)))
                        ∙ and-false (row_bits a after c d)
                  ]
            ]

    -- the parity is even: the bit stays 0
    pub solved_even : {v : ℕ} → v ≡ tally (dot (a.stride * 8) (row_bits a after c) (dense_bits after a.stride a.checks))
        → (v ≡ 1 → ⊥) → SolvedTo a before after (c + 1)
    solved_even {v} e odd =
        record {
          changed = s.changed;
          packed = s.packed;
          kept = s.kept;
          rest = λ d l. s.rest d (omega arith);
          passed = λ d l z'.
              elim (ℕ_discrete d c) [
                | yes same ↦
                    rw same
                    (let few = tally_le (dot (a.stride * 8) (row_bits a after c) (dense_bits after a.stride a.checks)) in
                    let none : v ≡ 0 = omega (arith, few, e) in own_zero ∙ sym none ∙ e ∙ ap tally parity_is)
                | no other ↦ s.passed d (omega arith) z'
              ];
        }

    -- the parity is odd: the bit is stored and turned in the packed word
    pub solved_odd : {v : ℕ} {later : List ℕ}
        → v ≡ tally (dot (a.stride * 8) (row_bits a after c) (dense_bits after a.stride a.checks)) → v ≡ 1
        → Turned a.stride a.checks c (set after (a.word + c) 1) later → SolvedTo a before later (c + 1)
    solved_odd {v} {later} e odd t =
        record {
          changed = changed_then stored (changed_wider t.changed (λ q o. (o.0, tt)));
          packed = λ d l. t.bits a.checks d l ∙ turned d l;
          kept = λ d l m. elsewhere d (λ same. clash (sym (ap (is_message a before) same) ∙ m) check) ∙ s.kept d l m;
          rest = λ d l. elsewhere d (λ same. omega arith) ∙ s.rest d (omega arith);
          passed = λ d l z'.
              elim (ℕ_discrete d c) [
                | yes same ↦ rw same (there ∙ sym odd ∙ e ∙ ap tally (parity_is ∙ before_it c (omega arith)))
                | no other ↦ elsewhere d other ∙ s.passed d (omega arith) z' ∙ ap tally (before_it d (omega arith))
              ];
        }
      where
        room : a.word + a.gross ≤ length before
        room = omega (arith, word_inside laid)

        stored : Changed (word_row_span a ∷ word_span a ∷ []) before (set after (a.word + c) 1)
        stored = changed_set s.changed (a.word + c) 1 (λ o. omega (arith, o.1.0 (omega arith)))

        -- the word is as it was stored
        behind : (d : ℕ) → get_or later (a.word + d) 0 ≡ get_or (set after (a.word + c) 1) (a.word + d) 0
        behind d = t.changed.kept (a.word + d) (omega arith)

        there : get_or later (a.word + c) 0 ≡ 1
        there = behind c ∙ get_or-set_same after (a.word + c) 1 0 (omega (arith, s.changed.long, room))

        elsewhere : (d : ℕ) → (d ≡ c → ⊥) → get_or later (a.word + d) 0 ≡ get_or after (a.word + d) 0
        elsewhere d other = behind d ∙ get_or-set_other after (a.word + c) (a.word + d) 1 0 (λ f. other (omega arith))

        -- the columns before c are as they were
        before_it : (d : ℕ) → d ≤ c → dot d (row_bits a before d) (word_bit a after) ≡ dot d (row_bits a before d) (word_bit a later)
        before_it d l =
            dot_ext d (row_bits a before d) (row_bits a before d) (word_bit a after) (word_bit a later) (λ x g. refl)
            (λ x g. ap (λ (v : ℕ). eqb (v % 2) 1) (sym (elsewhere x (λ same. omega arith))))

        -- the packed word
        turned : (d : ℕ) → d / 8 < a.stride
            → xor (dense_bits (set after (a.word + c) 1) a.stride a.checks d) (eqb a.checks a.checks && eqb d c)
            ≡ (ltb d a.gross && word_bit a later d)
        turned d l =
            ap₂ (λ (b z : Bool). xor b (z && eqb d c))
            (row_same after (set after (a.word + c) 1) a.stride a.checks d l
            (λ q k g. get_or-set_other after (a.word + c) q 1 0 (λ f. omega arith))
            ∙ s.packed d l)
            (eq-eqb a.checks a.checks refl)
            ∙ elim (ℕ_discrete d c) [
              | yes same ↦
                  rw same
                  (ap₂ (λ (v : ℕ) (b : Bool). xor (ltb c a.gross && eqb (v % 2) 1) b) own_zero (eq-eqb c c refl)
                  ∙ ap (λ (b : Bool). xor b true) (and-false (ltb c a.gross))
                  ∙ none_xor true
                  ∙ sym (ap₂ (λ (b : Bool) (v : ℕ). b && eqb (v % 2) 1) (lt-ltb c a.gross h) there))
              | no other ↦
                  ap (xor (ltb d a.gross && word_bit a after d)) (ne_eqb d c other)
                  ∙ xor_none (ltb d a.gross && word_bit a after d)
                  ∙ ap (λ (v : ℕ). ltb d a.gross && eqb (v % 2) 1) (sym (elsewhere d other))
            ]

-- a state under another name
pub solved_as : {a : Areas} {before after after' : List ℕ} {c : ℕ} → SolvedTo a before after c → after' ≡ after → SolvedTo a before after' c
solved_as s e = rw e s

-- ---- the codeword

-- storing the net bits and packing the word change nothing but the word and the row behind the rows
pub placed_packed : {a : Areas} {before mid packed : List ℕ} → Placed a before mid
    → PackedIn a.stride a.checks a.word a.gross mid packed → Changed (word_row_span a ∷ word_span a ∷ []) before packed
placed_packed p k = changed_then (changed_wider p.changed (λ q o. o.1)) (changed_wider k.changed (λ q o. (o.0, tt)))

-- where the net bits are stored the check columns are 0
pub placed_zeros : {a : Areas} {before mid packed : List ℕ} → Laid a (length before) → Placed a before mid
    → PackedIn a.stride a.checks a.word a.gross mid packed → ChecksZero a packed
placed_zeros {a} {before} {packed = packed} laid p k c h z =
    k.changed.kept (a.word + c) (omega arith)
    ∙ p.placed c h
    ∙ ap (λ (b : Bool). cond b (get_or (net_in a before) (length (those c (is_message a before))) 0) 0)
    (sym (message_kept a before packed laid (placed_packed p k) c) ∙ z)

module _ {a : Areas} {before mid packed after : List ℕ} (laid : Laid a (length before)) (are_bits : AllBits (net_in a before))
    (p : Placed a before mid) (k : PackedIn a.stride a.checks a.word a.gross mid packed) (s : Solved a packed after)
    (m : BitMatrix) (e : EliminatedFrom a m 0 before) where
  chk : ℕ → Bool
  chk = is_check_column a.checks a.gross m

  to_packed : Changed (word_row_span a ∷ word_span a ∷ []) before packed
  to_packed = placed_packed p k

  kind_is : (c : ℕ) → c < a.gross → is_message a packed c ≡ not (chk c)
  unfolding chk
  kind_is c h = message_kept a before packed laid to_packed c ∙ message_is a m before e c h

  room_after : a.word + a.gross ≤ length after
  room_after = omega (arith, s.changed.long, to_packed.long, word_inside laid)

  w : List ℕ
  w = word_in a after

  w_bit : (c : ℕ) → c < a.gross → bit_at w c ≡ word_bit a after c
  unfolding w
  w_bit c h = ap (λ (x : ℕ). eqb (x % 2) 1) (part_at after a.word a.gross c h)

  -- net bits in the message columns
  message_bit : (c : ℕ) → c < a.gross → chk c ≡ false
      → get_or w c 0 ≡ get_or (net_in a before) (length (those c (λ j. not (chk j)))) 0
  unfolding w chk
  message_bit c h z =
      part_at after a.word a.gross c h
      ∙ s.kept c h (kind_is c h ∙ ap not z)
      ∙ k.changed.kept (a.word + c) (omega arith)
      ∙ p.placed c h
      ∙ ap (λ (b : Bool). cond b (get_or (net_in a before) (length (those c (is_message a before))) 0) 0)
      (message_is a m before e c h ∙ ap not z)
      ∙ ap (λ (l : List ℕ). get_or (net_in a before) (length l) 0) (messages_are a m before e c (omega arith))

  -- in the check columns the sums of the earlier bits in the ones of their rows
  check_bit : (c : ℕ) → c < a.gross → chk c ≡ true → get_or w c 0 ≡ tally (dot c (row_bits a before c) (bit_at w))
  unfolding w chk
  check_bit c h z =
      part_at after a.word a.gross c h
      ∙ s.solved c h (kind_is c h ∙ ap not z)
      ∙ ap tally (dot_ext c (row_bits a packed c) (row_bits a before c) (word_bit a after) (bit_at w)
      (λ d l. own_kept a before packed laid to_packed c d (message_is a m before e c h ∙ ap not z) (omega arith))
      (λ d l. sym (w_bit d (omega arith))))

  bits_inside : (c : ℕ) → c < a.gross → get_or w c 0 ≤ 1
  bits_inside c h =
      by (chk c)
      (λ z. omega (arith, check_bit c h z, tally_le (dot c (row_bits a before c) (bit_at w))))
      (λ z. omega (arith, message_bit c h z, are_bits (length (those c (λ j. not (chk j))))))

  w_bits : AllBits w
  unfolding w
  w_bits c =
      elim (dec_lt c a.gross) [
        | yes h ↦ bits_inside c h
        | no h ↦ omega (arith, part_past after a.word a.gross c room_after (omega arith))
      ]

  -- The word with its message columns stored and its check columns solved is the codeword.
  solved_codeword : word_in a after ≡ codeword a.checks a.gross m (net_in a before)
  unfolding w chk
  solved_codeword =
      sym (codeword_filled a.checks a.gross m (net_in a before)
      (dense_bits before a.stride) (is_used a before) (row_of a before) e.reduced w
      (length_part after a.word a.gross room_after) w_bits
      message_bit
      (λ c h z. ap (λ (x : ℕ). eqb (x % 2) 1) (check_bit c h z) ∙ bit_tally (dot c (row_bits a before c) (bit_at w))))

-- The word filled in three steps is the codeword of the net bits.
pub word_filled : {a : Areas} {before mid packed after : List ℕ} → Laid a (length before) → AllBits (net_in a before)
    → Placed a before mid → PackedIn a.stride a.checks a.word a.gross mid packed → Solved a packed after
    → WordFilled a before after
word_filled laid are_bits p k s =
    record {
      changed = changed_then (placed_packed p k) s.changed;
      word_is = λ m e. solved_codeword laid are_bits p k s m e;
    }
