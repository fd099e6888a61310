-- The bits of dense rows: a bit turned, a row added, a word packed, the parity of two rows, and rows that stay as they were.
-- Assumes nothing.
use Prim.Native.Nat.{ℕ, zero, suc, ◌+◌, ◌*◌, ◌/◌, ◌%◌, ◌^◌, ◌≤◌, ◌<◌, min}
use mathlib.Core.Path.{◌≡◌, refl, sym, ap, ap₂, ◌∙◌}
use mathlib.Core.Bool.{Bool, true, false, ◌&&◌, xor, and-false}
use mathlib.Core.List.{List, [], ◌∷◌}
use Rattle.std.specs.Prelude.{fold, zip}
use native.Mathlib.Nat.{suc-mul, mul-le-mul_right}
use native.Mathlib.Decide.{ℕ_discrete, dec_lt}
use native.Mathlib.Omega.{arith}
use lib.Arith.{digits_div, digits_mod}
use lib.Bits.{bit_and, bit_xor, differ, and_step, and_shr, xor_self, xor_shr}
use lib.Count.{ones}
use lib.Dec.{ltb, eqb}
use lib.ListN.{length, get_or, set}
use lib.Seq.{get_or-set_same, get_or-set_other, drop-cons}
use borrow.Author.Tests.{eq-eqb, ne_eqb, eqb-true, lt-ltb, le-ltb}
use Rattle.symbology.specs.Ranges.{tally, all_below}
use Rattle.symbology.specs.Matrix.{check_of}
use Rattle.symbology.specs.Rule.{unmet}
use Rattle.symbology.proofs.Ranges.{below_true}
use Rattle.laws.proofs.Masks.{xor_digit}
use Rattle.laws.proofs.Gf2.{parity_ext, parity_xor, parity_add, parity_short, dot_ext, bit_at, unmet_dot}
use Rattle.laws.proofs.Gf2.{xor_none, none_xor, xor_same}
use Rattle.laws.specs.Gf2.{parity, dot}
use Rattle.laws.proofs.Stores.{store_next}
use Rattle.lent.specs.declared.Areas.{Areas}
use Rattle.lent.specs.Changes.{Span, span, Outside, Changed}
use Rattle.lent.specs.Buffer.{part, Cleared}
use Rattle.lent.specs.Work.{Laid}
use Rattle.lent.proofs.Buffer.{part_at}
use Rattle.lent.proofs.Changes.{changed_none, changed_set, changed_then}
use Rattle.dense.specs.Dense.{byte_bit, dense_bits, Turned, RowAdded, Packed, PackedIn}

-- ---- places of rows

-- one row ends before another begins
pub row_gap : (i j s : ℕ) → i < j → i * s + s ≤ j * s
row_gap i j s h = omega (arith, suc-mul i s, mul-le-mul_right s h)

-- the byte of a column lies in its row
pub in_row : (n s j : ℕ) → n ≤ s * 8 → j < n → j / 8 < s
in_row n s j h l = omega arith

-- bytes at one place are of one row and one place in it
same_place : (s x i p q : ℕ) → p < s → q < s → x * s + p ≡ i * s + q → (x ≡ i) × (p ≡ q)
same_place s x i p q h g e = (
  sym (digits_div x h) ∙ ap (λ (z : ℕ). z / s) e ∙ digits_div i g,
  sym (digits_mod x h) ∙ ap (λ (z : ℕ). z % s) e ∙ digits_mod i g,
)

-- ---- bits of bytes

differ_bit : (x y : ℕ) → x < 2 → y < 2 → eqb (differ x y) 1 ≡ xor (eqb x 1) (eqb y 1)
unfolding xor
differ_bit zero zero h g = refl
differ_bit zero (suc zero) h g = refl
differ_bit (suc zero) zero h g = refl
differ_bit (suc zero) (suc zero) h g = refl
differ_bit (suc (suc x)) y h g = absurd (omega arith)
differ_bit zero (suc (suc y)) h g = absurd (omega arith)
differ_bit (suc zero) (suc (suc y)) h g = absurd (omega arith)

xor_bits : (u v k : ℕ) → byte_bit (bit_xor u v) k ≡ xor (byte_bit u k) (byte_bit v k)
xor_bits u v k =
    ap (λ (z : ℕ). eqb (z % 2) 1) (xor_shr u v k)
    ∙ ap (λ (z : ℕ). eqb z 1) (xor_digit (u / 2 ^ k) (v / 2 ^ k))
    ∙ differ_bit (u / 2 ^ k % 2) (v / 2 ^ k % 2) (omega arith) (omega arith)

-- a byte of 0 has no bit
pub zero_bit : (k : ℕ) → byte_bit 0 k ≡ false
zero_bit k = ap (λ (v : ℕ). byte_bit v k) (sym (xor_self 0)) ∙ xor_bits 0 0 k ∙ xor_same (byte_bit 0 k)

-- the bits of the powers of two in a byte, computed
power_bits : all_below 8 (λ b. all_below 8 (λ k. eqb (1 * 2 ^ b % 2 ^ 8 / 2 ^ k % 2) (tally (eqb k b)))) ≡ true
unfolding all_below
power_bits = refl

tally_one : (t : Bool) → eqb (tally t) 1 ≡ t
tally_one true = refl
tally_one false = refl

power_bit : (b k : ℕ) → b < 8 → k < 8 → byte_bit (1 * 2 ^ b % 2 ^ 8) k ≡ eqb k b
power_bit b k h g =
    let f : ℕ → ℕ → Bool = λ b k. eqb (1 * 2 ^ b % 2 ^ 8 / 2 ^ k % 2) (tally (eqb k b)) in
    let t : f b k ≡ true = below_true (f b) 8 (below_true (λ b. all_below 8 (f b)) 8 power_bits b h) k g in
    ap (λ (x : ℕ). eqb x 1) (eqb-true (1 * 2 ^ b % 2 ^ 8 / 2 ^ k % 2) (tally (eqb k b)) t) ∙ tally_one (eqb k b)

-- ---- rows that stay

-- Bits are equal where their bytes are.
dense_same : (xs ys : List ℕ) (s i c : ℕ) → get_or ys (i * s + c / 8) 0 ≡ get_or xs (i * s + c / 8) 0
    → dense_bits ys s i c ≡ dense_bits xs s i c
unfolding dense_bits
dense_same xs ys s i c e = ap (λ (v : ℕ). byte_bit v (c % 8)) e

-- A row stays where its bytes do.
pub row_same : (xs ys : List ℕ) (s i c : ℕ) → c / 8 < s → ((q : ℕ) → i * s ≤ q → q < i * s + s → get_or ys q 0 ≡ get_or xs q 0)
    → dense_bits ys s i c ≡ dense_bits xs s i c
row_same xs ys s i c h same = dense_same xs ys s i c (same (i * s + c / 8) (omega arith) (omega arith))

-- The first k rows stay where their bytes do.
pub rows_same : (xs ys : List ℕ) (s k : ℕ) → ((q : ℕ) → q < k * s → get_or ys q 0 ≡ get_or xs q 0)
    → (i : ℕ) → i < k → (c : ℕ) → c / 8 < s → dense_bits ys s i c ≡ dense_bits xs s i c
rows_same xs ys s k same i l c g = dense_same xs ys s i c (same (i * s + c / 8) (omega (arith, row_gap i k s l)))

-- ---- rows of the work buffer

module _ {a : Areas} {room : ℕ} (laid : Laid a room) where
  -- a row lies in front of the marks
  pub row_inside : (i : ℕ) → i < a.checks → i * a.stride + a.stride ≤ a.marks
  row_inside i h = omega (arith, row_gap i a.checks a.stride h, laid.rows_end)

  -- the byte of a column lies in its row
  pub column_inside : (j : ℕ) → j < a.gross → j / 8 < a.stride
  column_inside j h = in_row a.gross a.stride j laid.wide h

  -- the byte of a bit lies in front of the marks
  pub bit_inside : (i j : ℕ) → i < a.checks → j < a.gross → i * a.stride + j / 8 < a.marks
  bit_inside i j h g = omega (arith, row_inside i h, column_inside j g)

  -- the rows stay where they are not changed
  pub rows_kept : {ss : List Span} {before after : List ℕ} → Changed ss before after
      → ((q : ℕ) → q < a.checks * a.stride → Outside ss q)
      → (i : ℕ) → i < a.checks → (j : ℕ) → j < a.gross → dense_bits after a.stride i j ≡ dense_bits before a.stride i j
  rows_kept {before = before} {after = after} c out i l j g =
      rows_same before after a.stride a.checks (λ q h. c.kept q (out q h)) i l j (column_inside j g)

-- ---- a bit turned

turned_bit : (s i j v : ℕ) → v ≡ 1 * 2 ^ (j % 8) % 2 ^ 8 → (xs : List ℕ) → i * s + j / 8 < length xs → j / 8 < s
    → (x c : ℕ) → c / 8 < s
    → dense_bits (set xs (i * s + j / 8) (bit_xor (get_or xs (i * s + j / 8) 0) v)) s x c ≡ xor (dense_bits xs s x c) (eqb x i && eqb c j)
unfolding dense_bits
turned_bit s i j v e xs inside h x c g =
    let at : ℕ = i * s + j / 8 in
    let w : ℕ = bit_xor (get_or xs at 0) v in
    elim (ℕ_discrete (x * s + c / 8) at) [
      | yes same ↦
          let both : (x ≡ i) × (c / 8 ≡ j / 8) = same_place s x i (c / 8) (j / 8) g h same in
          ap (λ (z : ℕ). byte_bit (get_or (set xs at w) z 0) (c % 8)) same
          ∙ ap (λ (z : ℕ). byte_bit z (c % 8)) (get_or-set_same xs at w 0 inside)
          ∙ xor_bits (get_or xs at 0) v (c % 8)
          ∙ ap₂ xor (ap (λ (z : ℕ). byte_bit (get_or xs z 0) (c % 8)) (sym same))
          (ap (λ (z : ℕ). byte_bit z (c % 8)) e
          ∙ power_bit (j % 8) (c % 8) (omega arith) (omega arith)
          ∙ digit_same both.1
          ∙ sym (ap (λ (t : Bool). t && eqb c j) (eq-eqb x i both.0)))
      | no other ↦
          ap (λ (z : ℕ). byte_bit z (c % 8)) (get_or-set_other xs at (x * s + c / 8) w 0 other)
          ∙ sym (ap (xor (dense_bits xs s x c)) (apart other) ∙ xor_none (dense_bits xs s x c))
    ]
  where
    digit_same : c / 8 ≡ j / 8 → eqb (c % 8) (j % 8) ≡ eqb c j
    digit_same e =
        elim (ℕ_discrete c j) [
          | yes f ↦ eq-eqb (c % 8) (j % 8) (ap (λ (z : ℕ). z % 8) f) ∙ sym (eq-eqb c j f)
          | no f ↦ ne_eqb (c % 8) (j % 8) (λ r. f (omega arith)) ∙ sym (ne_eqb c j f)
        ]

    apart : (x * s + c / 8 ≡ i * s + j / 8 → ⊥) → (eqb x i && eqb c j) ≡ false
    apart other =
        elim (ℕ_discrete x i) [
          | yes f ↦
              ap (λ (t : Bool). eqb x i && t) (ne_eqb c j (λ r. other (ap₂ (λ (y d : ℕ). y * s + d / 8) f r))) ∙ and-false (eqb x i)
          | no f ↦ ap (λ (t : Bool). t && eqb c j) (ne_eqb x i f)
        ]

pub turn_stored : (s i j : ℕ) (xs : List ℕ) → i * s + j / 8 < length xs → j / 8 < s
    → Turned s i j xs (set xs (i * s + j / 8) (bit_xor (get_or xs (i * s + j / 8) 0) (1 * 2 ^ (j % 8) % 2 ^ 8)))
turn_stored s i j xs inside h =
    record {
      changed = changed_set (changed_none (span (i * s) (i * s + s) ∷ []) xs) (i * s + j / 8)
          (bit_xor (get_or xs (i * s + j / 8) 0) (1 * 2 ^ (j % 8) % 2 ^ 8)) (λ o. omega (arith, o.0 (omega arith)));
      bits = turned_bit s i j (1 * 2 ^ (j % 8) % 2 ^ 8) refl xs inside h;
    }

-- ---- a row added

-- the first b bytes of row t are added to row i
pub record AddedTo (s i t b : ℕ) (before after : List ℕ) : Type 0 where
  pub changed : Changed (span (i * s) (i * s + s) ∷ []) before after
  pub done : (p : ℕ) → p < b → get_or after (i * s + p) 0 ≡ bit_xor (get_or before (i * s + p) 0) (get_or before (t * s + p) 0)
  pub rest : (p : ℕ) → b ≤ p → get_or after (i * s + p) 0 ≡ get_or before (i * s + p) 0

-- the other rows are as before
other_row : {s i t b : ℕ} {before after : List ℕ} → AddedTo s i t b before after → (x p : ℕ) → (x ≡ i → ⊥) → p < s
    → get_or after (x * s + p) 0 ≡ get_or before (x * s + p) 0
other_row {s} {i} r x p other h =
    elim (dec_lt x i) [
      | yes l ↦ r.changed.kept (x * s + p) (omega (arith, row_gap x i s l))
      | no l ↦ r.changed.kept (x * s + p) (omega (arith, row_gap i x s (omega arith)))
    ]

pub added_next : {s i t b : ℕ} {before after : List ℕ} → AddedTo s i t b before after → (i ≡ t → ⊥) → b < s → i * s + s ≤ length before
    → AddedTo s i t (b + 1) before (set after (i * s + b) (bit_xor (get_or after (i * s + b) 0) (get_or after (t * s + b) 0)))
added_next {s} {i} {t} {b} {before} {after} r other h room =
    let v : ℕ = bit_xor (get_or after (i * s + b) 0) (get_or after (t * s + b) 0) in
    record {
      changed = changed_set r.changed (i * s + b) v (λ o. omega (arith, o.0 (omega arith)));
      done =
          store_next (λ p w. w ≡ bit_xor (get_or before (i * s + p) 0) (get_or before (t * s + p) 0)) after (i * s) b v
          (omega (arith, r.changed.long)) r.done
          (ap₂ bit_xor (r.rest b (omega arith)) (other_row r t b (λ e. other (sym e)) h));
      rest = λ p l. get_or-set_other after (i * s + b) (i * s + p) v 0 (λ f. omega arith) ∙ r.rest p (omega arith);
    }

pub added_all : {s i t n : ℕ} {before after : List ℕ} → AddedTo s i t n before after → RowAdded s i t n before after
unfolding dense_bits
added_all {s} {i} {t} {n} {before} {after} r =
    record {
      changed = r.changed;
      bits = λ x c h.
          elim (ℕ_discrete x i) [
            | yes e ↦
                ap (λ (y : ℕ). dense_bits after s y c) e
                ∙ own c
                ∙ sym (ap₂ (λ (y : ℕ) (b : Bool). xor (dense_bits before s y c) (b && (ltb (c / 8) n && dense_bits before s t c)))
                e (eq-eqb x i e))
            | no e ↦
                dense_same before after s x c (other_row r x (c / 8) e h)
                ∙ sym (ap (λ (b : Bool). xor (dense_bits before s x c) (b && (ltb (c / 8) n && dense_bits before s t c))) (ne_eqb x i e)
                ∙ xor_none (dense_bits before s x c))
          ];
    }
  where
    own : (c : ℕ) → dense_bits after s i c ≡ xor (dense_bits before s i c) (ltb (c / 8) n && dense_bits before s t c)
    own c =
        elim (dec_lt (c / 8) n) [
          | yes l ↦
              ap (λ (z : ℕ). byte_bit z (c % 8)) (r.done (c / 8) l)
              ∙ xor_bits (get_or before (i * s + c / 8) 0) (get_or before (t * s + c / 8) 0) (c % 8)
              ∙ sym (ap (λ (b : Bool). xor (dense_bits before s i c) (b && dense_bits before s t c)) (lt-ltb (c / 8) n l))
          | no l ↦
              ap (λ (z : ℕ). byte_bit z (c % 8)) (r.rest (c / 8) (omega arith))
              ∙ sym (ap (λ (b : Bool). xor (dense_bits before s i c) (b && dense_bits before s t c)) (le-ltb (c / 8) n (omega arith))
              ∙ xor_none (dense_bits before s i c))
        ]

-- ---- a word packed

-- of the word, the first j bits are stored as row k, whose other columns are 0
pub record PackedTo (s k word j : ℕ) (before after : List ℕ) : Type 0 where
  pub changed : Changed (span (k * s) (k * s + s) ∷ []) before after
  pub done : (c : ℕ) → c / 8 < s → dense_bits after s k c ≡ (ltb c j && eqb (get_or before (word + c) 0 % 2) 1)

-- the cleared row has no bit of the word
pub packed_start : {s k word : ℕ} {before after : List ℕ} → Cleared (k * s) (k * s + s) before after → PackedTo s k word 0 after after
unfolding dense_bits
packed_start {s} {k} {word} {before} {after} z =
    record {
      changed = changed_none (span (k * s) (k * s + s) ∷ []) after;
      done = λ c h.
          ap (λ (v : ℕ). byte_bit v (c % 8)) (z.zero_in (k * s + c / 8) (omega arith) (omega arith))
          ∙ zero_bit (c % 8)
          ∙ sym (ap (λ (b : Bool). b && eqb (get_or after (word + c) 0 % 2) 1) (le-ltb c 0 (omega arith)));
    }

module _ {s k word j : ℕ} {before after : List ℕ} (p : PackedTo s k word j before after) where
  -- the columns other than j are as before
  packed_past : (b : Bool) (c : ℕ) → (c ≡ j → ⊥) → (ltb c j && b) ≡ (ltb c (j + 1) && b)
  packed_past b c h =
      elim (dec_lt c j) [
        | yes l ↦ ap (λ (t : Bool). t && b) (lt-ltb c j l ∙ sym (lt-ltb c (j + 1) (omega arith)))
        | no l ↦ ap (λ (t : Bool). t && b) (le-ltb c j (omega arith) ∙ sym (le-ltb c (j + 1) (omega arith)))
      ]

  -- bit j is 0
  pub packed_zero : eqb (get_or before (word + j) 0 % 2) 1 ≡ false → PackedTo s k word (j + 1) before after
  packed_zero z =
      record {
        changed = p.changed;
        done = λ c h.
            elim (ℕ_discrete c j) [
              | yes e ↦
                  rw e (p.done j (omega arith) ∙ ap (λ (b : Bool). ltb j j && b) z ∙ and-false (ltb j j)
                  ∙ sym (ap (λ (b : Bool). ltb j (j + 1) && b) z ∙ and-false (ltb j (j + 1))))
              | no e ↦ p.done c h ∙ packed_past (eqb (get_or before (word + c) 0 % 2) 1) c e
            ];
      }

  -- bit j is 1, and the row's bit is turned
  pub packed_one : {later : List ℕ} → eqb (get_or before (word + j) 0 % 2) 1 ≡ true → Turned s k j after later
      → PackedTo s k word (j + 1) before later
  packed_one {later} o t =
      record {
        changed = changed_then p.changed t.changed;
        done = λ c h.
            t.bits k c h
            ∙ ap₂ (λ (b z : Bool). xor b (z && eqb c j)) (p.done c h) (eq-eqb k k refl)
            ∙ elim (ℕ_discrete c j) [
              | yes e ↦
                  rw e (ap₂ (λ (b z : Bool). xor (b && eqb (get_or before (word + j) 0 % 2) 1) z) (le-ltb j j (omega arith))
                  (eq-eqb j j refl)
                  ∙ none_xor true ∙ sym (ap₂ ◌&&◌ (lt-ltb j (j + 1) (omega arith)) o))
              | no e ↦
                  ap (xor (ltb c j && eqb (get_or before (word + c) 0 % 2) 1)) (ne_eqb c j e)
                  ∙ xor_none (ltb c j && eqb (get_or before (word + c) 0 % 2) 1)
                  ∙ packed_past (eqb (get_or before (word + c) 0 % 2) 1) c e
            ];
      }

-- all bits are stored
pub packed_all : {s k word n : ℕ} {before cleared after : List ℕ} → k * s + s ≤ word → Cleared (k * s) (k * s + s) before cleared
    → PackedTo s k word n cleared after → PackedIn s k word n before after
packed_all {s} {k} {word} {n} {after = after} h z p =
    record {
      changed = changed_then z.changed p.changed;
      packed = λ c g. p.done c g ∙ ap (λ (v : ℕ). ltb c n && eqb (v % 2) 1) (sym (p.changed.kept (word + c) (omega arith)));
    }

-- ---- the parity of two rows

and_bit : (u v k : ℕ) → byte_bit (bit_and u v) k ≡ (byte_bit u k && byte_bit v k)
and_bit u v k = ap (λ (z : ℕ). eqb (z % 2) 1) (and_shr u v k) ∙ digit_and (u / 2 ^ k) (v / 2 ^ k)
  where
    least : (x y : ℕ) → x < 2 → y < 2 → eqb (min x y) 1 ≡ (eqb x 1 && eqb y 1)
    least zero zero h g = refl
    least zero (suc zero) h g = refl
    least zero (suc (suc y)) h g = absurd (omega arith)
    least (suc zero) zero h g = refl
    least (suc zero) (suc zero) h g = refl
    least (suc zero) (suc (suc y)) h g = absurd (omega arith)
    least (suc (suc x)) y h g = absurd (omega arith)

    small : (x y : ℕ) → x < 2 → min x y < 2
    small zero y h = omega arith
    small (suc zero) zero h = omega arith
    small (suc zero) (suc y) h = omega arith
    small (suc (suc x)) y h = absurd (omega arith)

    digit_and : (x y : ℕ) → eqb (bit_and x y % 2) 1 ≡ (eqb (x % 2) 1 && eqb (y % 2) 1)
    digit_and x y =
        let low : bit_and x y % 2 ≡ min (x % 2) (y % 2) = omega (arith, and_step x y, small (x % 2) (y % 2) (omega arith)) in
        ap (λ (z : ℕ). eqb z 1) low ∙ least (x % 2) (y % 2) (omega arith) (omega arith)

-- one more byte of both rows
pub parity_byte : (s i k b : ℕ) (xs : List ℕ) (both : ℕ) → b < s
    → parity 8 (byte_bit both) ≡ dot (b * 8) (dense_bits xs s i) (dense_bits xs s k)
    → parity 8 (byte_bit (bit_xor both (bit_and (get_or xs (i * s + b) 0) (get_or xs (k * s + b) 0))))
    ≡ dot ((b + 1) * 8) (dense_bits xs s i) (dense_bits xs s k)
unfolding dense_bits
parity_byte s i k b xs both h e =
    let u : ℕ = get_or xs (i * s + b) 0 in
    let v : ℕ = get_or xs (k * s + b) 0 in
    let more : b * 8 + 8 ≡ (b + 1) * 8 = omega arith in
    parity_ext 8 (byte_bit (bit_xor both (bit_and u v))) (λ q. xor (byte_bit both q) (byte_bit u q && byte_bit v q))
    (λ q g. xor_bits both (bit_and u v) q ∙ ap (xor (byte_bit both q)) (and_bit u v q))
    ∙ parity_xor 8 (byte_bit both) (λ q. byte_bit u q && byte_bit v q)
    ∙ ap₂ xor e (parity_ext 8 (λ q. byte_bit u q && byte_bit v q) (λ q. dense_bits xs s i (b * 8 + q) && dense_bits xs s k (b * 8 + q))
    (λ q g. ap₂ ◌&&◌ (there i q g) (there k q g)))
    ∙ sym (parity_add (b * 8) 8 (λ c. dense_bits xs s i c && dense_bits xs s k c))
    ∙ ap (λ (z : ℕ). dot z (dense_bits xs s i) (dense_bits xs s k)) more
  where
    there : (x q : ℕ) → q < 8 → byte_bit (get_or xs (x * s + b) 0) q ≡ dense_bits xs s x (b * 8 + q)
    there x q g =
        let p : (b * 8 + q) / 8 ≡ b = omega arith in
        let d : (b * 8 + q) % 8 ≡ q = omega arith in
        sym (ap₂ (λ (y z : ℕ). byte_bit (get_or xs (x * s + y) 0) z) p d)

-- all bytes of both rows
module _ (s i k : ℕ) (xs : List ℕ) (first : i * s + s ≤ length xs) (second : k * s + s ≤ length xs) where
  -- the n bytes from the b-th one on, added to the sum of those before them
  parity_from : (n b sum : ℕ) → b + n ≡ s → parity 8 (byte_bit sum) ≡ dot (b * 8) (dense_bits xs s i) (dense_bits xs s k)
      → parity 8 (byte_bit (fold (λ z p. bit_xor z (bit_and p.0 p.1)) sum (zip (part xs (i * s + b) n) (part xs (k * s + b) n))))
      ≡ dot (s * 8) (dense_bits xs s i) (dense_bits xs s k)
  parity_from zero b sum e so_far =
      let all : b ≡ s = omega arith in
      rw all at so_far
  parity_from (suc n) b sum e so_far =
      let more : suc b + n ≡ s = omega arith in
      let next_first : suc (i * s + b) ≡ i * s + (b + 1) = omega arith in
      let next_second : suc (k * s + b) ≡ k * s + (b + 1) = omega arith in
      rw (drop-cons xs (i * s + b) 0 (omega arith), drop-cons xs (k * s + b) 0 (omega arith), next_first, next_second)
      (parity_from n (b + 1) (bit_xor sum (bit_and (get_or xs (i * s + b) 0) (get_or xs (k * s + b) 0))) (omega arith)
      (parity_byte s i k b xs sum (omega arith) so_far))

  pub parity_rows : parity 8 (byte_bit (fold (λ z p. bit_xor z (bit_and p.0 p.1)) 0 (zip (part xs (i * s) s) (part xs (k * s) s))))
      ≡ dot (s * 8) (dense_bits xs s i) (dense_bits xs s k)
  unfolding parity xor
  parity_rows =
      let front : i * s + 0 ≡ i * s = omega arith in
      let back : k * s + 0 ≡ k * s = omega arith in
      rw (front, back) at (parity_from s 0 0 (omega arith) refl)

-- the parities of all bytes, computed
odd_bytes : all_below 256 (λ x. eqb (ones x % 2) (tally (parity 8 (byte_bit x)))) ≡ true
unfolding all_below parity ones xor
odd_bytes = refl

-- whether a byte has an odd number of ones
pub odd_count : (x : ℕ) → x < 256 → ones x % 2 ≡ tally (parity 8 (byte_bit x))
odd_count x h =
    eqb-true (ones x % 2) (tally (parity 8 (byte_bit x)))
    (below_true (λ z. eqb (ones z % 2) (tally (parity 8 (byte_bit z)))) 256 odd_bytes x h)

-- Where row k is a word, the parity of row i and row k tells whether the check of row i is unmet in it.
pub packed_unmet : (s i k word n : ℕ) (xs : List ℕ) → n ≤ s * 8 → Packed s k word n xs
    → tally (dot (s * 8) (dense_bits xs s i) (dense_bits xs s k)) ≡ unmet (check_of n (dense_bits xs s) i) (part xs word n)
unfolding check_of
packed_unmet s i k word n xs wide p =
    ap tally (parity_short n (s * 8) (λ c. dense_bits xs s i c && dense_bits xs s k c) wide past
    ∙ dot_ext n (dense_bits xs s i) (dense_bits xs s i) (dense_bits xs s k) (bit_at (part xs word n)) (λ c l. refl) inside)
    ∙ sym (unmet_dot n (dense_bits xs s i) (part xs word n))
  where
    inside : (c : ℕ) → c < n → dense_bits xs s k c ≡ bit_at (part xs word n) c
    inside c h =
        p c (in_row n s c wide h) ∙ ap (λ (b : Bool). b && eqb (get_or xs (word + c) 0 % 2) 1) (lt-ltb c n h)
        ∙ ap (λ (v : ℕ). eqb (v % 2) 1) (sym (part_at xs word n c h))

    past : (c : ℕ) → n ≤ c → c < s * 8 → (dense_bits xs s i c && dense_bits xs s k c) ≡ false
    past c h g =
        let none : dense_bits xs s k c ≡ false =
        p c (omega arith) ∙ ap (λ (b : Bool). b && eqb (get_or xs (word + c) 0 % 2) 1) (le-ltb c n h) in
        ap (λ (b : Bool). dense_bits xs s i c && b) none ∙ and-false (dense_bits xs s i c)
