-- What a sound reserved list says: whole entries, at most 1,024, each inside the symbol, on no pattern, at a place that no earlier
-- entry names, with a colour of the symbol.
-- Assumes nothing.
use Prim.Native.Nat.{ℕ, suc, ◌%◌, ◌≤◌, ◌<◌}
use mathlib.Core.Path.{◌≡◌, refl, sym}
use mathlib.Core.Bool.{Bool, true, false, cond, not, ◌&&◌, ◌||◌}
use mathlib.Core.List.{List}
use native.Mathlib.Omega.{arith}
use lib.Dec.{leb, ltb, eqb}
use lib.ListN.{length}
use borrow.Author.Tests.{leb-true, leb-false, eqb-true, ltb-false, le-ltb, eq-eqb, ne_eqb, not-false}
use Rattle.symbology.specs.declared.Params.{Params}
use Rattle.std.specs.Prelude.{Result, Ok, Err}
use Rattle.symbology.specs.Ranges.{within, lowest}
use Rattle.symbology.specs.Sides.{columns, rows}
use Rattle.symbology.specs.Patterns.{covered, pattern_colour}
use Rattle.symbology.specs.Reserved.{entries, entry_column, entry_row, entry_colour, entry_at}
use Rattle.symbology.specs.Reserved.{first_entry, bad_entry, bad_at, entry_verdict, list_verdict}
use Rattle.symbology.proofs.Ranges.{clash, and_left, and_right}
use Rattle.laws.proofs.Ranges.{and_both, or_left, or_right, lowest_before, lowest_more}

-- entry k lies inside the symbol, on no pattern, at a place that no earlier entry names, with a colour below N
pub record SoundEntry (p : Params) (l : List ℕ) (k : ℕ) : Type 0 where
  pub column_least : 1 ≤ entry_column l k
  pub column_most : entry_column l k ≤ columns p
  pub row_least : 1 ≤ entry_row l k
  pub row_most : entry_row l k ≤ rows p
  pub on_no_pattern : covered (pattern_colour p (entry_column l k) (entry_row l k)) ≡ false
  pub named_once : k ≤ first_entry l k (entry_column l k) (entry_row l k)
  pub colour_below : entry_colour l k < p.colours

-- whole entries, at most 1,024, each sound
pub record SoundList (p : Params) (l : List ℕ) : Type 0 where
  pub whole : length l % 3 ≡ 0
  pub few : entries l ≤ 1024
  pub entry : (k : ℕ) → k < entries l → SoundEntry p l k

-- an entry that is not bad is sound
pub sound_entry : (p : Params) (l : List ℕ) (k : ℕ) → bad_at p l k ≡ false → SoundEntry p l k
unfolding bad_at bad_entry
sound_entry p l k e =
    let x : ℕ = entry_column l k in
    let y : ℕ = entry_row l k in
    let a : Bool = not (within 1 (columns p) x) in
    let b : Bool = not (within 1 (rows p) y) in
    let c : Bool = covered (pattern_colour p x y) in
    let d : Bool = ltb (first_entry l k x y) k in
    let f : Bool = leb p.colours (entry_colour l k) in
    let abcd : (a || b || c || d) ≡ false = or_left (a || b || c || d) f e in
    let abc : (a || b || c) ≡ false = or_left (a || b || c) d abcd in
    let ab : (a || b) ≡ false = or_left (a || b) c abc in
    let across : within 1 (columns p) x ≡ true = not-false (within 1 (columns p) x) (or_left a b ab) in
    let down : within 1 (rows p) y ≡ true = not-false (within 1 (rows p) y) (or_right a b ab) in
    record {
      column_least = leb-true 1 x (and_left (leb 1 x) (leb x (columns p)) across);
      column_most = leb-true x (columns p) (and_right (leb 1 x) (leb x (columns p)) across);
      row_least = leb-true 1 y (and_left (leb 1 y) (leb y (rows p)) down);
      row_most = leb-true y (rows p) (and_right (leb 1 y) (leb y (rows p)) down);
      on_no_pattern = or_right (a || b) c abc;
      named_once = ltb-false (first_entry l k x y) k (or_right (a || b || c) d abcd);
      colour_below = leb-false p.colours (entry_colour l k) (or_right (a || b || c || d) f e);
    }

-- ---- the verdict

fault_sound : (place : ℕ) → ◌≡◌ {A = Result (Unit {0}) ℕ} (Err place) (Ok tt) → ⊥
fault_sound place e = cc

verdict_none : (place n : ℕ) → entry_verdict place n ≡ Ok tt → n ≤ place
unfolding entry_verdict
verdict_none place n e = go (ltb place n) (ltb-false place n) e
  where
    go : (t : Bool) → (t ≡ false → n ≤ place) → ◌≡◌ {A = Result (Unit {0}) ℕ} (cond t (Err place) (Ok tt)) (Ok tt) → n ≤ place
    go true f h = absurd (fault_sound place h)
    go false f h = f refl

verdict_parts : (p : Params) (l : List ℕ) → list_verdict p l ≡ Ok tt
    → (length l % 3 ≡ 0) × (entries l ≤ 1024) × (entries l ≤ lowest (bad_at p l) (entries l) 0)
unfolding list_verdict
verdict_parts p l = go (eqb (length l % 3) 0) (leb (entries l) 1024) (eqb-true (length l % 3) 0) (leb-true (entries l) 1024)
  where
    go : (a b : Bool) → (a ≡ true → length l % 3 ≡ 0) → (b ≡ true → entries l ≤ 1024)
        → cond a (cond b (entry_verdict (lowest (bad_at p l) (entries l) 0) (entries l)) (Err 1024)) (Err (entries l)) ≡ Ok tt
        → (length l % 3 ≡ 0) × (entries l ≤ 1024) × (entries l ≤ lowest (bad_at p l) (entries l) 0)
    go true true f g h = (f refl, g refl, verdict_none (lowest (bad_at p l) (entries l) 0) (entries l) h)
    go true false f g h = absurd (fault_sound 1024 h)
    go false b f g h = absurd (fault_sound (entries l) h)

-- A list that passes test 2 has whole entries, at most 1,024, and each of them is sound.
pub sound_list : (p : Params) (l : List ℕ) → list_verdict p l ≡ Ok tt → SoundList p l
sound_list p l sound =
    let parts : (length l % 3 ≡ 0) × (entries l ≤ 1024) × (entries l ≤ lowest (bad_at p l) (entries l) 0) = verdict_parts p l sound in
    record {
      whole = parts.0;
      few = parts.1;
      entry = λ k h. sound_entry p l k (lowest_before (bad_at p l) (entries l) 0 k (omega arith) (omega (arith, parts.2)));
    }

-- ---- the entry at a module

-- one of the first n entries stands at column x, row y
abbrev pub listed : List ℕ → ℕ → ℕ → ℕ → Bool
listed l n x y = ltb (first_entry l n x y) n

-- with one entry more a module is listed that was so before, or that this entry names
pub listed_more : (l : List ℕ) (n x y : ℕ) → listed l (suc n) x y ≡ (listed l n x y || entry_at l x y n)
unfolding first_entry
listed_more l n x y = lowest_more (entry_at l x y) n

-- none of no entries
pub listed_none : (l : List ℕ) (x y : ℕ) → listed l 0 x y ≡ false
listed_none l x y = le-ltb (first_entry l 0 x y) 0 (omega arith)

-- entry k stands at its own column and row
pub entry_own : (l : List ℕ) (k : ℕ) → entry_at l (entry_column l k) (entry_row l k) k ≡ true
unfolding entry_at
entry_own l k =
    and_both (eqb (entry_column l k) (entry_column l k)) (eqb (entry_row l k) (entry_row l k))
    (eq-eqb (entry_column l k) (entry_column l k) refl) (eq-eqb (entry_row l k) (entry_row l k) refl)

-- and at no other column
pub entry_column_lem : (l : List ℕ) (k x y : ℕ) → (x ≡ entry_column l k → ⊥) → entry_at l x y k ≡ false
unfolding entry_at
entry_column_lem l k x y h = rw (ne_eqb (entry_column l k) x (λ e. h (sym e)))

-- and at no other row
pub entry_row_lem : (l : List ℕ) (k x y : ℕ) → (y ≡ entry_row l k → ⊥) → entry_at l x y k ≡ false
unfolding entry_at
entry_row_lem l k x y h = go (eqb (entry_column l k) x) (eqb (entry_row l k) y) (ne_eqb (entry_row l k) y (λ e. h (sym e)))
  where
    go : (a b : Bool) → b ≡ false → (a && b) ≡ false
    go true b e = e
    go false b e = refl

-- No two entries of a sound list stand at one place.
pub entries_differ : (p : Params) (l : List ℕ) → SoundList p l → (i k : ℕ) → i < k → k < entries l
    → entry_column l i ≡ entry_column l k → entry_row l i ≡ entry_row l k → ⊥
unfolding first_entry entry_at
entries_differ p l s i k less inner a b =
    let x : ℕ = entry_column l k in
    let y : ℕ = entry_row l k in
    let free : entry_at l x y i ≡ false =
    lowest_before (entry_at l x y) k 0 i (omega arith) (omega (arith, (s.entry k inner).named_once)) in
    clash (and_both (eqb (entry_column l i) x) (eqb (entry_row l i) y) (eq-eqb (entry_column l i) x a) (eq-eqb (entry_row l i) y b)) free
