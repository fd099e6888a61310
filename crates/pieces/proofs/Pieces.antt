-- Pieces stored one behind the other.
-- Assumes nothing.
use Prim.Native.Nat.{ℕ, suc, ◌+◌, ◌≤◌}
use mathlib.Core.Path.{◌≡◌, refl, ◌∙◌, sym, ap, subst}
use mathlib.Core.List.{List, [], ◌∷◌, ◌++◌}
use native.Mathlib.Omega.{arith}
use native.Mathlib.Nat.{add-zero, add-suc, suc-add}
use lib.ListN.{length, take, drop, set, length-append}
use lib.Seq.{take_at, sets, length-sets, sets-eq}
use Rattle.pieces.specs.Pieces.{StoredAt}

-- two runs of stores, one behind the other, are one
sets_append : (l : List ℕ) (i : ℕ) (a b : List ℕ) → sets (sets l i a) (i + length a) b ≡ sets l i (a ++ b)
sets_append l i [] b = rw (add-zero i)
sets_append l i (x ∷ a) b = rw (add-suc i (length a), ← suc-add i (length a)) (sets_append (set l i x) (suc i) a b)

-- one piece behind another
pub joined : {a b l m k : List ℕ} {at n r : ℕ} → StoredAt a at l m n → StoredAt b n m k r → StoredAt (a ++ b) at l k r
joined {a} {b} {l} {m} {k} {at} {n} {r} p q =
    record {
      place = omega (arith, p.place, q.place, length-append a b);
      stored = q.stored ∙ (λ i. sets (p.stored i) (p.place i) b) ∙ sets_append l at a b;
    }

-- nothing stored
pub stored_none : (at : ℕ) (l : List ℕ) → StoredAt [] at l l at
stored_none at l = record { place = omega arith; stored = refl }

-- one byte stored
pub stored_byte : {l m : List ℕ} (at b : ℕ) → m ≡ set l at b → StoredAt (b ∷ []) at l m (at + 1)
stored_byte at b e = record { place = refl; stored = e }

pub same_piece : {a b l m : List ℕ} {at n : ℕ} → a ≡ b → StoredAt a at l m n → StoredAt b at l m n
same_piece {l = l} {m = m} {at = at} {n = n} e t = subst (λ (x : List ℕ). StoredAt x at l m n) e t

-- what is left to store while a loop stores it
pub record Left (whole rest : List ℕ) (at₀ : ℕ) (out₀ : List ℕ) (at : ℕ) (out : List ℕ) : Type 0 where
  pub place : at + length rest ≡ at₀ + length whole
  pub stored : sets out at rest ≡ sets out₀ at₀ whole

pub left_all : (whole : List ℕ) (at : ℕ) (out : List ℕ) → Left whole whole at out at out
left_all whole at out = record { place = refl; stored = refl }

pub left_next : {whole rest piece more out₀ out out' : List ℕ} {at₀ at at' : ℕ}
    → rest ≡ piece ++ more → Left whole rest at₀ out₀ at out → StoredAt piece at out out' at' → Left whole more at₀ out₀ at' out'
left_next {rest = rest} {piece = piece} {more = more} {out = out} {at = at} e t p =
    record {
      place = omega (arith, t.place, p.place, length-append piece more, ap length e);
      stored =
          (λ i. sets (p.stored i) (p.place i) more)
          ∙ sets_append out at piece more
          ∙ (λ i. sets out at (sym e i))
          ∙ t.stored;
    }

pub left_none : {whole rest out₀ out : List ℕ} {at₀ at : ℕ} → rest ≡ [] → Left whole rest at₀ out₀ at out → StoredAt whole at₀ out₀ out at
left_none {out = out} {at = at} e t =
    record { place = omega (arith, t.place, ap length e); stored = (λ i. sets out at (sym e i)) ∙ t.stored }

-- storing keeps the buffer's length
pub stored_kept : {a l m : List ℕ} {at n : ℕ} → StoredAt a at l m n → length m ≡ length l
stored_kept {a} {l} {m} {at} t = ap length t.stored ∙ length-sets l at a

-- while a loop stores, the buffer keeps its length
pub left_kept : {whole rest out₀ out : List ℕ} {at₀ at : ℕ} → Left whole rest at₀ out₀ at out → length out ≡ length out₀
left_kept {whole} {rest} {out₀} {out} {at₀} {at} t =
    sym (length-sets out at rest) ∙ ap length t.stored ∙ length-sets out₀ at₀ whole

-- what is stored in front of a buffer
pub stored_front : {piece before after : List ℕ} {next : ℕ} → StoredAt piece 0 before after next → next ≤ length before
    → take next after ≡ piece
stored_front {piece} {before} {next = next} t h =
    let long : length piece ≡ next = omega (arith, t.place) in
    ap (take next) (t.stored ∙ sets-eq piece before 0 (omega arith)) ∙ take_at piece (drop (0 + length piece) before) next long
