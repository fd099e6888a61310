-- Items in a buffer exchanged byte by byte, and permuted exchange by exchange, from the last one down.
-- Assumes nothing.
use Prim.Native.Nat.{ℕ, zero, suc, ◌+◌, ◌-◌, ◌*◌, ◌<◌}
use mathlib.Core.Path.{◌≡◌, refl}
use mathlib.Core.List.{List}
use native.Mathlib.Numerals.{add-one}
use native.Mathlib.Omega.{arith}
use lib.ListN.{get_or, set}
use Rattle.symbology.specs.Generator.{next_state}
use Rattle.symbology.specs.Shuffle.{drawn_place, exchanged}
use Rattle.shuffle.specs.Items.{exchanged_first, exchanged_items, permuted_items}

-- two stores are an exchange
pub stored_both : (i j : ℕ) (xs : List ℕ) → set (set xs i (get_or xs j 0)) j (get_or xs i 0) ≡ exchanged 0 i j xs
unfolding exchanged
stored_both i j xs = refl

pub first_none : (width at i j : ℕ) (xs : List ℕ) → exchanged_first 0 width at i j xs ≡ xs
unfolding exchanged_first
first_none width at i j xs = refl

pub first_next : (k width at i j : ℕ) (xs : List ℕ)
    → exchanged 0 (at + width * i + k) (at + width * j + k) (exchanged_first k width at i j xs) ≡ exchanged_first (k + 1) width at i j xs
unfolding exchanged_first
first_next k width at i j xs = rw (add-one k) refl

pub items_none : (width at s : ℕ) (xs : List ℕ) → permuted_items width at 0 s xs ≡ xs
unfolding permuted_items
items_none width at s xs = refl

-- n items left are one exchange and n - 1 items left
pub items_turn : (width at n s : ℕ) (xs : List ℕ) → 0 < n
    → permuted_items width at (n - 1) (next_state s) (exchanged_items width at (drawn_place (next_state s) (n - 1 + 1)) (n - 1) xs)
    ≡ permuted_items width at n s xs
unfolding permuted_items
items_turn width at zero s xs h = absurd (omega arith)
items_turn width at (suc n) s xs h =
    let e : suc n - 1 ≡ n = omega arith in
    rw (e, add-one n) refl
