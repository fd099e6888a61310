-- Sums over a side: what only the five coordinates around each core count for is counted core by core.
-- Assumes nothing.
use Prim.Native.Nat.{ℕ, suc, ◌+◌, ◌-◌, ◌≤◌, ◌<◌}
use mathlib.Core.Path.{◌≡◌, refl, ap, ◌∙◌}
use mathlib.Core.Bool.{Bool, true, false, cond, ◌&&◌}
use mathlib.Core.List.{List, [], ◌∷◌}
use native.Mathlib.Omega.{arith}
use lib.Dec.{leb}
use lib.ListN.{length}
use borrow.Author.Tests.{leb-true, le-leb, lt-leb}
use Rattle.symbology.specs.declared.Near.{Near}
use Rattle.std.specs.Prelude.{Option, Some, None}
use Rattle.symbology.specs.Ranges.{sum_from}
use Rattle.symbology.specs.Patterns.{near_core}
use Rattle.symbology.proofs.Ranges.{and_left, and_right}
use Rattle.symbology.proofs.Sides.{spaced}
use Rattle.laws.proofs.Sums.{sum_ext, sum_split, sum_zero, sum_from_lem}

-- ---- windows

-- what a coordinate counts for: nothing apart from all cores, else a number of its core and offset
abbrev pub count_near : (ℕ → ℕ → ℕ) → Option Near → ℕ
count_near g None = 0
count_near g (Some near) = g near.core near.offset

near_first : (k c x : ℕ) (cs : List ℕ) → c ≤ x + 2 → x ≤ c + 2 → near_core k (c ∷ cs) x ≡ Some (record { core = k; offset = x + 2 - c })
unfolding near_core
near_first k c x cs p q = rw (le-leb c (x + 2) p, le-leb x (c + 2) q)

near_before : (k c x : ℕ) (cs : List ℕ) → x + 2 < c → near_core k (c ∷ cs) x ≡ near_core (suc k) cs x
unfolding near_core
near_before k c x cs p = rw (lt-leb c (x + 2) p)

near_behind : (k c x : ℕ) (cs : List ℕ) → c + 2 < x → near_core k (c ∷ cs) x ≡ near_core (suc k) cs x
unfolding near_core
near_behind k c x cs p = go (leb c (x + 2)) (leb x (c + 2)) (lt-leb x (c + 2) p)
  where
    go : (a b : Bool) → b ≡ false
        → cond (a && b) (Some (record { core = k; offset = x + 2 - c })) (near_core (suc k) cs x) ≡ near_core (suc k) cs x
    go true b e = rw e refl
    go false b e = refl

spaced_head : (a e c : ℕ) (cs : List ℕ) → spaced a e (c ∷ cs) ≡ true → a + 2 ≤ c
spaced_head a e c cs s = leb-true (a + 2) c (and_left (leb (a + 2) c) (spaced (c + 3) e cs) s)

spaced_tail : (a e c : ℕ) (cs : List ℕ) → spaced a e (c ∷ cs) ≡ true → spaced (c + 3) e cs ≡ true
spaced_tail a e c cs s = and_right (leb (a + 2) c) (spaced (c + 3) e cs) s

spaced_end : (a e : ℕ) (cs : List ℕ) → spaced a e cs ≡ true → a ≤ e
spaced_end a e [] s = leb-true a e s
spaced_end a e (c ∷ cs) s = omega (arith, spaced_head a e c cs s, spaced_end (c + 3) e cs (spaced_tail a e c cs s))

-- before all windows lies no core
apart_before : (k a e x : ℕ) (cs : List ℕ) → spaced a e cs ≡ true → x < a → near_core k cs x ≡ None
unfolding near_core
apart_before k a e x [] s h = refl
apart_before k a e x (c ∷ cs) s h =
    let head : a + 2 ≤ c = spaced_head a e c cs s in
    near_before k c x cs (omega arith) ∙ apart_before (suc k) (c + 3) e x cs (spaced_tail a e c cs s) (omega arith)

-- the window of the first core, from two modules before it on
first_window : (g : ℕ → ℕ → ℕ) (k c : ℕ) (cs : List ℕ) → 2 ≤ c
    → sum_from (c - 2) 5 (λ x. count_near g (near_core k (c ∷ cs) x)) ≡ sum_from 0 5 (g k)
first_window g k c cs h =
    sum_from_lem (λ x. count_near g (near_core k (c ∷ cs) x)) (c - 2) 5
    ∙ sum_ext (λ o. count_near g (near_core k (c ∷ cs) (c - 2 + o))) (g k) 0 5 (λ o p q. offset o (omega arith))
  where
    offset : (o : ℕ) → o < 5 → count_near g (near_core k (c ∷ cs) (c - 2 + o)) ≡ g k o
    offset o q =
        let same : c - 2 + o + 2 - c ≡ o = omega arith in
        ap (count_near g) (near_first k c (c - 2 + o) cs (omega arith) (omega arith)) ∙ ap (g k) same

-- a side cut at the window of its first core: nothing before it, the window, the other windows
first_cut : (g : ℕ → ℕ → ℕ) (k a n c : ℕ) (cs : List ℕ) → spaced a (a + n) (c ∷ cs) ≡ true
    → sum_from a n (λ x. count_near g (near_core k (c ∷ cs) x))
    ≡ sum_from 0 5 (g k) + sum_from (c + 3) (a + n - (c + 3)) (λ x. count_near g (near_core (suc k) cs x))
first_cut g k a n c cs s =
    let near : ℕ → ℕ = λ x. count_near g (near_core k (c ∷ cs) x) in
    let later : ℕ → ℕ = λ x. count_near g (near_core (suc k) cs x) in
    let tail : spaced (c + 3) (a + n) cs ≡ true = spaced_tail a (a + n) c cs s in
    let head : a + 2 ≤ c = spaced_head a (a + n) c cs s in
    let end : c + 3 ≤ a + n = spaced_end (c + 3) (a + n) cs tail in
    let m : ℕ = c - 2 - a in
    let r : ℕ = a + n - (c + 3) in
    let parts : n ≡ m + (5 + r) = omega arith in
    let start : a + m ≡ c - 2 = omega arith in
    let behind : c - 2 + 5 ≡ c + 3 = omega arith in
    let before : sum_from a m near ≡ 0 = sum_zero near a m (λ x p q.
    ap (count_near g) (near_before k c x cs (omega arith) ∙ apart_before (suc k) (c + 3) (a + n) x cs tail (omega arith))) in
    let others : sum_from (c + 3) r near ≡ sum_from (c + 3) r later = sum_ext near later (c + 3) r (λ x p q.
    ap (count_near g) (near_behind k c x cs (omega arith))) in
    let whole : sum_from a n near ≡ sum_from a m near + sum_from (a + m) (5 + r) near =
    ap (λ (i : ℕ). sum_from a i near) parts ∙ sum_split near a m (5 + r) in
    let rest : sum_from (a + m) (5 + r) near ≡ sum_from (c - 2) 5 near + sum_from (c + 3) r near =
    ap (λ (i : ℕ). sum_from i (5 + r) near) start ∙ sum_split near (c - 2) 5 r
    ∙ ap (λ (i : ℕ). sum_from (c - 2) 5 near + sum_from i r near) behind in
    omega (arith, first_window g k c cs (omega arith))

-- What counts only near a core, summed over a side, is the sum over the five offsets of every core.
pub windows : (g : ℕ → ℕ → ℕ) (k a n : ℕ) (cs : List ℕ) → spaced a (a + n) cs ≡ true
    → sum_from a n (λ x. count_near g (near_core k cs x)) ≡ sum_from k (length cs) (λ i. sum_from 0 5 (g i))
unfolding near_core sum_from
windows g k a n [] s = sum_zero (λ x. 0) a n (λ x p q. refl)
windows g k a n (c ∷ cs) s =
    let tail : spaced (c + 3) (a + n) cs ≡ true = spaced_tail a (a + n) c cs s in
    let end : c + 3 + (a + n - (c + 3)) ≡ a + n = omega (arith, spaced_end (c + 3) (a + n) cs tail) in
    first_cut g k a n c cs s
    ∙ ap (λ (x : ℕ). sum_from 0 5 (g k) + x) (windows g (suc k) (c + 3) (a + n - (c + 3)) cs (rw end tail))
