-- A buffer whose places from one on are cleared.
-- Assumes nothing.
use Prim.Native.Nat.{ℕ, ◌+◌, ◌-◌, ◌≤◌, ◌<◌}
use mathlib.Core.Path.{◌≡◌, sym, ap, ◌∙◌}
use mathlib.Core.List.{List, ◌++◌}
use native.Mathlib.Decide.{dec_lt}
use native.Mathlib.Omega.{arith}
use lib.ListN.{length, take, replicate, length-append, length-replicate, get_or-append, get_or-replicate}
use lib.Seq.{length-take-le, get_or-take, get_or-append-add, ext_get_or}
use Rattle.lent.specs.Buffer.{Cleared}

-- a buffer whose places from `from` on are cleared
pub cleared_rest : (from : ℕ) (xs ys : List ℕ) → from ≤ length xs → Cleared from (length xs) xs ys
    → ys ≡ take from xs ++ replicate (length xs - from) 0
cleared_rest from xs ys h c =
    let front : List ℕ = take from xs in
    let zeros : List ℕ = replicate (length xs - from) 0 in
    let long : length front ≡ from = length-take-le from xs h in
    let whole : length (front ++ zeros) ≡ length xs =
    omega (arith, length-append front zeros, length-replicate {A = ℕ} (length xs - from) 0) in
    ext_get_or 0 ys (front ++ zeros) (c.changed.long ∙ sym whole)
    (λ i g. elim (dec_lt i from) [
      | yes l ↦ c.changed.kept i (omega arith) ∙ sym (get_or-append front zeros 0 i (omega arith) ∙ get_or-take from xs i 0 l)
      | no l ↦
          let k : ℕ = i - from in
          let place : i ≡ length front + k = omega arith in
          let short : k < length xs - from = omega (arith, c.changed.long) in
          c.zero_in i (omega arith) (omega (arith, c.changed.long))
          ∙ sym (rw place (get_or-append-add front zeros k 0 ∙ get_or-replicate (length xs - from) k 0 0 short))
    ])

-- a buffer cleared whole
pub cleared_whole : (xs ys : List ℕ) {n : ℕ} → length xs ≡ n → Cleared 0 (length xs) xs ys → ys ≡ replicate n 0
cleared_whole xs ys {n} long c =
    let same : length xs - 0 ≡ n = omega arith in
    cleared_rest 0 xs ys (omega arith) c ∙ ap (λ (k : ℕ). replicate {A = ℕ} k 0) same
