-- A matrix sampled module by module, column by column from the left, each downwards. Columns and rows count from 0.
-- Assumes nothing.
use Prim.Native.Nat.{ℕ, ◌+◌, ◌*◌, ◌≤◌, ◌<◌}
use mathlib.Core.Path.{◌≡◌, sym, ap, ◌∙◌}
use mathlib.Core.Bool.{true}
use mathlib.Core.List.{List, ◌++◌}
use native.Mathlib.Nat.{mul-le-mul_left}
use native.Mathlib.Numerals.{add-one}
use native.Mathlib.Omega.{arith}
use lib.ListN.{length, take, drop, length-append}
use lib.Seq.{length-take-le, take_at, take-length, sets, length-sets, sets-eq}
use Rattle.symbology.specs.declared.Params.{Params}
use Rattle.std.specs.Prelude.{Ok}
use Rattle.symbology.specs.Parameters.{in_range}
use Rattle.symbology.specs.Sides.{columns, rows}
use Rattle.symbology.specs.Reserved.{list_verdict}
use Rattle.symbology.specs.Capacity.{bits_per_module, sizes_for}
use Rattle.symbology.specs.Placement.{rank, bits_at, sampled}
use Rattle.laws.specs.Sampling.{taken}
use Rattle.laws.proofs.Ranks.{data_total, rank_most}
use Rattle.laws.proofs.Placement.{taken_first, taken_next, taken_column, taken_last, length_taken, length_sampled}
use Rattle.laws.proofs.Sizes.{data_bits}
use Rattle.layout.specs.Walk.{SampledTo}

-- what stands before the end of a run of stores
take_sets : (o xs : List ℕ) (at : ℕ) → at + length xs ≤ length o → take (at + length xs) (sets o at xs) ≡ take at o ++ xs
take_sets o xs at h =
    let front : List ℕ = take at o ++ xs in
    let long : length front ≡ at + length xs =
    length-append (take at o) xs ∙ ap (λ (n : ℕ). n + length xs) (length-take-le at o (omega arith)) in
    ap (take (at + length xs)) (sets-eq xs o at h) ∙ take_at front (drop (at + length xs) o) (at + length xs) long

-- before the first module nothing is asked for
pub sampled_start : (p : Params) (l matrix out : List ℕ) → length out ≡ (sizes_for p l).capacity → SampledTo p l matrix out 0 0
sampled_start p l matrix out e = record { whole = e; first = rw (taken_first p l matrix) }

module _ {p : Params} {l matrix out : List ℕ} where
  -- the bits of the module (c, r), before which k data modules stand, are stored
  pub sampled_next : {c r : ℕ}
      → SampledTo p l matrix out c r
      → in_range p ≡ true
      → list_verdict p l ≡ Ok tt
      → c < columns p
      → r < rows p
      → (k : ℕ)
      → k ≡ rank p l c r
      → SampledTo p l matrix (sets out (bits_per_module p.colours * k) (bits_at p l matrix c r)) c (r + 1)
  sampled_next {c} {r} s range sound inside below k e =
      let depth : ℕ = bits_per_module p.colours in
      let before : List ℕ = taken p l matrix c r in
      let here : List ℕ = bits_at p l matrix c r in
      let more : taken p l matrix c (r + 1) ≡ before ++ here = ap (taken p l matrix c) (add-one r) ∙ taken_next p l matrix c r in
      let place : depth * k ≡ length before = ap (λ (n : ℕ). depth * n) e ∙ sym (length_taken p l matrix c r) in
      let long : length before + length here ≡ depth * rank p l c (r + 1)
      = sym (length-append before here) ∙ ap length (sym more) ∙ length_taken p l matrix c (r + 1) in
      let most : depth * rank p l c (r + 1) ≤ depth * data_total p l =
      mul-le-mul_left depth (rank_most p l c (r + 1) inside (omega arith)) in
      let fits : length before + length here ≤ length out = omega (arith, long, most, data_bits p l range sound, s.whole) in
      record {
        whole = length-sets out (depth * k) here ∙ s.whole;
        first =
            rw (place, more, length-append before here)
            (take_sets out here (length before) fits ∙ ap (λ (x : List ℕ). x ++ here) s.first);
      }

  -- the column c is sampled
  pub sampled_column : {c : ℕ} → SampledTo p l matrix out c (rows p) → SampledTo p l matrix out (c + 1) 0
  sampled_column {c} s = record { whole = s.whole; first = rw (add-one c, ← (taken_column p l matrix c)) s.first }

  -- all columns are sampled
  pub sampled_all : SampledTo p l matrix out (columns p) 0 → in_range p ≡ true → list_verdict p l ≡ Ok tt → out ≡ sampled p l matrix
  sampled_all s range sound =
      let long : length (sampled p l matrix) ≡ length out = length_sampled p l matrix ∙ data_bits p l range sound ∙ sym s.whole in
      sym (take-length out) ∙ rw (← long, ← (taken_last p l matrix)) s.first
