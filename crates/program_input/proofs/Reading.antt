-- What a read gave goes on behind what came before. Where the bytes are known, the clauses on what came leave no choice.
use Rattle.std.proofs.Common.{ℕ, List, ◌≡◌, ◌+◌, ◌≤◌, ◌<◌, ◌++◌, Option, None, Some, IfSome, arith, length, take, drop}
use Rattle.std.proofs.Common.{min, sym, ap, ◌∙◌, subst, le_refl, length-append}
use Rattle.std.proofs.Common.{drop_at, length-take-le}
use Rattle.std.proofs.lemmas.Slice.{take-put_mid_below}
use Rattle.std.specs.Io.KnownBytes.{Consumes, IsAtEnd}
use Rattle.std.proofs.KnownBytes.{Consumes-trans}
use borrow.Rule.Slice.PartMut.{put_mid, post_of}
use lib.Seq.{take-add, take-append-le, take-append_seam, drop-append_seam}
use Rattle.program_input.specs.Reading.{FilledFrom}

module _ (d k n : ℕ) (xs ys : List ℕ) (within : d ≤ length xs) (fits : n ≤ length ys) where
  -- the front of a list in which ys is written behind d elements
  take-put_mid_part : take (d + n) (put_mid d k xs ys) ≡ take d xs ++ take n ys
  take-put_mid_part =
      let written = put_mid d k xs ys in
      let after = post_of d k xs in
      let front = take-put_mid_below d k xs ys d (le_refl d) within in
      let behind = drop_at (take d xs) (ys ++ after) d (length-take-le d xs within) in
      let back = ap (take n) behind ∙ take-append-le n ys after fits in
      take-add d n written ∙ ap (λ l. l ++ take n (drop d written)) front ∙ ap (λ l. take d xs ++ l) back

-- what came is in the list, with what a read gave behind it
pub goes_on : (d k n : ℕ) (xs ys : List ℕ) (a b c : Option (List ℕ)) → Consumes a b (take d xs) → Consumes b c (take n ys)
    → d ≤ length xs → n ≤ length ys → Consumes a c (take (d + n) (put_mid d k xs ys))
goes_on d k n xs ys a b c before given within fits =
    subst (Consumes a c) (sym (take-put_mid_part d k n xs ys within fits)) (Consumes-trans a b c _ _ before given)

-- a count that is the whole room, or all that there is
count_of : (n room all rest : ℕ) → n ≤ room → all ≡ n + rest → (n < room → rest ≡ 0) → n ≡ min room all
count_of n room all rest within total none = grind arith

-- what came of known bytes, where the buffer is full or none is left
pub filled_from : (n : ℕ) (old left : Option (List ℕ)) (buffer : List ℕ) → n ≤ length buffer → Consumes old left (take n buffer)
    → (n < length buffer → IsAtEnd left) → IfSome old (λ xs. FilledFrom xs left buffer n)
filled_from n None left buffer within came end = tt
filled_from n (Some xs) None buffer within came end = absurd came
filled_from n (Some xs) (Some ys) buffer within came end =
    let long : length (take n buffer) ≡ n = length-take-le n buffer within in
    let total : length xs ≡ n + length ys = ap length came ∙ length-append (take n buffer) ys ∙ ap (λ k. k + length ys) long in
    let rest : ys ≡ drop n xs = cc (drop-append_seam (take n buffer) ys) in
    record {
      count = count_of n (length buffer) (length xs) (length ys) within total (λ h. ap length (end h));
      front = cc (take-append_seam (take n buffer) ys);
      rest = ap Some rest;
    }
