-- What the tests 1 to 5 say, one lemma for each way through them.
-- Assumes nothing.
use Prim.Native.Nat.{ℕ, ◌*◌, ◌≤◌, ◌<◌}
use mathlib.Core.Path.{◌≡◌, refl, sym, ap, ◌∙◌}
use mathlib.Core.Bool.{true, false, or-true}
use mathlib.Core.List.{List, [], ◌∷◌}
use native.Mathlib.Omega.{arith}
use lib.Dec.{ltb}
use borrow.Author.Tests.{lt-ltb, le-ltb, eq-eqb, ne_eqb}
use Rattle.symbology.specs.declared.Params.{Params}
use Rattle.symbology.specs.declared.Sizes.{Sizes}
use Rattle.symbology.specs.Parameters.{in_range}
use Rattle.symbology.specs.Reserved.{list_verdict, list_number, list_place}
use Rattle.symbology.specs.Capacity.{sizes_of, sizes_for}
use Rattle.calls.specs.declared.Answer.{Answer}
use Rattle.calls.specs.declared.Refusal.{Refusal}
use Rattle.calls.specs.Answers.{answer, no_sizes, the_sizes}
use Rattle.calls.specs.Refusals.{told, sizes_told}
use Rattle.calls.specs.Tests.{first_of, passes, other_matrix, short_work, size_rows, front_rows}
use Rattle.calls.specs.Sizes.{sizes_answer}
use Rattle.call_laws.proofs.Tests.{Each, Numbered, first_passed, first_refuses, legal_symbol}
use Rattle.std.specs.Prelude.{Result, Ok, Err}
use Rattle.legality.specs.Verdict.{verdict_of}
use Rattle.legality.proofs.Verdicts.{behind_passed, legal_passes, passed_sizes, refused_answer, refused_numbered, refused_front}

-- ---- the tests 1 to 3

module _ (p : Params) (l : List ℕ) where
  abbrev given : Result Sizes Answer
  given = verdict_of (size_rows p l) (sizes_for p l)

  -- test 1 holds
  pub out_of_range_lem : in_range p ≡ false → given ≡ Err (answer 1 0)
  unfolding verdict_of first_of size_rows
  out_of_range_lem range = rw range

  -- test 2
  pub faulty : in_range p ≡ true → (place : ℕ) → list_verdict p l ≡ Err place → given ≡ Err (answer 2 place)
  unfolding verdict_of first_of size_rows list_number list_place
  faulty range place fault = rw (range, fault)

  module _ (range : in_range p ≡ true) (sound : list_verdict p l ≡ Ok tt) (s : Sizes) (is : s ≡ sizes_for p l) where
    wr_is : s.wr ≡ p.wr
    unfolding sizes_of
    wr_is = ap (λ (z : Sizes). z.wr) is

    -- test 3, by the least capacity
    pub too_small : s.capacity < s.wr → given ≡ Err (answer 3 0)
    unfolding verdict_of first_of size_rows list_number
    too_small less =
        let few : s.capacity < p.wr = omega (arith, wr_is) in
        rw (range, sound, ← is, lt-ltb s.capacity p.wr few)

    -- test 3, by the most
    pub too_large : 4096 < s.capacity → given ≡ Err (answer 3 0)
    unfolding verdict_of first_of size_rows list_number
    too_large more = rw (range, sound, ← is, lt-ltb 4096 s.capacity more, or-true (ltb s.capacity p.wr))

    -- none of them
    pub none_holds : s.wr ≤ s.capacity → s.capacity ≤ 4096 → given ≡ Ok s
    unfolding verdict_of first_of size_rows list_number
    none_holds least most =
        let enough : p.wr ≤ s.capacity = omega (arith, wr_is) in
        rw (range, sound, ← is, le-ltb s.capacity p.wr enough, le-ltb 4096 s.capacity most)

-- ---- after the verdict v of the tests 1 to 3

module _ (p : Params) (l : List ℕ) {v : Result Sizes Answer} (told : v ≡ verdict_of (size_rows p l) (sizes_for p l)) where
  numbered : Each Numbered (size_rows p l)
  unfolding size_rows Each
  numbered = (omega arith, (omega arith, (omega arith, tt)))

  -- it is a refusal
  module _ {a : Answer} (e : v ≡ Err a) where
    pub sizes_refused : sizes_answer p l ≡ no_sizes a.number a.place
    unfolding sizes_answer
    sizes_refused =
        first_refuses no_sizes (size_rows p l) (the_sizes (sizes_for p l)) a
        (refused_answer (size_rows p l) (sizes_for p l) numbered told e) (refused_numbered (size_rows p l) (sizes_for p l) numbered told e)

    -- so it is that of the tests 1 to 5
    pub front_first : (modules work : ℕ) → verdict_of (front_rows p l modules work) (sizes_for p l) ≡ v
    unfolding front_rows
    front_first modules work =
        refused_front (size_rows p l) (sizes_for p l) numbered told e (other_matrix p l modules ∷ short_work p l work ∷ [])

  -- they are passed
  module _ {s : Sizes} (e : v ≡ Ok s) where
    passed : passes (size_rows p l) ≡ true
    passed = legal_passes (size_rows p l) (sizes_for p l) numbered told e

    pub sizes_are : s ≡ sizes_for p l
    sizes_are = passed_sizes (size_rows p l) (sizes_for p l) numbered told e

    pub range_passed : in_range p ≡ true
    range_passed = (legal_symbol p l passed).inside_range

    pub sizes_given : sizes_answer p l ≡ the_sizes s
    unfolding sizes_answer
    sizes_given = first_passed no_sizes (size_rows p l) (the_sizes (sizes_for p l)) passed ∙ ap the_sizes (sym sizes_are)

    -- ---- the tests 4 and 5

    module _ (modules work : ℕ) where
      abbrev whole : Result Sizes Answer
      whole = verdict_of (front_rows p l modules work) (sizes_for p l)

      front_rest : whole ≡ verdict_of (other_matrix p l modules ∷ short_work p l work ∷ []) (sizes_for p l)
      unfolding front_rows
      front_rest = behind_passed (size_rows p l) (other_matrix p l modules ∷ short_work p l work ∷ []) (sizes_for p l) passed

      -- test 4 holds
      pub not_the_matrix : (modules ≡ s.columns * s.rows → ⊥) → whole ≡ Err (answer 4 0)
      unfolding verdict_of first_of
      not_the_matrix other = front_rest ∙ rw (← sizes_are, ne_eqb modules (s.columns * s.rows) other)

      module _ (same : modules ≡ s.columns * s.rows) where
        -- test 5
        pub no_room_lem : work < s.work → whole ≡ Err (answer 5 0)
        unfolding verdict_of first_of
        no_room_lem less = front_rest ∙ rw (← sizes_are, eq-eqb modules (s.columns * s.rows) same, lt-ltb work s.work less)

        -- none of them
        pub front_none : s.work ≤ work → whole ≡ Ok s
        unfolding verdict_of first_of
        front_none enough = front_rest ∙ rw (← sizes_are, eq-eqb modules (s.columns * s.rows) same, le-ltb work s.work enough)

-- the answer of `sizes` for what the tests 1 to 3 say
pub sizes_said : (p : Params) (l : List ℕ) (r : Result Sizes Refusal) → told r ≡ verdict_of (size_rows p l) (sizes_for p l)
    → sizes_told r ≡ sizes_answer p l
sizes_said p l (Ok s) e = sym (sizes_given p l e refl)
sizes_said p l (Err r) e = sym (sizes_refused p l e refl)
