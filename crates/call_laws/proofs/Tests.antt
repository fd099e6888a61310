-- Laws of tables of tests, for any table; and what the tests 1 to 5 say of parameters, list and buffers that pass them.
-- Assumes nothing.
use Prim.Native.Nat.{ℕ, zero, suc, ◌*◌, ◌≤◌, ◌<◌}
use mathlib.Core.Path.{◌≡◌, refl, sym, ap, ◌∙◌}
use mathlib.Core.Bool.{Bool, true, false, cond, not, ◌&&◌, ◌||◌}
use mathlib.Core.Logic.{◌⊎◌, inl, inr}
use mathlib.Core.List.{List, [], ◌∷◌, ◌++◌, map}
use native.Mathlib.Nat.{le_of_suc-le-suc}
use native.Mathlib.Omega.{arith}
use native.Mathlib.Decide.{dec_lt}
use lib.Dec.{eqb, ltb}
use lib.ListN.{length, get_or}
use borrow.Author.Tests.{ltb-false, eqb-true, eqb-false, not-true, not-false, le-ltb, eq-eqb}
use Rattle.symbology.specs.declared.Params.{Params}
use Rattle.symbology.specs.declared.Sizes.{Sizes}
use Rattle.std.specs.Prelude.{Result, Ok, Err}
use Rattle.symbology.specs.Ranges.{all_hold, lowest, has}
use Rattle.symbology.specs.Parameters.{in_range}
use Rattle.symbology.specs.Reserved.{list_verdict, list_number}
use Rattle.symbology.specs.Capacity.{sizes_for}
use Rattle.symbology.proofs.Ranges.{clash, and_left, and_right}
use Rattle.laws.proofs.Ranges.{or_left, or_right, lowest_holds, lowest_before, has_first, has_wider}
use Rattle.laws.proofs.Sizes.{LegalSymbol}
use Rattle.calls.specs.declared.Answer.{Answer}
use Rattle.calls.specs.Answers.{answer}
use Rattle.calls.specs.Tests.{Row, first_of, passes, no_room, size_rows, front_rows, write_rows, is_legal}

-- ---- a fact of each row

unfoldable pub Each : (Row → Type 0) → List Row → Type 0
Each P [] = Unit {0}
Each P (r ∷ rs) = P r × Each P rs

-- a fact of every row there is
pub each_all : (P : Row → Type 0) → ((r : Row) → P r) → (rs : List Row) → Each P rs
unfolding Each
each_all P f [] = tt
each_all P f (r ∷ rs) = (f r, each_all P f rs)

-- what follows from a fact of a row
pub each_map : (P Q : Row → Type 0) → ((r : Row) → P r → Q r) → (rs : List Row) → Each P rs → Each Q rs
unfolding Each
each_map P Q f [] e = tt
each_map P Q f (r ∷ rs) e = (f r e.0, each_map P Q f rs e.1)

pub each_append : (P : Row → Type 0) (rs ss : List Row) → Each P rs → Each P ss → Each P (rs ++ ss)
unfolding Each
each_append P [] ss f g = g
each_append P (r ∷ rs) ss f g = (f.0, each_append P rs ss f.1 g)

-- the numbers of a table, in order
abbrev pub numbers_of : List Row → List ℕ
numbers_of rs = map (λ r. r.number) rs

-- each row's number is one of the table's
pub each_listed : (rs : List Row) → Each (λ r. has r.number (numbers_of rs) ≡ true) rs
unfolding Each
each_listed [] = tt
each_listed (r ∷ rs) = (
  has_first r.number (numbers_of rs),
  each_map (λ s. has s.number (numbers_of rs) ≡ true) (λ s. has s.number (numbers_of (r ∷ rs)) ≡ true)
      (λ s e. has_wider s.number r.number (numbers_of rs) e) rs (each_listed rs),
)

-- a computed test of each row
pub each_computed : (f : Row → Bool) (rs : List Row) → all_hold (map f rs) ≡ true → Each (λ r. f r ≡ true) rs
unfolding Each all_hold
each_computed f [] e = tt
each_computed f (r ∷ rs) e =
    let others : Bool = all_hold (map f rs) in
    (and_left (f r) others e, each_computed f rs (and_right (f r) others e))

-- where no row has the number n, whatever is said of the rows that have it
pub each_other : (n : ℕ) (Q : Row → Type 0) (rs : List Row)
    → has n (numbers_of rs) ≡ false
    → Each (λ r. r.test ≡ true → r.number ≡ n → Q r) rs
unfolding Each has
each_other n Q [] e = tt
each_other n Q (r ∷ rs) e =
    let others : Bool = has n (numbers_of rs) in (
      λ t z. absurd (eqb-false n r.number (or_left (eqb n r.number) others e) (sym z)),
      each_other n Q rs (or_right (eqb n r.number) others e),
    )

-- the row's test fails
abbrev pub Fails : Row → Type 0
Fails r = r.test ≡ false

-- it gives a number that is not 0
abbrev pub Numbered : Row → Type 0
Numbered r = 0 < r.number

-- a table passes where each test fails
pub fails_pass : (rs : List Row) → Each Fails rs → passes rs ≡ true
unfolding Each passes
fails_pass [] f = refl
fails_pass (r ∷ rs) f = rw f.0 (fails_pass rs f.1)

pub pass_fails : (rs : List Row) → passes rs ≡ true → Each Fails rs
unfolding Each passes
pass_fails [] e = tt
pass_fails (r ∷ rs) e =
    let here : not r.test ≡ true = and_left (not r.test) (passes rs) e in
    (not-true r.test here, pass_fails rs (and_right (not r.test) (passes rs) e))

pub pass_append : (rs ss : List Row) → passes (rs ++ ss) ≡ (passes rs && passes ss)
unfolding passes
pass_append [] ss = refl
pass_append (r ∷ rs) ss = go r.test (pass_append rs ss)
  where
    go : (t : Bool) → passes (rs ++ ss) ≡ (passes rs && passes ss) → (not t && passes (rs ++ ss)) ≡ ((not t && passes rs) && passes ss)
    go true e = refl
    go false e = e

-- both parts of a table that passes pass
pub pass_front : (rs ss : List Row) → passes (rs ++ ss) ≡ true → passes rs ≡ true
pass_front rs ss e = and_left (passes rs) (passes ss) (sym (pass_append rs ss) ∙ e)

pub pass_behind : (rs ss : List Row) → passes (rs ++ ss) ≡ true → passes ss ≡ true
pass_behind rs ss e = and_right (passes rs) (passes ss) (sym (pass_append rs ss) ∙ e)

-- ---- the answer of a table

module _ {A : Type 0} (refusal : ℕ → ℕ → A) where
  -- the first row's test holds: its answer
  pub first_hit : (r : Row) (rs : List Row) (d : A) → r.test ≡ true → first_of refusal (r ∷ rs) d ≡ refusal r.number r.place
  unfolding first_of
  first_hit r rs d e = rw e refl

  -- it fails: the answer of the other rows
  pub first_miss : (r : Row) (rs : List Row) (d : A) → r.test ≡ false → first_of refusal (r ∷ rs) d ≡ first_of refusal rs d
  unfolding first_of
  first_miss r rs d e = rw e refl

  -- no row is left
  pub first_none : (d : A) → first_of refusal [] d ≡ d
  unfolding first_of
  first_none d = refl

  pub first_append : (rs ss : List Row) (d : A) → first_of refusal (rs ++ ss) d ≡ first_of refusal rs (first_of refusal ss d)
  unfolding first_of
  first_append [] ss d = refl
  first_append (r ∷ rs) ss d = ap (λ (x : A). cond r.test (refusal r.number r.place) x) (first_append rs ss d)

  -- A row's answer is given where its test holds and no test before it does.
  pub first_given : (rs : List Row) (d : A) (z : Row) (i : ℕ)
      → i < length rs
      → (get_or rs i z).test ≡ true
      → ((j : ℕ) → j < i → (get_or rs j z).test ≡ false)
      → first_of refusal rs d ≡ refusal (get_or rs i z).number (get_or rs i z).place
  first_given [] d z i h holds none = absurd (omega arith)
  first_given (r ∷ rs) d z zero h holds none = first_hit r rs d holds
  first_given (r ∷ rs) d z (suc i) h holds none =
      first_miss r rs d (none 0 (omega arith)) ∙ first_given rs d z i (le_of_suc-le-suc h) holds (λ j k. none (suc j) (omega arith))

  -- The last answer is given where no test holds.
  pub first_passed : (rs : List Row) (d : A) → passes rs ≡ true → first_of refusal rs d ≡ d
  unfolding Each
  first_passed [] d e = first_none d
  first_passed (r ∷ rs) d e =
      let fails = pass_fails (r ∷ rs) e in
      first_miss r rs d fails.0 ∙ first_passed rs d (fails_pass rs fails.1)

  -- What each row's answer has where its test holds, and the last answer where none does, the table's answer has.
  pub first_keeps : (Q : A → Type 0) (rs : List Row) (d : A)
      → Each (λ r. r.test ≡ true → Q (refusal r.number r.place)) rs
      → (passes rs ≡ true → Q d)
      → Q (first_of refusal rs d)
  unfolding Each first_of passes
  first_keeps Q [] d each last = last refl
  first_keeps Q (r ∷ rs) d each last = go r.test each.0 last (first_keeps Q rs d each.1)
    where
      go : (t : Bool)
          → (t ≡ true → Q (refusal r.number r.place))
          → ((not t && passes rs) ≡ true → Q d)
          → ((passes rs ≡ true → Q d) → Q (first_of refusal rs d))
          → Q (cond t (refusal r.number r.place) (first_of refusal rs d))
      go true here l later = here refl
      go false here l later = later l

  -- Where the table's answer has the number 0, and no row's has, the table passes and the last answer has it.
  pub first_zero : (number : A → ℕ) (rs : List Row) (d : A)
      → Each (λ r. number (refusal r.number r.place) ≡ 0 → ⊥) rs
      → number (first_of refusal rs d) ≡ 0
      → (passes rs ≡ true) × (number d ≡ 0)
  first_zero number rs d each =
      let Q : A → Type 0 = λ a. number a ≡ 0 → (passes rs ≡ true) × (number d ≡ 0) in
      first_keeps Q rs d
      (each_map (λ r. number (refusal r.number r.place) ≡ 0 → ⊥) (λ r. r.test ≡ true → Q (refusal r.number r.place))
      (λ r never t z. absurd (never z)) rs each) (λ e z. (e, z))

  -- a function of the answer
  pub first_map : {B : Type 0} (f : A → B) (rs : List Row) (d : A)
      → f (first_of refusal rs d) ≡ first_of (λ (number place : ℕ). f (refusal number place)) rs (f d)
  unfolding first_of
  first_map f [] d = refl
  first_map {B} f (r ∷ rs) d = go r.test (first_map f rs d)
    where
      go : (t : Bool)
          → f (first_of refusal rs d) ≡ first_of (λ (number place : ℕ). f (refusal number place)) rs (f d)
          → f (cond t (refusal r.number r.place) (first_of refusal rs d))
          ≡ cond t (f (refusal r.number r.place)) (first_of (λ (number place : ℕ). f (refusal number place)) rs (f d))
      go true e = refl
      go false e = e

  -- Where a table refuses, it does so in every call, with the same number and place.
  pub first_refuses : (rs : List Row) (d : A) (a : Answer)
      → a ≡ first_of answer rs (answer 0 0)
      → (a.number ≡ 0 → ⊥)
      → first_of refusal rs d ≡ refusal a.number a.place
  unfolding first_of
  first_refuses [] d a told some = absurd (some (ap (λ (b : Answer). b.number) told))
  first_refuses (r ∷ rs) d a told some = go r.test told (first_refuses rs d a)
    where
      go : (t : Bool)
          → a ≡ cond t (answer r.number r.place) (first_of answer rs (answer 0 0))
          → (a ≡ first_of answer rs (answer 0 0) → (a.number ≡ 0 → ⊥) → first_of refusal rs d ≡ refusal a.number a.place)
          → cond t (refusal r.number r.place) (first_of refusal rs d) ≡ refusal a.number a.place
      go true e later = rw e refl
      go false e later = later e some

-- There is no third way: a table has a first row whose test holds, or none.
pub first_row : (rs : List Row) (z : Row)
    → ((i : ℕ) × (i < length rs) × ((get_or rs i z).test ≡ true) × ((j : ℕ) → j < i → (get_or rs j z).test ≡ false))
    ⊎ ((j : ℕ) → j < length rs → (get_or rs j z).test ≡ false)
first_row rs z =
    let f : ℕ → Bool = λ i. (get_or rs i z).test in
    let i : ℕ = lowest f (length rs) 0 in
    elim (dec_lt i (length rs)) [
      | yes h ↦ inl (i, h, lowest_holds f (length rs) 0 (omega arith), λ j k. lowest_before f (length rs) 0 j (omega arith) k)
      | no h ↦ inr (λ j k. lowest_before f (length rs) 0 j (omega arith) (omega arith))
    ]

-- The number 0 is given exactly where a table of numbers above 0 passes.
pub zero_passes : (rs : List Row) {a : Answer} → Each Numbered rs → a ≡ first_of answer rs (answer 0 0) → a.number ≡ 0 → passes rs ≡ true
zero_passes rs each told zero_is =
    let number : Answer → ℕ = λ b. b.number in
    (first_zero answer number rs (answer 0 0) (each_map Numbered (λ r. r.number ≡ 0 → ⊥) (λ r some z. absurd (omega arith)) rs each)
    (sym (ap number told) ∙ zero_is)).0

-- ---- the tests 1 to 5

-- parameters, list and buffers that are legal, one fact for each test
pub record Legal (p : Params) (l : List ℕ) (modules work : ℕ) : Type 0 where
  pub symbol : LegalSymbol p l
  pub whole : modules ≡ (sizes_for p l).columns * (sizes_for p l).rows
  pub enough : (sizes_for p l).work ≤ work

verdict_sound : (v : Result (Unit {0}) ℕ) → eqb (list_number v) 2 ≡ false → v ≡ Ok tt
unfolding list_number
verdict_sound (Ok s) e = refl
verdict_sound (Err k) e = clash refl e

sound_verdict : (v : Result (Unit {0}) ℕ) → v ≡ Ok tt → eqb (list_number v) 2 ≡ false
unfolding list_number
sound_verdict v e = rw e refl

-- What passes the tests 1 to 3 is a legal symbol.
pub legal_symbol : (p : Params) (l : List ℕ) → passes (size_rows p l) ≡ true → LegalSymbol p l
unfolding size_rows Each
legal_symbol p l e =
    let c : ℕ = (sizes_for p l).capacity in
    let fails = pass_fails (size_rows p l) e in
    let size : (ltb c p.wr || ltb 4096 c) ≡ false = fails.1.1.0 in
    record {
      inside_range = not-false (in_range p) fails.0;
      sound = verdict_sound (list_verdict p l) fails.1.0;
      least = ltb-false c p.wr (or_left (ltb c p.wr) (ltb 4096 c) size);
      most = ltb-false 4096 c (or_right (ltb c p.wr) (ltb 4096 c) size);
    }

-- A legal symbol passes them.
pub symbol_passes : (p : Params) (l : List ℕ) → LegalSymbol p l → passes (size_rows p l) ≡ true
unfolding size_rows passes
symbol_passes p l k =
    let c : ℕ = (sizes_for p l).capacity in
    let few : ltb c p.wr ≡ false = le-ltb c p.wr k.least in
    let many : ltb 4096 c ≡ false = le-ltb 4096 c k.most in
    rw (k.inside_range, sound_verdict (list_verdict p l) k.sound, few, many) refl

module _ (p : Params) (l : List ℕ) (modules work : ℕ) where
  -- Legal input passes each of the tests 1 to 5.
  pub legal : is_legal p l modules work ≡ true → Legal p l modules work
  unfolding is_legal front_rows Each
  legal e =
      let s : Sizes = sizes_for p l in
      let area : ℕ = s.columns * s.rows in
      record {
        symbol = legal_symbol p l (pass_front (size_rows p l) _ e);
        whole = eqb-true modules area (not-false (eqb modules area) (pass_fails _ (pass_behind (size_rows p l) _ e)).0);
        enough = ltb-false work s.work (pass_fails _ (pass_behind (size_rows p l) _ e)).1.0;
      }

  -- What passes each of the tests 1 to 5 is legal.
  pub legal_is : Legal p l modules work → is_legal p l modules work ≡ true
  unfolding is_legal front_rows passes
  legal_is k =
      let s : Sizes = sizes_for p l in
      let area : ℕ = s.columns * s.rows in
      pass_append (size_rows p l) _
      ∙ rw (symbol_passes p l k.symbol, eq-eqb modules area k.whole, le-ltb work s.work k.enough) refl

  -- each of the five has a number above 0
  pub front_numbered : Each Numbered (front_rows p l modules work)
  unfolding size_rows front_rows Each
  front_numbered = (omega arith, (omega arith, (omega arith, (omega arith, (omega arith, tt)))))

  -- so has the test of a write
  pub write_numbered : (stream : List ℕ) → Each Numbered (write_rows p l stream modules work)
  unfolding write_rows Each
  write_numbered stream = each_append Numbered (front_rows p l modules work) (no_room p l stream ∷ []) front_numbered (omega arith, tt)
