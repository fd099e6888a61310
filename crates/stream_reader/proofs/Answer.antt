-- The result from net bits, the tests 11 to 14, and the message buffer at exit.
-- Assumes nothing.
use Prim.Native.Nat.{ℕ, suc, ◌-◌, ◌≤◌, ◌<◌}
use mathlib.Core.Path.{◌≡◌, refl, sym, ap, ◌∙◌}
use mathlib.Core.Logic.{◌⊎◌, inl, inr}
use mathlib.Core.Bool.{true}
use mathlib.Core.List.{List, [], ◌∷◌, ◌++◌}
use native.Mathlib.Omega.{arith}
use lib.ListN.{length, take}
use lib.Seq.{sets, length-sets}
use borrow.Author.Tests.{lt-ltb, le-ltb}
use Rattle.std.specs.Prelude.{Ok, Err}
use Rattle.symbology.specs.Bits.{any_one}
use Rattle.symbology.specs.Stream.{decode}
use Rattle.symbology.specs.Net.{up_to_last_one, stream_in}
use Rattle.laws.proofs.Ranges.{by}
use Rattle.laws.proofs.Net.{up_to_none, none_up_to}
use Rattle.laws.proofs.Stream.{decode_number}
use Rattle.calls.specs.declared.Refusal.{Refusal}
use Rattle.calls.specs.declared.Refusal.TheVariants.{OutOfRange, BadList, BadCapacity, OtherMatrix, ShortWork, NoRoom, BadModule}
use Rattle.calls.specs.declared.Refusal.TheVariants.{StuckWord, ShortPlaces, SpareOne, NoEndMark, BadCode, EciOrFnc1, Overfull}
use Rattle.calls.specs.declared.Answer.{Answer}
use Rattle.calls.specs.Answers.{stream_refused}
use Rattle.calls.specs.Refusals.{refusal_number, answer_of, stream_told}
use Rattle.calls.specs.Tests.{first_of, stream_rows}
use Rattle.calls.specs.Read.{message_in_net, front_after, stream_answer}
use Rattle.call_laws.proofs.Answers.{refused_front}
use Rattle.stream_reader.specs.declared.StreamCount.{StreamCount}
use Rattle.stream_reader.specs.Reading.{StreamRead, NetRead}

-- no refusal has the number 0
refusal_some : (r : Refusal) → refusal_number r ≡ 0 → ⊥
refusal_some OutOfRange e = omega arith
refusal_some (BadList place) e = omega arith
refusal_some BadCapacity e = omega arith
refusal_some OtherMatrix e = omega arith
refusal_some ShortWork e = omega arith
refusal_some NoRoom e = omega arith
refusal_some (BadModule place) e = omega arith
refusal_some StuckWord e = omega arith
refusal_some ShortPlaces e = omega arith
refusal_some SpareOne e = omega arith
refusal_some NoEndMark e = omega arith
refusal_some BadCode e = omega arith
refusal_some EciOrFnc1 e = omega arith
refusal_some Overfull e = omega arith

-- a pass over an empty part of the buffer leaves the buffer
part_kept : (before bytes : List ℕ) {last : List ℕ} → last ≡ sets [] 0 bytes → last ++ before ≡ before
part_kept before bytes {last} e = none last (omega (arith, ap length e, length-sets {A = ℕ} [] 0 bytes))
  where
    none : (l : List ℕ) → length l ≡ 0 → l ++ before ≡ before
    none [] h = refl
    none (x ∷ l) h = absurd (omega arith)

-- what is known after the first pass: there is an end mark, and the stream before it was read into an empty buffer
pub record Counted (net : List ℕ) (mark : ℕ) (last : List ℕ) (r : StreamCount) : Type 0 where
  pub marked : up_to_last_one net ≡ suc mark
  pub first : StreamRead (decode (take mark net)) [] last r

-- the bits before the end mark are the stream
stream_is : (net : List ℕ) {mark : ℕ} → up_to_last_one net ≡ suc mark → take mark net ≡ stream_in net
unfolding stream_in
stream_is net {mark} e = let less : suc mark - 1 ≡ mark = omega arith in rw (e, less)

module _ (net : List ℕ) (room : ℕ) (before : List ℕ) where
  -- a refusal leaves the buffer
  refusing : (r : Refusal) {after : List ℕ} → after ≡ before
      → stream_answer net room ≡ stream_refused (refusal_number r) 0 → NetRead net room before after (stream_told (Err r))
  refusing r kept same =
      record {
        answer_is = sym same;
        message_is = kept ∙ sym (refused_front (refusal_number r) (message_in_net net) before (refusal_some r));
      }

  pub all_zero : up_to_last_one net ≡ 0 → NetRead net room before before (stream_told (Err NoEndMark))
  unfolding stream_answer stream_rows first_of
  all_zero none = refusing NoEndMark refl (rw (up_to_none net none))

  module _ {mark : ℕ} {last : List ℕ} {r : StreamCount} (c : Counted net mark last r) where
    marked : any_one net ≡ true
    marked = by (any_one net) (λ e. e) (λ e. absurd (let n = none_up_to net e in let m = c.marked in omega arith))

    kept : last ++ before ≡ before
    kept = part_kept before (decode (take mark net)).bytes c.first.stored

    number_is : (answer_of r.end).number ≡ (decode (stream_in net)).number
    number_is = ap (λ (a : Answer). a.number) c.first.end_is ∙ ap (λ (s : List ℕ). (decode s).number) (stream_is net c.marked)

    length_is : r.count ≡ length (message_in_net net)
    length_is = c.first.count_is ∙ ap (λ (s : List ℕ). length (decode s).bytes) (stream_is net c.marked)

    -- the stream's number is one of 12 and 13, each of which has its row
    stream_number : (n : ℕ) → n ≡ (decode (stream_in net)).number → (n ≡ 0 → ⊥) → (n ≡ 0) ⊎ (n ≡ 12) ⊎ (n ≡ 13)
        → stream_answer net room ≡ stream_refused n 0
    unfolding stream_answer stream_rows first_of
    stream_number n is some (inl e) = absurd (some e)
    stream_number n is some (inr (inl e)) = rw (marked, sym is, e)
    stream_number n is some (inr (inr e)) = rw (marked, sym is, e)

    pub bad_code_lem : {e : Refusal} → r.end ≡ Err e → NetRead net room before (last ++ before) (stream_told (Err e))
    bad_code_lem {e} is =
        let n : refusal_number e ≡ (decode (stream_in net)).number = rw is at number_is in
        refusing e kept (stream_number (refusal_number e) n (refusal_some e) (rw n (decode_number (stream_in net))))

    -- the stream read to its end without a refusal
    read : {u : Unit} → r.end ≡ Ok u → (decode (stream_in net)).number ≡ 0
    read is = sym (rw is at number_is)

    pub no_room_lem : {u : Unit} → r.end ≡ Ok u → room < r.count → NetRead net room before (last ++ before) (stream_told (Err Overfull))
    unfolding stream_answer stream_rows first_of
    no_room_lem is h =
        let more : room < length (message_in_net net) = omega (arith, length_is) in
        refusing Overfull kept (rw (marked, read is, lt-ltb room (length (message_in_net net)) more))

    pub message_read : {u : Unit} {after : List ℕ} {second : StreamCount} → r.end ≡ Ok u → r.count ≤ room
        → StreamRead (decode (take mark net)) (last ++ before) after second
        → NetRead net room before after (stream_told (Ok second.count))
    unfolding stream_answer stream_rows first_of front_after
    message_read {u} {after} {second} is h read_again =
        let bytes : List ℕ = message_in_net net in
        let fits : length bytes ≤ room = omega (arith, length_is) in
        let long : second.count ≡ length bytes =
        read_again.count_is ∙ ap (λ (s : List ℕ). length (decode s).bytes) (stream_is net c.marked) in
        let stored : after ≡ sets before 0 bytes = read_again.stored ∙ rw (stream_is net c.marked, kept) in
        record { answer_is = rw (marked, read is, long, le-ltb room (length bytes) fits); message_is = stored }
