-- The reading of a stream, code by code, with the bytes stored as they come.
-- Assumes nothing.
use Prim.Native.Nat.{ℕ, ◌+◌, ◌-◌, ◌≤◌, ◌<◌}
use mathlib.Core.Path.{◌≡◌, refl, sym, ap, ◌∙◌}
use mathlib.Core.Logic.{◌⊎◌, inl, inr}
use mathlib.Core.List.{List, [], ◌++◌}
use native.Mathlib.Omega.{arith}
use lib.ListN.{length, take, drop, length-drop}
use lib.Seq.{drop-drop}
use Rattle.symbology.specs.declared.Mode.{Mode}
use Rattle.symbology.specs.declared.Mode.TheVariants.{Upper}
use Rattle.symbology.specs.declared.Expected.{Expected}
use Rattle.symbology.specs.declared.Expected.TheVariants.{Latched}
use Rattle.symbology.specs.declared.ModeAnswer.{ModeAnswer}
use Rattle.symbology.specs.declared.ModeAnswer.TheVariants.{Next, EndOfMessage, Undefined, Eci, Fnc1}
use Rattle.symbology.specs.Bits.{value}
use Rattle.symbology.specs.Modes.{code_width, switch_of, bytes_of, mode_number, end_number}
use Rattle.symbology.specs.Stream.{Decoded, decode}
use Rattle.laws.proofs.Stream.{read_from, read_on, decode_from, read_step, read_short, bytes_few}
use Rattle.std.specs.Prelude.{Result}
use Rattle.calls.specs.declared.Refusal.{Refusal}
use Rattle.calls.specs.Answers.{answer}
use Rattle.calls.specs.Refusals.{answer_of}
use Rattle.pieces.specs.Pieces.{StoredAt}
use Rattle.pieces.proofs.Pieces.{stored_none, joined}
use Rattle.stream_reader.specs.Reading.{StreamRead}

-- the reading stands at a mode and an expected code, `at` bits on, with n bytes read and stored
pub record Stands (stream before : List ℕ) (m : Mode) (e : Expected) (at n : ℕ) (after : List ℕ) : Type 0 where
  pub read : List ℕ
  pub same : decode stream ≡ read_from m e (drop at stream) read
  pub stored : StoredAt read 0 before after n
  pub within : at ≤ length stream
  pub few : n ≤ at

-- a code read there: its w bits write v, and its bytes are stored behind the others
pub record Coded (stream after : List ℕ) (m : Mode) (e : Expected) (at n w v : ℕ) (later : List ℕ) (n' : ℕ) : Type 0 where
  pub width : w ≡ code_width m e
  pub whole : w ≤ length stream - at
  pub number : v ≡ value (take w (drop at stream))
  pub piece : StoredAt (bytes_of m e v) n after later n'

-- `Next` is variant 0 of a mode answer, and none of the others
pub no_other : (◌≡◌ {A = ℕ} 0 1) ⊎ (◌≡◌ {A = ℕ} 0 2) ⊎ (◌≡◌ {A = ℕ} 0 3) ⊎ (◌≡◌ {A = ℕ} 0 4) → ⊥
no_other (inl h) = omega arith
no_other (inr (inl h)) = omega arith
no_other (inr (inr (inl h))) = omega arith
no_other (inr (inr (inr h))) = omega arith

-- what a stream gave, with its bytes stored
given : {d : Decoded} {before after : List ℕ} {n : ℕ} {end : Result Unit Refusal} (d' : Decoded) → d ≡ d'
    → answer_of end ≡ answer d'.number 0 → StoredAt d'.bytes 0 before after n
    → StreamRead d before after (record { end = end; count = n })
given d' e k s = rw e (record { end_is = k; count_is = omega (arith, s.place); stored = s.stored })

-- the start
pub stands_first : (stream before : List ℕ) → Stands stream before Upper Latched 0 0 before
stands_first stream before =
    record { read = []; same = decode_from stream; stored = stored_none 0 before; within = omega arith; few = omega arith }

module _ {stream before after : List ℕ} {m : Mode} {e : Expected} {at n : ℕ} (s : Stands stream before m e at n after) where
  -- the end of the stream
  pub stands_short : {w : ℕ} {end : Result Unit Refusal} → w ≡ code_width m e → length stream - at < w
      → answer_of end ≡ answer (end_number e (length stream - at)) 0
      → StreamRead (decode stream) before after (record { end = end; count = n })
  stands_short width h k =
      let left : length (drop at stream) ≡ length stream - at = length-drop at stream in
      given (record { number = end_number e (length (drop at stream)); bytes = s.read })
      (s.same ∙ read_short m e (drop at stream) s.read (omega arith))
      (k ∙ ap (λ (r : ℕ). answer (end_number e r) 0) (sym left)) s.stored

  -- the end of the reading, and the next code
  module _ {w v n' : ℕ} {later : List ℕ} (t : Coded stream after m e at n w v later n') where
    -- what follows the code is the rest of the reading
    code_read : decode stream ≡ read_on (switch_of m e v) (drop (at + w) stream) (s.read ++ bytes_of m e v)
    code_read =
        let whole : code_width m e ≤ length (drop at stream) = omega (arith, length-drop at stream, t.width, t.whole) in
        s.same ∙ read_step m e (drop at stream) s.read whole
        ∙ rw (sym t.width, sym t.number, drop-drop w at stream)

    bytes_stored : StoredAt (s.read ++ bytes_of m e v) 0 before later n'
    bytes_stored = joined s.stored t.piece

    pub stands_next : (m' : Mode) (e' : Expected) → switch_of m e v ≡ Next m' e' → Stands stream before m' e' (at + w) n' later
    stands_next m' e' a =
        record {
          read = s.read ++ bytes_of m e v;
          same = code_read ∙ rw a;
          stored = bytes_stored;
          within = omega (arith, t.whole, s.within);
          few = omega (arith, s.few, t.piece.place, bytes_few m e v, t.width);
        }

    pub stands_stop : {end : Result Unit Refusal} (a : ModeAnswer) → a ≡ switch_of m e v
        → ((m' : Mode) (e' : Expected) → a ≡ Next m' e' → ⊥) → answer_of end ≡ answer (mode_number a) 0
        → StreamRead (decode stream) before later (record { end = end; count = n' })
    stands_stop a from other k =
        given (record { number = mode_number a; bytes = s.read ++ bytes_of m e v })
        (code_read ∙ rw (sym from) (stops a other)) k bytes_stored
      where
        stops : (a : ModeAnswer) → ((m' : Mode) (e' : Expected) → a ≡ Next m' e' → ⊥)
            → read_on a (drop (at + w) stream) (s.read ++ bytes_of m e v)
            ≡ record { number = mode_number a; bytes = s.read ++ bytes_of m e v }
        stops (Next m' e') other = absurd (other m' e' refl)
        stops EndOfMessage other = refl
        stops Undefined other = refl
        stops Eci other = refl
        stops Fnc1 other = refl
