-- The calls for C, from the contracts of the calls: the parameters are those of the words.
-- Assumes nothing.
use Prim.Native.Nat.{ℕ}
use mathlib.Core.Path.{◌≡◌, refl, ap, ◌∙◌, subst}
use mathlib.Core.List.{List}
use Rattle.symbology.specs.declared.Params.{Params}
use Rattle.symbology.specs.Stream.{stream_of}
use Rattle.calls.specs.declared.Answer.{Answer}
use Rattle.calls.specs.declared.ReadAnswer.{ReadAnswer}
use Rattle.calls.specs.declared.SizesAnswer.{SizesAnswer}
use Rattle.calls.specs.Sizes.{sizes_answer}
use Rattle.calls.specs.Promises.{Writes, Reads}
use Rattle.jabcode_c.specs.Words.{params_of, write_words, read_words, sizes_words}
use Rattle.jabcode_c.specs.Calls.{WritesFor, ReadsFor}

pub sizes_for_lem : (w l : List ℕ) {p : Params} {a : SizesAnswer} → p ≡ params_of w → a ≡ sizes_answer p l
    → sizes_words a ≡ sizes_words (sizes_answer (params_of w) l)
sizes_for_lem w l e is = ap sizes_words is ∙ ap (λ (q : Params). sizes_words (sizes_answer q l)) e

pub writes_for : (w l message matrix work : List ℕ) {p : Params} {a : Answer} {matrix' work' : List ℕ}
    → p ≡ params_of w
    → Writes p l (stream_of message) matrix work a matrix' work'
    → WritesFor w l message matrix work matrix' work' (write_words a)
writes_for w l message matrix work {a = a} {matrix'} {work'} e is =
    record { given = a; words_are = refl; writes = subst (λ (q : Params). Writes q l (stream_of message) matrix work a matrix' work') e is }

pub reads_for : (w l matrix work message places : List ℕ) {p : Params} {a : ReadAnswer} {work' message' places' : List ℕ}
    → p ≡ params_of w
    → Reads p l matrix work message places a work' message' places'
    → ReadsFor w l matrix work message places work' message' places' (read_words a)
reads_for w l matrix work message places {a = a} {work'} {message'} {places'} e is =
    record {
      given = a;
      words_are = refl;
      reads = subst (λ (q : Params). Reads q l matrix work message places a work' message' places') e is;
    }
