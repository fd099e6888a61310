-- The C interface: parameters and answers as the arrays of their members, which is how the structs of include/jabcode.h lie in memory.
-- Assumes nothing.
use Rattle.std.specs.Prelude.{ℕ, List, [], ◌∷◌, get_or}
use Rattle.symbology.specs.declared.Params.{Params}
use Rattle.calls.specs.declared.Answer.{Answer}
use Rattle.calls.specs.declared.ReadAnswer.{ReadAnswer}
use Rattle.calls.specs.declared.SizesAnswer.{SizesAnswer}

-- the eleven parameters, in document 01's order
abbrev pub params_of : List ℕ → Params
params_of w =
    record {
      kind = get_or w 0 0;
      horizontal = get_or w 1 0;
      vertical = get_or w 2 0;
      colours = get_or w 3 0;
      black = get_or w 4 0;
      cyan = get_or w 5 0;
      yellow = get_or w 6 0;
      wc = get_or w 7 0;
      wr = get_or w 8 0;
      mask = get_or w 9 0;
      turn = get_or w 10 0;
    }

-- number, place
abbrev pub write_words : Answer → List ℕ
write_words a = a.number ∷ a.place ∷ []

-- number, place, length, repairs, first unmet count, wrong stuffing bits
abbrev pub read_words : ReadAnswer → List ℕ
read_words a = a.number ∷ a.place ∷ a.length ∷ a.repairs ∷ a.unmet ∷ a.stuffing ∷ []

-- number, place, columns, rows, C, Pn, work bytes, Pg, K
abbrev pub sizes_words : SizesAnswer → List ℕ
sizes_words a = a.number ∷ a.place ∷ a.columns ∷ a.rows ∷ a.capacity ∷ a.net ∷ a.work ∷ a.gross ∷ a.checks ∷ []
