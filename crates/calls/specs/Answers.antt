-- The answers of the calls: every definition makes them here.
-- Assumes nothing.
use Rattle.std.specs.Prelude.{ℕ}
use Rattle.symbology.specs.declared.Sizes.{Sizes}
use Rattle.calls.specs.declared.Answer.{Answer}
use Rattle.calls.specs.declared.SizesAnswer.{SizesAnswer}
use Rattle.calls.specs.declared.Counts.{Counts}
use Rattle.calls.specs.declared.ReadAnswer.{ReadAnswer}

-- ---- a write

-- document 01's number and place
abbrev pub answer : ℕ → ℕ → Answer
answer number place = record { number = number; place = place }

-- ---- the sizes of a symbol

-- a refusal: document 01's number and place, and no sizes
abbrev pub no_sizes : ℕ → ℕ → SizesAnswer
no_sizes number place =
    record {
      number = number;
      place = place;
      columns = 0;
      rows = 0;
      capacity = 0;
      net = 0;
      work = 0;
      gross = 0;
      checks = 0;
    }

-- 0, with the sizes
abbrev pub the_sizes : Sizes → SizesAnswer
the_sizes s =
    record {
      number = 0;
      place = 0;
      columns = s.columns;
      rows = s.rows;
      capacity = s.capacity;
      net = s.net;
      work = s.work;
      gross = s.gross;
      checks = s.checks;
    }

-- ---- the stream of a read

-- what net bits give: document 01's number, 0 or 11 to 14, and the message's length
pub record StreamAnswer : Type 0 where
  pub number : ℕ
  pub length : ℕ

-- a refusal gives no length; none of the numbers of a stream has a place
abbrev pub stream_refused : ℕ → ℕ → StreamAnswer
stream_refused number place = record { number = number; length = 0 }

-- 0, with the message's length
abbrev pub stream_done : ℕ → StreamAnswer
stream_done n = record { number = 0; length = n }

-- ---- a read

-- the counts of a read that is refused before the checks
abbrev pub no_counts : Counts
no_counts = record { repairs = 0; unmet = 0; stuffing = 0 }

-- number, place and length, with the counts
abbrev pub reading : Counts → ℕ → ℕ → ℕ → ReadAnswer
reading c number place n =
    record {
      number = number;
      place = place;
      length = n;
      repairs = c.repairs;
      unmet = c.unmet;
      stuffing = c.stuffing;
    }

-- a refusal behind the checks: its length is 0
abbrev pub counted : Counts → ℕ → ℕ → ReadAnswer
counted c number place = reading c number place 0

-- a refusal before the checks: its counts are 0 too
abbrev pub refused : ℕ → ℕ → ReadAnswer
refused number place = counted no_counts number place

-- 0
abbrev pub done : Counts → ℕ → ReadAnswer
done c n = reading c 0 0 n

-- the answer that a stream gives a read
abbrev pub from_stream : Counts → StreamAnswer → ReadAnswer
from_stream c a = reading c a.number 0 a.length

-- the counts that stand in an answer
abbrev pub counts_in : ReadAnswer → Counts
counts_in a = record { repairs = a.repairs; unmet = a.unmet; stuffing = a.stuffing }
