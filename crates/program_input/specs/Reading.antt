-- What a read into a buffer does with the bytes that a reader has left, where those are known.
-- Assumes nothing.
use Rattle.std.specs.Prelude.{◌≡◌, ℕ, ◌<◌, min, List, length, take, drop, Option, Some}
use Rattle.std.specs.Io.KnownBytes.{Consumes}

-- of the bytes xs that were left the first n came, as many as there are and the buffer has room for, and the others are left
pub record FilledFrom (xs : List ℕ) (left : Option (List ℕ)) (buffer : List ℕ) (n : ℕ) : Type 0 where
  pub count : n ≡ min (length buffer) (length xs)
  pub front : take n buffer ≡ take n xs
  pub rest : left ≡ Some (drop n xs)

-- a read failed where the buffer had room left; what came before, so many bytes, stands at its front, and none is lost
pub record CutShort (old left : Option (List ℕ)) (buffer : List ℕ) : Type 0 where
  pub count : ℕ
  pub room : count < length buffer
  pub front : Consumes old left (take count buffer)
