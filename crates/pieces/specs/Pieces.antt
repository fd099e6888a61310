-- A piece stored in a lent buffer.
-- Assumes nothing.
use Rattle.std.specs.Prelude.{ℕ, ◌+◌, ◌≡◌, List, length}
use Rattle.std.proofs.lemmas.List.Edits.{sets}

-- the piece stored from a place on, as far as the buffer reaches, and the place behind it
pub record StoredAt (piece : List ℕ) (at : ℕ) (before after : List ℕ) (next : ℕ) : Type 0 where
  pub place : next ≡ at + length piece
  pub stored : after ≡ sets before at piece
