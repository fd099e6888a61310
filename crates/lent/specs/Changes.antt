-- Where a buffer is changed. Places count from 0.
-- Assumes nothing.
use Rattle.std.specs.Prelude.{ℕ, ◌≤◌, ◌≡◌, List, [], ◌∷◌, length, get_or}

-- a span of places, from one up to another, which is not in it
pub record Span : Type 0 where
  pub from : ℕ
  pub to : ℕ

-- the one with these ends
abbrev pub span : ℕ → ℕ → Span
span from to = record { from = from; to = to }

-- place i lies in none of these spans: where it is not before one, it is behind it
abbrev pub Outside : List Span → ℕ → Type 0
Outside [] i = Unit
Outside (s ∷ ss) i = (s.from ≤ i → s.to ≤ i) × Outside ss i

-- the buffer is as long as before, and as before outside these spans
pub record Changed (ss : List Span) (before after : List ℕ) : Type 0 where
  pub long : length after ≡ length before
  pub kept : (i : ℕ) → Outside ss i → get_or after i 0 ≡ get_or before i 0
