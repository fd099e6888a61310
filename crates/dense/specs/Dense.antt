-- The dense rows of a matrix in a buffer, and what the functions do to them. Rows and columns count from 0.
-- Assumes nothing.
use Rattle.std.specs.Prelude.{ℕ, ◌+◌, ◌*◌, ◌/◌, ◌%◌, ◌^◌, ◌<◌, ◌≡◌, Bool, ◌&&◌, List, [], ◌∷◌, ltb, eqb, get_or}
use Rattle.std.specs.Bool.{xor}
use Rattle.symbology.specs.Matrix.{BitMatrix}
use Rattle.lent.specs.Changes.{span, Changed}

-- a bit of a byte, as a truth value
abbrev pub byte_bit : ℕ → ℕ → Bool
byte_bit v k = eqb (v / 2 ^ k % 2) 1

-- The matrix whose rows lie in front of a buffer, `stride` bytes each, eight columns to a byte, the first column lowest.
unfoldable pub dense_bits : List ℕ → ℕ → BitMatrix
dense_bits xs stride i j = byte_bit (get_or xs (i * stride + j / 8) 0) (j % 8)

-- the bit of row i in column j is turned
pub record Turned (stride i j : ℕ) (before after : List ℕ) : Type 0 where
  pub changed : Changed (span (i * stride) (i * stride + stride) ∷ []) before after
  pub bits : (x c : ℕ) → c / 8 < stride → dense_bits after stride x c ≡ xor (dense_bits before stride x c) (eqb x i && eqb c j)

-- the first n bytes of row `from` are added to row `to`
pub record RowAdded (stride to from n : ℕ) (before after : List ℕ) : Type 0 where
  pub changed : Changed (span (to * stride) (to * stride + stride) ∷ []) before after
  pub bits : (x c : ℕ)
      → c / 8 < stride
      → dense_bits after stride x c ≡ xor (dense_bits before stride x c) (eqb x to && (ltb (c / 8) n && dense_bits before stride from c))

-- row k is the word of n bits, a byte each from `word` on, with 0 in the columns past n
abbrev pub Packed : (stride k word n : ℕ) → List ℕ → Type 0
Packed stride k word n xs = (c : ℕ) → c / 8 < stride → dense_bits xs stride k c ≡ (ltb c n && eqb (get_or xs (word + c) 0 % 2) 1)

-- the word is stored as row k, and nothing else is changed
pub record PackedIn (stride k word n : ℕ) (before after : List ℕ) : Type 0 where
  pub changed : Changed (span (k * stride) (k * stride + stride) ∷ []) before after
  pub packed : Packed stride k word n after
