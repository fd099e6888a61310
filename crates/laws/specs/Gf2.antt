-- Sums over the field of two elements: a bit is a Bool, a word is a function from places to bits.
-- Assumes nothing.
use Rattle.std.specs.Prelude.{ℕ, zero, suc, ◌<◌, ◌≡◌, Bool, false, ◌&&◌}
use Rattle.std.specs.Bool.{xor}
use Rattle.symbology.specs.Matrix.{BitMatrix}

-- f 0 + f 1 + .. + f (n - 1)
unfoldable pub parity : ℕ → (ℕ → Bool) → Bool
parity zero f = false
parity (suc n) f = xor (parity n f) (f n)

-- the dot product of a row and a word, n places
abbrev pub dot : ℕ → (ℕ → Bool) → (ℕ → Bool) → Bool
dot n a w = parity n (λ j. a j && w j)

-- the word is in the kernel: its dot product with each of the first k rows is 0
abbrev pub Meets : ℕ → ℕ → BitMatrix → (ℕ → Bool) → Type 0
Meets k n a w = (i : ℕ) → i < k → dot n (a i) w ≡ false
