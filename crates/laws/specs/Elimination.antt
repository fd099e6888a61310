-- What an elimination of a matrix of k rows and n columns keeps, column by column from the last to the first.
-- Assumes nothing.
use Rattle.std.specs.Prelude.{ℕ, ◌≤◌, ◌<◌, ◌≡◌, Bool, true, false}
use Rattle.symbology.specs.Matrix.{BitMatrix}
use Rattle.laws.specs.Gf2.{Meets}

-- a check column among the columns from j on
abbrev pub Pivot : ℕ → (ℕ → Bool) → ℕ → ℕ → Type 0
Pivot n chk j c = (j ≤ c) × (c < n) × (chk c ≡ true)

-- The matrix r comes from a by elimination of the columns from j on: it has the same kernel, each check column c from j on has a row of its
-- own, `row c`, whose last 1 stands in it, the rows `used` are just those, and in the other rows the columns from j on are 0.
pub record Inv (k n : ℕ) (a : BitMatrix) (chk : ℕ → Bool) (r : BitMatrix) (used : ℕ → Bool) (row : ℕ → ℕ) (j : ℕ) : Type 0 where
  pub to : (w : ℕ → Bool) → Meets k n a w → Meets k n r w
  pub from : (w : ℕ → Bool) → Meets k n r w → Meets k n a w
  pub row_lt : (c : ℕ) → Pivot n chk j c → row c < k
  pub row_used : (c : ℕ) → Pivot n chk j c → used (row c) ≡ true
  pub row_one : (c d : ℕ) → Pivot n chk j c → Pivot n chk j d → row c ≡ row d → c ≡ d
  pub lead : (c : ℕ) → Pivot n chk j c → r (row c) c ≡ true
  pub high : (c : ℕ) → Pivot n chk j c → (d : ℕ) → c < d → d < n → r (row c) d ≡ false
  pub owner : (i : ℕ) → i < k → used i ≡ true → (c : ℕ) × (Pivot n chk j c) × (row c ≡ i)
  pub none : (i : ℕ) → i < k → used i ≡ false → (c : ℕ) → j ≤ c → c < n → r i c ≡ false
