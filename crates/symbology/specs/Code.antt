-- Document 01, "Bits": the code of a symbol's sizes. Matrix, Codeword and Rule speak of any matrix and any checks.
-- Assumes nothing.
use Rattle.std.specs.Prelude.{ℕ, List}
use Rattle.symbology.specs.declared.Sizes.{Sizes}
use Rattle.symbology.specs.Matrix.{BitMatrix, matrix_seed, matrix_a, checks_of}
use Rattle.symbology.specs.Codeword.{codeword, message_bits}

-- the check matrix
abbrev pub matrix_for : Sizes → BitMatrix
matrix_for s = matrix_a matrix_seed s.block s.wr

-- its checks
unfoldable pub checks_for : Sizes → List (List ℕ)
checks_for s = checks_of s.checks s.gross (matrix_for s)

-- the codeword of net bits
unfoldable pub codeword_for : Sizes → List ℕ → List ℕ
codeword_for s net = codeword s.checks s.gross (matrix_for s) net

-- the bits of a word in the message columns
unfoldable pub message_bits_for : Sizes → List ℕ → List ℕ
message_bits_for s w = message_bits s.checks s.gross (matrix_for s) w
