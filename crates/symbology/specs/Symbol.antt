-- A whole symbol: the matrix of a stream, and the bits received from a matrix. `l` is the reserved list.
-- Assumes nothing.
use Rattle.std.specs.Prelude.{ℕ, ◌-◌, List, ◌++◌, take, drop}
use Rattle.symbology.specs.declared.Params.{Params}
use Rattle.symbology.specs.declared.Sizes.{Sizes}
use Rattle.symbology.specs.Bits.{differing}
use Rattle.symbology.specs.Capacity.{sizes_for}
use Rattle.symbology.specs.Shuffle.{shuffled, unshuffled, interleaving_seed}
use Rattle.symbology.specs.Code.{codeword_for}
use Rattle.symbology.specs.Net.{with_end_mark, stuffing}
use Rattle.symbology.specs.Placement.{filled, sampled}

-- ---- written

-- the C bits of net bits, in the order in which they fill the data modules: codeword and stuffing, interleaved
unfoldable pub placed_bits : Sizes → List ℕ → List ℕ
placed_bits s net = shuffled 0 interleaving_seed (codeword_for s net ++ stuffing (s.capacity - s.gross))

-- the matrix of a stream
unfoldable pub written_matrix : Params → List ℕ → List ℕ → List ℕ
written_matrix p l stream =
    let s = sizes_for p l in
    filled p l (placed_bits s (with_end_mark s.net stream))

-- ---- received

-- the C bits of a sampled matrix, the mask and then the interleaving undone
unfoldable pub received_bits : Params → List ℕ → List ℕ → List ℕ
received_bits p l matrix = unshuffled 0 interleaving_seed (sampled p l matrix)

-- the received word (document 01's term): the first Pg of them
unfoldable pub received_word : Params → List ℕ → List ℕ → List ℕ
received_word p l matrix = take (sizes_for p l).gross (received_bits p l matrix)

-- document 02, W-202: how many stuffing bits are wrong in a sampled matrix, of those received behind the word
unfoldable pub wrong_stuffing : Params → List ℕ → List ℕ → ℕ
wrong_stuffing p l matrix =
    let s = sizes_for p l in
    differing (stuffing (s.capacity - s.gross)) (drop s.gross (received_bits p l matrix))
