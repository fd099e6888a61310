-- Document 01, "Modules" and "Bits": data modules D, capacity C, and t, Pg, K, Pn.
-- Assumes nothing.
use Rattle.std.specs.Prelude.{ℕ, ◌+◌, ◌-◌, ◌*◌, ◌/◌, ◌^◌, cond, List, leb, eqb}
use Rattle.symbology.specs.declared.Params.{Params}
use Rattle.symbology.specs.declared.Modules.{Modules}
use Rattle.symbology.specs.declared.Bits.{Bits}
use Rattle.symbology.specs.declared.Sizes.{Sizes}
use Rattle.symbology.specs.Ranges.{lowest}
use Rattle.symbology.specs.Sides.{side_size, inner_patterns, columns, rows}
use Rattle.symbology.specs.Reserved.{entries}

-- 000, 4.1 f: a module represents log2 N bits, 2 of 4 colours and 3 of 8
unfoldable pub bits_per_module : ℕ → ℕ
bits_per_module n = lowest (λ m. leb n (2 ^ m)) 8 0

-- the modules of all patterns: 7 for each inner one, and 68 for four finder patterns or 28 for four alignment patterns
unfoldable pub pattern_modules : ℕ → ℕ → ℕ → ℕ
pattern_modules kind h v = 7 * inner_patterns h v + cond (eqb kind 0) 68 28

-- D: all modules, less those of patterns and list entries
unfoldable pub data_modules : ℕ → ℕ → ℕ → ℕ → Modules
data_modules kind h v listed = record { 0 = side_size h * side_size v - pattern_modules kind h v - listed }

-- a count of modules as a count of bits
unfoldable pub as_bits : Modules → ℕ → Bits
as_bits m depth = record { 0 = m.0 * depth }

-- C
unfoldable pub capacity : Params → ℕ → Bits
capacity p listed = as_bits (data_modules p.kind p.horizontal p.vertical listed) (bits_per_module p.colours)

-- t = C div wr, the rows of A in a block
abbrev pub block_rows : ℕ → ℕ → ℕ
block_rows c wr = c / wr

-- Pg = t × wr, the bits of a codeword
abbrev pub gross_bits : ℕ → ℕ → ℕ
gross_bits c wr = block_rows c wr * wr

-- K = t × wc, the rows of A
abbrev pub check_count : ℕ → ℕ → ℕ → ℕ
check_count c wc wr = block_rows c wr * wc

-- Pn = t × (wr − wc)
abbrev pub net_bits : ℕ → ℕ → ℕ → ℕ
net_bits c wc wr = block_rows c wr * (wr - wc)

-- the bytes of one dense row of A
abbrev pub row_bytes : ℕ → ℕ
row_bytes gross = (gross + 7) / 8

-- the least work buffer: K × (Pg div 8, rounded up) + 8 × C bytes
abbrev pub work_bytes : ℕ → ℕ → ℕ → ℕ
work_bytes checks gross c = checks * row_bytes gross + 8 * c

-- all of these, for parameters and a number of list entries
unfoldable pub sizes_of : Params → ℕ → Sizes
sizes_of p listed =
    let c = (capacity p listed).0 in
    record {
      columns = columns p;
      rows = rows p;
      depth = bits_per_module p.colours;
      capacity = c;
      wr = p.wr;
      block = block_rows c p.wr;
      gross = gross_bits c p.wr;
      checks = check_count c p.wc p.wr;
      net = net_bits c p.wc p.wr;
      work = work_bytes (check_count c p.wc p.wr) (gross_bits c p.wr) c;
    }

-- the sizes of a symbol with this reserved list
abbrev pub sizes_for : Params → List ℕ → Sizes
sizes_for p l = sizes_of p (entries l)
