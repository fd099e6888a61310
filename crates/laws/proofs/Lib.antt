-- Theorems about the definitions, in the order in which they stand on one another.

-- tools
pub mod Ranges
pub mod Search
pub mod Sums
pub mod Bits
pub mod Counting
pub mod Stores
pub mod Parameters
-- layout
pub mod Windows
pub mod Patterns
pub mod Reserved
pub mod DataModules
pub mod Masks
pub mod Ranks
pub mod Placement
pub mod Cells
-- draws and shuffles
pub mod Generator
pub mod Rounding
pub mod Place
pub mod Shuffle
-- the check matrix and the codeword
pub mod Matrix
pub mod Gf2
pub mod Kernel
pub mod Columns
pub mod Elimination
pub mod Spare
pub mod Codeword
pub mod Agree
pub mod BitwiseSum
-- the rule
pub mod Rule
pub mod Steps
-- streams
pub mod Stream
pub mod ByteMode
pub mod Net
-- legal symbols
pub mod Sizes
pub mod Symbols
pub mod Written
-- for teaching
pub mod Teaching
