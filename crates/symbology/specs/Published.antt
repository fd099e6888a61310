-- 000, Table 1, as published. It heads its last four columns "net payload"; document 01 reads them as C.
-- Assumes nothing.
use Rattle.std.specs.Prelude.{ℕ, ◌+◌, ◌*◌, ◌/◌, ◌%◌, List, [], ◌∷◌, get_or}
use Rattle.symbology.specs.declared.Modules.{Modules}
use Rattle.symbology.specs.declared.Bits.{Bits}
use Rattle.symbology.specs.Capacity.{bits_per_module, data_modules, as_bits}

-- The side-versions 1 to 32. Data modules of square primary symbols of 4 and 8 colours and of secondary ones of 4 and 8, then
-- the bits in the same order.
unfoldable pub table1 : List (List ℕ)
table1 =
    (338 ∷ 349 ∷ 405 ∷ 389 ∷ 676 ∷ 1047 ∷ 810 ∷ 1167 ∷ [])
    ∷ (522 ∷ 533 ∷ 589 ∷ 573 ∷ 1044 ∷ 1599 ∷ 1178 ∷ 1719 ∷ [])
    ∷ (738 ∷ 749 ∷ 805 ∷ 789 ∷ 1476 ∷ 2247 ∷ 1610 ∷ 2367 ∷ [])
    ∷ (986 ∷ 997 ∷ 1053 ∷ 1037 ∷ 1972 ∷ 2991 ∷ 2106 ∷ 3111 ∷ [])
    ∷ (1266 ∷ 1277 ∷ 1333 ∷ 1317 ∷ 2532 ∷ 3831 ∷ 2666 ∷ 3951 ∷ [])
    ∷ (1543 ∷ 1554 ∷ 1610 ∷ 1594 ∷ 3086 ∷ 4662 ∷ 3220 ∷ 4782 ∷ [])
    ∷ (1887 ∷ 1898 ∷ 1954 ∷ 1938 ∷ 3774 ∷ 5694 ∷ 3908 ∷ 5814 ∷ [])
    ∷ (2263 ∷ 2274 ∷ 2330 ∷ 2314 ∷ 4526 ∷ 6822 ∷ 4660 ∷ 6942 ∷ [])
    ∷ (2671 ∷ 2682 ∷ 2738 ∷ 2722 ∷ 5342 ∷ 8046 ∷ 5476 ∷ 8166 ∷ [])
    ∷ (3062 ∷ 3073 ∷ 3129 ∷ 3113 ∷ 6124 ∷ 9219 ∷ 6258 ∷ 9339 ∷ [])
    ∷ (3534 ∷ 3545 ∷ 3601 ∷ 3585 ∷ 7068 ∷ 10635 ∷ 7202 ∷ 10755 ∷ [])
    ∷ (4038 ∷ 4049 ∷ 4105 ∷ 4089 ∷ 8076 ∷ 12147 ∷ 8210 ∷ 12267 ∷ [])
    ∷ (4574 ∷ 4585 ∷ 4641 ∷ 4625 ∷ 9148 ∷ 13755 ∷ 9282 ∷ 13875 ∷ [])
    ∷ (5079 ∷ 5090 ∷ 5146 ∷ 5130 ∷ 10158 ∷ 15270 ∷ 10292 ∷ 15390 ∷ [])
    ∷ (5679 ∷ 5690 ∷ 5746 ∷ 5730 ∷ 11358 ∷ 17070 ∷ 11492 ∷ 17190 ∷ [])
    ∷ (6311 ∷ 6322 ∷ 6378 ∷ 6362 ∷ 12622 ∷ 18966 ∷ 12756 ∷ 19086 ∷ [])
    ∷ (6975 ∷ 6986 ∷ 7042 ∷ 7026 ∷ 13950 ∷ 20958 ∷ 14084 ∷ 21078 ∷ [])
    ∷ (7594 ∷ 7605 ∷ 7661 ∷ 7645 ∷ 15188 ∷ 22815 ∷ 15322 ∷ 22935 ∷ [])
    ∷ (8322 ∷ 8333 ∷ 8389 ∷ 8373 ∷ 16644 ∷ 24999 ∷ 16778 ∷ 25119 ∷ [])
    ∷ (9082 ∷ 9093 ∷ 9149 ∷ 9133 ∷ 18164 ∷ 27279 ∷ 18298 ∷ 27399 ∷ [])
    ∷ (9874 ∷ 9885 ∷ 9941 ∷ 9925 ∷ 19748 ∷ 29655 ∷ 19882 ∷ 29775 ∷ [])
    ∷ (10607 ∷ 10618 ∷ 10674 ∷ 10658 ∷ 21214 ∷ 31854 ∷ 21348 ∷ 31974 ∷ [])
    ∷ (11463 ∷ 11474 ∷ 11530 ∷ 11514 ∷ 22926 ∷ 34422 ∷ 23060 ∷ 34542 ∷ [])
    ∷ (12351 ∷ 12362 ∷ 12418 ∷ 12402 ∷ 24702 ∷ 37086 ∷ 24836 ∷ 37206 ∷ [])
    ∷ (13271 ∷ 13282 ∷ 13338 ∷ 13322 ∷ 26542 ∷ 39846 ∷ 26676 ∷ 39966 ∷ [])
    ∷ (14118 ∷ 14129 ∷ 14185 ∷ 14169 ∷ 28236 ∷ 42387 ∷ 28370 ∷ 42507 ∷ [])
    ∷ (15102 ∷ 15113 ∷ 15169 ∷ 15153 ∷ 30204 ∷ 45339 ∷ 30338 ∷ 45459 ∷ [])
    ∷ (16118 ∷ 16129 ∷ 16185 ∷ 16169 ∷ 32236 ∷ 48387 ∷ 32370 ∷ 48507 ∷ [])
    ∷ (17166 ∷ 17177 ∷ 17233 ∷ 17217 ∷ 34332 ∷ 51531 ∷ 34466 ∷ 51651 ∷ [])
    ∷ (18127 ∷ 18138 ∷ 18194 ∷ 18178 ∷ 36254 ∷ 54414 ∷ 36388 ∷ 54534 ∷ [])
    ∷ (19239 ∷ 19250 ∷ 19306 ∷ 19290 ∷ 38478 ∷ 57750 ∷ 38612 ∷ 57870 ∷ [])
    ∷ (20383 ∷ 20394 ∷ 20450 ∷ 20434 ∷ 40766 ∷ 61182 ∷ 40900 ∷ 61302 ∷ [])
    ∷ []

-- Document 01: the list entries that Table 1 counts, in the order of its columns
unfoldable pub table1_entries : List ℕ
table1_entries = 35 ∷ 24 ∷ 8 ∷ 24 ∷ []

-- D of the square symbol of a side-version in column c of Table 1: the kind is 0, 0, 1, 1
unfoldable pub square_modules : ℕ → ℕ → Modules
square_modules version c = data_modules (c / 2) version version (get_or table1_entries c 0)

-- C of the same symbol: the colours are 4, 8, 4, 8
unfoldable pub square_bits : ℕ → ℕ → Bits
square_bits version c = as_bits (square_modules version c) (bits_per_module (4 + c % 2 * 4))
