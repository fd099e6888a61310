-- The columns of Table 12 as the code keeps them, in bytes, against the definitions, in Unicode numbers.
-- Assumes nothing.
use Prim.Native.Nat.{ℕ, zero, suc, ◌≤◌, ◌<◌}
use mathlib.Core.Path.{◌≡◌, refl, sym, ap, ◌∙◌}
use mathlib.Core.Bool.{Bool, true, ◌&&◌}
use mathlib.Core.List.{List, [], ◌∷◌, ◌++◌, map}
use native.Mathlib.Omega.{arith}
use lib.Dec.{ltb}
use lib.ListN.{length, take, drop, length-map, get_or-append, get_or-eq_default}
use Rattle.symbology.specs.Characters.{mixed_characters, utf8, utf8_bytes, character_bytes}
use Rattle.symbology.proofs.Ranges.{and_left, and_right}

-- ---- characters of the 7-bit set

-- each character of the list is one of the 7-bit set
unfoldable pub is_ascii : List ℕ → Bool
is_ascii [] = true
is_ascii (c ∷ cs) = ltb c 0x80 && is_ascii cs

-- a character of the 7-bit set is its own byte
one_byte : (c : ℕ) → ltb c 0x80 ≡ true → utf8_bytes (c ∷ []) ≡ c ∷ []
unfolding utf8_bytes utf8
one_byte c h = rw h

-- a column of such characters gives one byte at each of their values, and none past them
pub column : (cs : List ℕ) → is_ascii cs ≡ true → (v : ℕ) → take 1 (drop v cs) ≡ character_bytes (map (λ c. c ∷ []) cs) v
unfolding is_ascii character_bytes utf8_bytes
column [] h zero = refl
column [] h (suc v) = refl
column (c ∷ cs) h zero = sym (one_byte c (and_left (ltb c 0x80) (is_ascii cs) h))
column (c ∷ cs) h (suc v) = column cs (and_right (ltb c 0x80) (is_ascii cs) h) v

-- the same at their values where other characters follow
pub column_front : (cs : List ℕ) (more : List (List ℕ)) → is_ascii cs ≡ true → (v : ℕ) → v < length cs
    → take 1 (drop v cs) ≡ character_bytes (map (λ c. c ∷ []) cs ++ more) v
unfolding character_bytes
column_front cs more h v l =
    let inside : v < length (map (λ (c : ℕ). c ∷ []) cs) = omega (arith, length-map cs (λ (c : ℕ). c ∷ [])) in
    column cs h v ∙ ap utf8_bytes (sym (get_or-append (map (λ c. c ∷ []) cs) more [] v inside))

-- there are 32 mixed characters
pub past_mixed : (v : ℕ) → 32 ≤ v → [] ≡ character_bytes mixed_characters v
unfolding mixed_characters character_bytes utf8_bytes
past_mixed v h = sym (ap utf8_bytes (get_or-eq_default mixed_characters [] {n = v} h))

-- ---- the mixed characters of several bytes, from value 19 on

pub mixed_several :
    (character_bytes mixed_characters 19 ≡ 10 ∷ 13 ∷ [])
    × (character_bytes mixed_characters 20 ≡ 44 ∷ 32 ∷ [])
    × (character_bytes mixed_characters 21 ≡ 46 ∷ 32 ∷ [])
    × (character_bytes mixed_characters 22 ≡ 58 ∷ 32 ∷ [])
    × (character_bytes mixed_characters 23 ≡ 0xE2 ∷ 0x82 ∷ 0xAC ∷ [])
    × (character_bytes mixed_characters 24 ≡ 0xC2 ∷ 0xA7 ∷ [])
    × (character_bytes mixed_characters 25 ≡ 0xC3 ∷ 0x84 ∷ [])
    × (character_bytes mixed_characters 26 ≡ 0xC3 ∷ 0x96 ∷ [])
    × (character_bytes mixed_characters 27 ≡ 0xC3 ∷ 0x9C ∷ [])
    × (character_bytes mixed_characters 28 ≡ 0xC3 ∷ 0x9F ∷ [])
    × (character_bytes mixed_characters 29 ≡ 0xC3 ∷ 0xA4 ∷ [])
    × (character_bytes mixed_characters 30 ≡ 0xC3 ∷ 0xB6 ∷ [])
    × (character_bytes mixed_characters 31 ≡ 0xC3 ∷ 0xBC ∷ [])
unfolding mixed_characters character_bytes utf8_bytes utf8
mixed_several = (refl, refl, refl, refl, refl, refl, refl, refl, refl, refl, refl, refl, refl)
