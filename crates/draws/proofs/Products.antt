-- Products modulo a number, and the product of 64-bit words from products of their 32-bit halves.
-- Assumes nothing.
use Rattle.std.proofs.Common.{◌≡◌, ℕ, ◌+◌, ◌*◌, ◌/◌, ◌%◌, ◌^◌, ◌<◌, ◌≤◌, sym, ap, ◌∙◌, le_of_lt, mul-le-mul_right, add-mul, div-add-mod'}
use Rattle.std.proofs.Common.{mul_right_comm, arith}
use native.Mathlib.Nat.{mul-add-mod_self_right, add-mod-mod}
use lib.Pow.{split}

-- The remainder of a product is that of the product with a factor's remainder.
pub mul_mod : (m k n : ℕ) → m % n * k % n ≡ m * k % n
mul_mod m k n =
    let e : m / n * k * n + m % n * k ≡ m * k = rw (mul_right_comm (m / n) k n, ← add-mul (m / n * n) (m % n) k, div-add-mod' m n) in
    sym (mul-add-mod_self_right (m / n * k) n (m % n * k)) ∙ ap (λ (x : ℕ). x % n) e

-- The product of two 32-bit words has 64 bits.
pub product_lt : {a b : ℕ} → a < 2 ^ 32 → b < 2 ^ 32 → a * b < 2 ^ 64
product_lt {a} {b} h k =
    let le : a * b ≤ 2 ^ 32 * b = mul-le-mul_right b (le_of_lt h) in
    omega arith

-- the product of two words of two halves each
halves : (a b c d : ℕ) → (a * 2 ^ 32 + b) * (c * 2 ^ 32 + d) ≡ a * c * 2 ^ 64 + (b * d + (a * d + b * c) * 2 ^ 32)
halves a b c d = omega arith

-- The product of 64-bit words, without its carry, is the sum of the products of halves that are not all carry.
pub wrapped : (x y : ℕ)
    → (x % 2 ^ 32 * (y % 2 ^ 32) + (x / 2 ^ 32 * (y % 2 ^ 32) + x % 2 ^ 32 * (y / 2 ^ 32)) % 2 ^ 64 * 2 ^ 32 % 2 ^ 64) % 2 ^ 64
    ≡ x * y % 2 ^ 64
wrapped x y =
    let a : ℕ = x / 2 ^ 32 in
    let b : ℕ = x % 2 ^ 32 in
    let c : ℕ = y / 2 ^ 32 in
    let d : ℕ = y % 2 ^ 32 in
    let cross : ℕ = a * d + b * c in
    ap (λ (z : ℕ). (b * d + z) % 2 ^ 64) (mul_mod cross (2 ^ 32) (2 ^ 64))
    ∙ add-mod-mod (b * d) (cross * 2 ^ 32) (2 ^ 64)
    ∙ sym (mul-add-mod_self_right (a * c) (2 ^ 64) (b * d + cross * 2 ^ 32))
    ∙ ap (λ (z : ℕ). z % 2 ^ 64) (sym (halves a b c d) ∙ rw (split x 32, split y 32))
