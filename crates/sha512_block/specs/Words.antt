-- FIPS 180-4, sections 3.2 and 4.1.3: the operations on 64-bit words and the six functions of SHA-512. A word is a
-- number below 2 to the 64th.
use Rattle.std.specs.Prelude.{ℕ, ◌+◌, ◌-◌, ◌*◌, ◌/◌, ◌%◌, ◌^◌, bit_and, bit_or, bit_xor}

infixl 65 ◌⊞◌
-- addition modulo 2 to the 64th
abbrev pub ◌⊞◌ : ℕ → ℕ → ℕ
x ⊞ y = (x + y) % 2 ^ 64

abbrev pub complement : ℕ → ℕ
complement x = 2 ^ 64 - 1 - x

abbrev pub shift_right : ℕ → ℕ → ℕ
shift_right n x = x / 2 ^ n

abbrev pub rotate_right : ℕ → ℕ → ℕ
rotate_right n x = bit_or (x / 2 ^ n) (x * 2 ^ (64 - n) % 2 ^ 64)

abbrev pub Ch : ℕ → ℕ → ℕ → ℕ
Ch x y z = bit_xor (bit_and x y) (bit_and (complement x) z)

abbrev pub Maj : ℕ → ℕ → ℕ → ℕ
Maj x y z = bit_xor (bit_xor (bit_and x y) (bit_and x z)) (bit_and y z)

abbrev pub Σ₀ : ℕ → ℕ
Σ₀ x = bit_xor (bit_xor (rotate_right 28 x) (rotate_right 34 x)) (rotate_right 39 x)

abbrev pub Σ₁ : ℕ → ℕ
Σ₁ x = bit_xor (bit_xor (rotate_right 14 x) (rotate_right 18 x)) (rotate_right 41 x)

abbrev pub σ₀ : ℕ → ℕ
σ₀ x = bit_xor (bit_xor (rotate_right 1 x) (rotate_right 8 x)) (shift_right 7 x)

abbrev pub σ₁ : ℕ → ℕ
σ₁ x = bit_xor (bit_xor (rotate_right 19 x) (rotate_right 61 x)) (shift_right 6 x)
