-- Numbers of an image as the bytes they stand in: read, put, and read back.
use Rattle.std.proofs.Common.{ℕ, zero, suc, ◌/◌, ◌^◌, ◌<◌, ◌≤◌, ◌≡◌, refl, ◌∙◌, sym, ap, arith}
use Rattle.std.proofs.Common.{List, [], ◌∷◌, length, take, w32, w64}
use Rattle.std.proofs.Math.Nat.{div-div-eq-div-mul}
use Rattle.std.specs.Int.{from_le_bytes, to_le_bytes}
use Rattle.stretch.proofs.Over.{part-over}
use Rattle.image.specs.Numbers.{little, bytes, number, put}

-- as std reads four bytes, and as it writes eight
pub from_le_bytes-little : (s : List ℕ) → length s ≡ 4 → from_le_bytes w32 s ≡ little s
unfolding little
from_le_bytes-little [] h = omega arith
from_le_bytes-little (a ∷ []) h = omega arith
from_le_bytes-little (a ∷ b ∷ []) h = omega arith
from_le_bytes-little (a ∷ b ∷ c ∷ []) h = omega arith
from_le_bytes-little (a ∷ b ∷ c ∷ d ∷ []) h = omega arith
from_le_bytes-little (a ∷ b ∷ c ∷ d ∷ e ∷ s) h = absurd (omega arith)

pub take-to_le_bytes : (v : ℕ) → take 4 (to_le_bytes w64 v) ≡ bytes 4 v
unfolding bytes
take-to_le_bytes v = simp div-div-eq-div-mul

pub length-bytes : (n v : ℕ) → length (bytes n v) ≡ n
unfolding bytes
length-bytes zero v = refl
length-bytes (suc n) v = ap suc (length-bytes n (v / 256))

-- what was written is read back
pub little-bytes : (n v : ℕ) → v < 256 ^ n → little (bytes n v) ≡ v
unfolding little bytes
little-bytes zero v h = omega arith
little-bytes (suc n) v h =
    let on : little (bytes n (v / 256)) ≡ v / 256 = little-bytes n (v / 256) (omega arith) in
    omega arith

pub number_put : (b : List ℕ) (at v : ℕ) → at ≤ length b → v < 2 ^ 32 → number (put b at v) at ≡ v
unfolding number put
number_put b at v h l = ap little (part-over b at (bytes 4 v) 4 h (sym (length-bytes 4 v))) ∙ little-bytes 4 v l
