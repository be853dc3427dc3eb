-- A digest has 64 bytes, each below 256.
use Rattle.std.proofs.Common.{◌≡◌, ℕ, ◌<◌, List, length, get_or}
use Rattle.sha512_padding.proofs.Numbers.{length-hash_bytes, hash_bytes-bytes}
use Rattle.sha512.specs.Message.{sha512}

pub length-sha512 : (m : List ℕ) → length (sha512 m) ≡ 64
unfolding sha512
length-sha512 m = length-hash_bytes _

pub sha512-bytes : (m : List ℕ) (i : ℕ) → get_or (sha512 m) i 0 < 256
unfolding sha512
sha512-bytes m = hash_bytes-bytes _
