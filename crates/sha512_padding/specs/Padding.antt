-- FIPS 180-4, sections 5.1.2 and 6.4: the padding of a message, and the bytes of a hash value.
use Rattle.std.specs.Prelude.{ℕ, zero, suc, ◌-◌, ◌*◌, ◌/◌, ◌%◌, List, [], ◌∷◌, ◌++◌, replicate}
use Rattle.sha512_block.specs.Blocks.{block_size}
use Rattle.sha512_block.specs.declared.Hash.{Hash}

-- the n bytes of a number, the most significant first
unfoldable pub bytes_of : ℕ → ℕ → List ℕ
bytes_of zero x = []
bytes_of (suc n) x = bytes_of n (x / 256) ++ (x % 256 ∷ [])

-- what follows a message of n bytes: a bit 1, as few zeros as fill the last block up to its last 16 bytes, and there
-- the length in bits
unfoldable pub padding : ℕ → List ℕ
padding n = 0x80 ∷ (replicate ((239 - n % block_size) % block_size) 0 ++ bytes_of 16 (n * 8))

-- four words as bytes
unfoldable pub four_words : ℕ → ℕ → ℕ → ℕ → List ℕ
four_words a b c d = bytes_of 8 a ++ (bytes_of 8 b ++ (bytes_of 8 c ++ bytes_of 8 d))

-- the 64 bytes of a hash value
unfoldable pub hash_bytes : Hash → List ℕ
hash_bytes s = four_words s.a s.b s.c s.d ++ four_words s.e s.f s.g s.h
