-- FIPS 180-4, sections 5.2.2 and 6.4: blocks, and the digest of a message of bytes.
use Rattle.std.specs.Prelude.{ℕ, ◌*◌, ◌/◌, List, ◌++◌, length, drop}
use Rattle.sha512_block.specs.Constants.{initial}
use Rattle.sha512_block.specs.Blocks.{hashed, block_size}
use Rattle.sha512_padding.specs.Padding.{padding, hash_bytes}

-- the bytes after the whole blocks
unfoldable pub rest : List ℕ → List ℕ
rest m = drop (length m / block_size * block_size) m

-- the digest of a message
unfoldable pub sha512 : List ℕ → List ℕ
sha512 m = hash_bytes (hashed initial (m ++ padding (length m)))
