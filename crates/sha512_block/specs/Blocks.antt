-- FIPS 180-4, section 6.4: the hash value after the blocks of a message.
use Rattle.std.specs.Prelude.{ℕ, zero, suc, ◌*◌, ◌/◌, List, length, take, drop}
use Rattle.sha512_block.specs.declared.Hash.{Hash}
use Rattle.sha512_block.specs.Block.{compressed}

-- the bytes of a block
abbrev pub block_size : ℕ
block_size = 128

-- the hash value after the first n blocks of m
unfoldable pub absorbed : ℕ → Hash → List ℕ → Hash
absorbed zero s m = s
absorbed (suc n) s m = compressed (absorbed n s m) (take block_size (drop (n * block_size) m))

-- after all its whole blocks
unfoldable pub hashed : Hash → List ℕ → Hash
hashed s m = absorbed (length m / block_size) s m
