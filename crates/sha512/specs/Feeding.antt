-- A message that comes in parts: the running state holds the hash value after the whole blocks so far, the bytes that
-- wait for the next block, and how many bytes there were in all.
use Rattle.std.specs.Prelude.{ℕ, ◌+◌, ◌-◌, ◌%◌, ◌^◌, List, [], ◌∷◌, ◌++◌, length, take, replicate}
use Rattle.sha512_block.specs.declared.Hash.{Hash}
use Rattle.sha512.specs.declared.Running.{Running}
use Rattle.sha512_block.specs.Constants.{initial}
use Rattle.sha512_block.specs.Blocks.{hashed, block_size}
use Rattle.sha512_padding.specs.Padding.{padding, hash_bytes}
use Rattle.sha512.specs.Message.{rest}

-- a block that begins with some bytes and goes on with zeros
unfoldable pub filled : List ℕ → List ℕ
filled s = s ++ replicate (block_size - length s) 0

-- the state before the first part
unfoldable pub begun : Running
begun = record { hash = initial; block = filled []; total = 0 }

-- the bytes that wait: how many they are is told by the total
unfoldable pub waiting : Running → List ℕ
waiting r = take (r.total % block_size) r.block

-- from a hash value at a block's edge, the state after the bytes m, which bring the total to n
unfoldable pub after : Hash → ℕ → List ℕ → Running
after s n m = record { hash = hashed s m; block = filled (rest m); total = n }

-- the state after one more part
unfoldable pub fed : Running → List ℕ → Running
fed r part = after r.hash ((r.total + length part) % 2 ^ 64) (waiting r ++ part)

-- the message that parts make
abbrev pub joined : List (List ℕ) → List ℕ
joined [] = []
joined (part ∷ parts) = part ++ joined parts

-- the state after several parts, one after another
abbrev pub fed_all : Running → List (List ℕ) → Running
fed_all r [] = r
fed_all r (part ∷ parts) = fed_all (fed r part) parts

-- the digest that a state ends in
unfoldable pub finished : Running → List ℕ
finished r = hash_bytes (hashed r.hash (waiting r ++ padding r.total))
