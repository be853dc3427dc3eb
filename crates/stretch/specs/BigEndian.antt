-- Numbers as bytes, the most significant first.
use Rattle.std.specs.Prelude.{ℕ, zero, suc, ◌+◌, ◌*◌, List, get_or}

-- the number that the n bytes of m from i on make
unfoldable pub big_endian : ℕ → List ℕ → ℕ → ℕ
big_endian zero m i = 0
big_endian (suc n) m i = big_endian n m i * 256 + get_or m (i + n) 0
