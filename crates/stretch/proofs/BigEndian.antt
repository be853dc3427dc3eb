-- Words and the bytes they are read from.
use Prim.Native.Nat.{ℕ, ◌+◌, ◌<◌}
use native.Mathlib.Omega.{arith}
use mathlib.Core.Path.{◌≡◌, ◌∙◌, ap}
use mathlib.Core.List.{List}
use lib.ListN.{get_or, take, drop}
use lib.Seq.{get_or-take, get_or-drop}
use Rattle.std.specs.Int.{w64, from_be_bytes}
use Rattle.stretch.specs.BigEndian.{big_endian}

-- the eight bytes of a word that is cut out
pub from-word : (w m : List ℕ) (i : ℕ) → w ≡ take 8 (drop i m) → from_be_bytes w64 w ≡ big_endian 8 m i
unfolding big_endian
from-word w m i e =
    let at : (k : ℕ) → k < 8 → get_or w k 0 ≡ get_or m (i + k) 0
    = λ k h. ap (λ (l : List ℕ). get_or l k 0) e ∙ get_or-take 8 (drop i m) k 0 h ∙ get_or-drop i m k 0 in
    omega (
      arith,
      at 0 (omega arith),
      at 1 (omega arith),
      at 2 (omega arith),
      at 3 (omega arith),
      at 4 (omega arith),
      at 5 (omega arith),
      at 6 (omega arith),
      at 7 (omega arith),
    )
