-- What a buffer holds after a write.
use Rattle.std.specs.Prelude.{ℕ, ◌+◌, ◌≤◌, ◌≡◌, List, ◌++◌, length, take, drop}

-- l with s laid over it from a place on: all else stays
unfoldable pub over : List ℕ → ℕ → List ℕ → List ℕ
over l place s = take place l ++ (s ++ drop (length s) (drop place l))

-- s stands in the buffer from a place on, and n is the place after it
pub record Wrote (l : List ℕ) (at : ℕ) (s left : List ℕ) (n : ℕ) : Type 0 where
  pub next : n ≡ at + length s
  pub laid : left ≡ over l at s
  pub room : n ≤ length left
