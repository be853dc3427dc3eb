-- A stretch of a list.
use Rattle.std.specs.Prelude.{ℕ, ◌-◌, List, take, drop}

-- the elements from one position up to another
abbrev pub part : List ℕ → ℕ → ℕ → List ℕ
part l from to = take (to - from) (drop from l)
