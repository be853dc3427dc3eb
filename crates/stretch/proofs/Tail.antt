-- The tail of a list from a place on, as lending `&s[place..]` shows it.
use Prim.Native.Nat.{ℕ, ◌-◌}
use native.Mathlib.Omega.{arith}
use mathlib.Core.Path.{◌≡◌}
use mathlib.Core.List.{List}
use lib.ListN.{length, take, drop, length-drop}
use lib.Seq.{take_all}

pub lent-tail : (l : List ℕ) (place : ℕ) → take (length l - place) (drop place l) ≡ drop place l
lent-tail l place = take_all (length l - place) (drop place l) (simp length-drop (omega arith))
