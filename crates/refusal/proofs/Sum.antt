-- A sum held against a limit without being taken, and the room that it leaves.
use Prim.Native.Nat.{ℕ, ◌+◌, ◌-◌, ◌<◌, ◌≤◌}
use native.Mathlib.Omega.{arith}
use mathlib.Core.Path.{◌≡◌, refl, sym}
use mathlib.Core.Bool.{Bool, true, false}
use mathlib.Core.List.{List}
use lib.Dec.{ltb}
use lib.ListN.{length, take, drop, length-drop}
use borrow.Author.Tests.{ltb-true, ltb-false, lt-ltb, le-ltb}
use Rattle.stretch.proofs.Tail.{lent-tail}

pub exceeds-first : (a b limit : ℕ) → limit < a → ltb limit (a + b) ≡ true
exceeds-first a b limit h = lt-ltb limit (a + b) (omega arith)

exceeds-by : (a b limit : ℕ) (t : Bool) → a ≤ limit → ltb (limit - a) b ≡ t → t ≡ ltb limit (a + b)
exceeds-by a b limit true h e = sym (lt-ltb limit (a + b) (omega (arith, ltb-true (limit - a) b e)))
exceeds-by a b limit false h e = sym (le-ltb limit (a + b) (omega (arith, ltb-false (limit - a) b e)))

pub exceeds-rest : (a b limit : ℕ) → a ≤ limit → ltb (limit - a) b ≡ ltb limit (a + b)
exceeds-rest a b limit h = exceeds-by a b limit (ltb (limit - a) b) h refl

-- the tail that is lent from a place that leaves room for n bytes has that room
pub tail-room : (out : List ℕ) (place n : ℕ) → ltb (length out) (place + n) ≡ false
    → n ≤ length (take (length out - place) (drop place out))
tail-room out place n t =
    rw (lent-tail out place, length-drop place out) (omega (arith, ltb-false (length out) (place + n) t))
