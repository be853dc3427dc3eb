-- Where a stretch lies in a text.
use Rattle.std.proofs.Common.{rules}
use Prim.Native.Nat.{ℕ, ◌+◌, ◌≤◌}
use native.Mathlib.Nat.{add-sub_cancel_left}
use mathlib.Core.Path.{◌≡◌}
use mathlib.Core.List.{List, ◌++◌}
use lib.ListN.{length, length-append}
use lib.Seq.{take_at, drop_at}
use Rattle.stretch.specs.Part.{part}

-- so many bytes from a place on are the stretch
pub record Lies (text : List ℕ) (from long : ℕ) (s : List ℕ) : Type 0 where
  pub within : from + long ≤ length text
  pub stretch : part text from (from + long) ≡ s

pub lies-between : (text front s behind : List ℕ) (from long : ℕ) → text ≡ front ++ (s ++ behind) → length front ≡ from
    → length s ≡ long → Lies text from long s
lies-between text front s behind from long e p q =
    search (rules, length-append, drop_at, add-sub_cancel_left, take_at)
