-- Joins: two that are one, and the length of three.
use Prim.Native.Nat.{ℕ, ◌+◌}
use mathlib.Core.Path.{◌≡◌, ◌∙◌, sym, ap}
use mathlib.Core.List.{List, ◌++◌}
use lib.ListN.{length, take, drop, length-append}
use lib.Seq.{take-append_seam, drop-append_seam, take_at, drop_at}

-- two joins that are one have the same parts, cut at one length
pub append-same : (a b c d : List ℕ) → length a ≡ length b → a ++ c ≡ b ++ d → (a ≡ b) × (c ≡ d)
append-same a b c d n e = (
  sym (take-append_seam a c) ∙ ap (take (length a)) e ∙ take_at b d (length a) (sym n),
  sym (drop-append_seam a c) ∙ ap (drop (length a)) e ∙ drop_at b d (length a) (sym n),
)

pub length_three : (x y z : List ℕ) (n : ℕ) → n ≡ length x + (length y + length z) → length (x ++ (y ++ z)) ≡ n
length_three x y z n e = simp length-append (sym e)
