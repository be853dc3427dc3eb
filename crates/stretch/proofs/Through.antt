-- Parts of a buffer after a write: before it, after it, and of what was laid.
use Prim.Native.Nat.{ℕ, ◌+◌, ◌-◌, ◌≤◌}
use native.Mathlib.Omega.{arith}
use mathlib.Core.Path.{◌≡◌, ◌∙◌, sym, ap}
use mathlib.Core.List.{List, ◌++◌}
use lib.ListN.{length, take, drop, length-drop, take-append-drop}
use lib.Seq.{length-take-le, take-append-le, drop-append-le, drop-drop, drop_at}
use Rattle.stretch.specs.Over.{over}
use Rattle.stretch.specs.Part.{part}
use Rattle.stretch.proofs.Over.{drop-over}

-- a part of the first of two lists
pub part-first : (l m : List ℕ) (from to : ℕ) → from ≤ to → to ≤ length l → part (l ++ m) from to ≡ part l from to
part-first l m from to o h =
    ap (take (to - from)) (drop-append-le from l m (omega arith))
    ∙ take-append-le (to - from) (drop from l) m (simp length-drop (omega arith))

module _ (l : List ℕ) (at : ℕ) (s : List ℕ) (room : at ≤ length l) where
  pub part-before : (from to : ℕ) → from ≤ to → to ≤ at → part (over l at s) from to ≡ part l from to
  unfolding over
  part-before from to o g =
      let front = take at l in
      let long : to ≤ length front = rw (length-take-le at l room) g in
      part-first front (s ++ drop (length s) (drop at l)) from to o long
      ∙ sym (part-first front (drop at l) from to o long)
      ∙ ap (λ (m : List ℕ). part m from to) (take-append-drop at l)

  pub part-behind : (from to : ℕ) → at + length s ≤ from → part (over l at s) from to ≡ part l from to
  part-behind from to g =
      let past = at + length s in
      let e : past + (from - past) ≡ from = omega arith in
      let on : (m : List ℕ) → drop from m ≡ drop (from - past) (drop past m)
      = λ m. sym (drop-drop (from - past) past m ∙ ap (λ (k : ℕ). drop k m) e) in
      ap (take (to - from)) (on (over l at s) ∙ ap (drop (from - past)) (drop-over l at s room) ∙ sym (on l))

  pub part-laid : (i j : ℕ) → i ≤ j → j ≤ length s → part (over l at s) (at + i) (at + j) ≡ part s i j
  unfolding over
  part-laid i j o g =
      let rest = s ++ drop (length s) (drop at l) in
      let e : at + j - (at + i) ≡ j - i = omega arith in
      ap (λ (k : ℕ). take k (drop (at + i) (take at l ++ rest))) e
      ∙ ap (take (j - i)) (sym (drop-drop i at (take at l ++ rest))
      ∙ ap (drop i) (drop_at (take at l) rest at (length-take-le at l room)))
      ∙ part-first s (drop (length s) (drop at l)) i j o g
