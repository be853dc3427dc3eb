-- An interval of a list: the part within it, what lies on its two sides, and the interval with a side moved inward.
use Prim.Native.Nat.{ℕ, ◌+◌, ◌-◌, ◌≤◌}
use native.Mathlib.Omega.{arith}
use mathlib.Core.Path.{◌≡◌, ◌∙◌, sym, ap}
use mathlib.Core.List.{List, ◌++◌}
use lib.ListN.{length, take, drop, length-drop, take-append-drop}
use lib.Seq.{length-take-le, take-take, take-add, drop_at, drop-drop}
use Rattle.stretch.specs.Part.{part}

module _ (l : List ℕ) (start end : ℕ) (order : start ≤ end) where
  pub length_part : end ≤ length l → length (part l start end) ≡ end - start
  length_part g = length-take-le (end - start) (drop start l) (simp length-drop (omega arith))

  pub take-end : take end l ≡ take start l ++ part l start end
  take-end =
      let e : end ≡ start + (end - start) = omega arith in
      ap (λ (k : ℕ). take k l) e ∙ take-add start (end - start) l

  pub drop-start : drop start l ≡ part l start end ++ drop end l
  drop-start =
      let e : start + (end - start) ≡ end = omega arith in
      sym (take-append-drop (end - start) (drop start l))
      ∙ ap (λ (m : List ℕ). part l start end ++ m) (drop-drop (end - start) start l ∙ ap (λ (k : ℕ). drop k l) e)

  pub part-between : take start l ++ (part l start end ++ drop end l) ≡ l
  part-between = ap (λ (m : List ℕ). take start l ++ m) (sym drop-start) ∙ take-append-drop start l

  pub take_part : (q : ℕ) → q ≤ end - start → take (end - start - q) (part l start end) ≡ part l start (end - q)
  take_part q h =
      let e : end - start - q ≡ end - q - start = omega arith in
      take-take (end - start - q) (end - start) (drop start l) (omega arith) ∙ ap (λ (k : ℕ). take k (drop start l)) e

  pub drop-part : (p : ℕ) → p ≤ end - start → end ≤ length l → drop p (part l start end) ≡ part l (start + p) end
  drop-part p h g =
      let m = drop start l in
      let k = end - (start + p) in
      let e : end - start ≡ p + k = omega arith in
      let long : length (take p m) ≡ p = length-take-le p m (simp length-drop (omega arith)) in
      ap (λ (n : ℕ). drop p (take n m)) e
      ∙ ap (drop p) (take-add p k m)
      ∙ drop_at (take p m) (take k (drop p m)) p long
      ∙ ap (take k) (drop-drop p start l)
