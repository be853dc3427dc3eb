-- Numbers laid on an image, one after the other.
use Prim.Native.Nat.{ℕ, zero, suc, ◌+◌, ◌*◌, ◌^◌, ◌<◌, ◌≤◌}
use native.Mathlib.Nat.{not-suc-le-zero, le_of_suc-le-suc, add-sub_cancel_left}
use native.Mathlib.Omega.{arith}
use mathlib.Core.Path.{◌≡◌, refl, ◌∙◌, sym, ap}
use mathlib.Core.List.{List, [], ◌∷◌, ◌++◌}
use lib.ListN.{length, get_or, take, drop, length-append}
use lib.Seq.{take_at, drop_at, drop-drop}
use Rattle.stretch.specs.Over.{over}
use Rattle.stretch.specs.Part.{part}
use Rattle.stretch.proofs.Through.{part-first, part-laid}
use Rattle.image.specs.Numbers.{little, bytes, numbers, number}
use Rattle.image.proofs.Numbers.{length-bytes, little-bytes}

pub number-laid : (b : List ℕ) (at : ℕ) (s : List ℕ) → at ≤ length b → (i : ℕ) → i + 4 ≤ length s
    → number (over b at s) (at + i) ≡ number s i
unfolding number
number-laid b at s room i h =
    let e : at + i + 4 ≡ at + (i + 4) = omega arith in
    ap (λ (k : ℕ). little (part (over b at s) (at + i) k)) e
    ∙ ap little (part-laid b at s room i (i + 4) (omega arith) h)

pub number-first : (l m : List ℕ) (i : ℕ) → i + 4 ≤ length l → number (l ++ m) i ≡ number l i
unfolding number
number-first l m i h = ap little (part-first l m i (i + 4) (omega arith) h)

-- numbers, one after the other
pub length-numbers : (vs : List ℕ) → length (numbers vs) ≡ 4 * length vs
unfolding numbers
length-numbers [] = refl
length-numbers (v ∷ vs) = length-append (bytes 4 v) (numbers vs)
    ∙ (rw (length-bytes 4 v, length-numbers vs) (omega arith))

part-numbers : (vs : List ℕ) (k : ℕ) → k < length vs → take 4 (drop (4 * k) (numbers vs)) ≡ bytes 4 (get_or vs k 0)
unfolding numbers
part-numbers [] k h = absurd (not-suc-le-zero h)
part-numbers (v ∷ vs) zero h = take_at (bytes 4 v) (numbers vs) 4 (length-bytes 4 v)
part-numbers (v ∷ vs) (suc k) h =
    let e : 4 * suc k ≡ 4 + 4 * k = omega arith in
    ap (λ (n : ℕ). take 4 (drop n (bytes 4 v ++ numbers vs))) e
    ∙ ap (take 4) (sym (drop-drop (4 * k) 4 (bytes 4 v ++ numbers vs))
    ∙ ap (drop (4 * k)) (drop_at (bytes 4 v) (numbers vs) 4 (length-bytes 4 v)))
    ∙ part-numbers vs k (le_of_suc-le-suc h)

pub number-numbers : (vs : List ℕ) (k : ℕ) → k < length vs → get_or vs k 0 < 2 ^ 32
    → number (numbers vs) (4 * k) ≡ get_or vs k 0
unfolding number
number-numbers vs k h l =
    ap (λ (n : ℕ). little (take n (drop (4 * k) (numbers vs)))) (add-sub_cancel_left (4 * k) 4)
    ∙ ap little (part-numbers vs k h)
    ∙ little-bytes 4 (get_or vs k 0) l
