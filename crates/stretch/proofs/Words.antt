-- The words of a stretch, eight bytes each, from either end.
use Prim.Native.Nat.{ℕ, zero, suc, ◌+◌, ◌-◌, ◌*◌, ◌/◌, ◌%◌, ◌<◌, ◌≤◌}
use native.Mathlib.Omega.{arith}
use mathlib.Core.Path.{◌≡◌, ◌∙◌, sym, ap}
use mathlib.Core.List.{List, [], reverse}
use lib.ListN.{length, get_or, take, drop}
use lib.Seq.{drop-drop, drop_at, take-add, length-take-le}
use Rattle.std.specs.Simd.{first_chunks}
use Rattle.stretch.proofs.Suffix.{drop-reverse, take-reverse}

-- chunk i of a stretch that is cut into chunks of n
pub chunk-at : (n k i : ℕ) (s : List ℕ) → i < k → get_or (first_chunks n k s) i [] ≡ take n (drop (i * n) s)
chunk-at n zero i s h = absurd (omega arith)
chunk-at n (suc k) zero s h = let e : 0 * n ≡ 0 = omega arith in rw e
chunk-at n (suc k) (suc i) s h =
    let e : suc i * n ≡ n + i * n = omega arith in
    rw (chunk-at n k i (drop n s) (omega arith), drop-drop, e)

-- the chunks that end a stretch, read from the back
pub chunk-behind : (i : ℕ) (s : List ℕ) → i * 8 + 8 ≤ length s
    → reverse (take 8 (drop (length s - i * 8 - 8) s)) ≡ take 8 (drop (i * 8) (reverse s))
chunk-behind i s h =
    let j = length s - i * 8 - 8 in
    let e : length s - i * 8 ≡ j + 8 = omega arith in
    let front = take (length s - i * 8) s in
    let long : length front ≡ length s - i * 8 = length-take-le (length s - i * 8) s (omega arith) in
    let last : drop j front ≡ take 8 (drop j s)
    = ap (λ (n : ℕ). drop j (take n s)) e ∙ ap (drop j) (take-add j 8 s)
    ∙ drop_at (take j s) (take 8 (drop j s)) j (length-take-le j s (omega arith)) in
    ap reverse (sym last)
    ∙ sym (take-reverse front j 8 (omega arith))
    ∙ ap (take 8) (sym (drop-reverse s (length s - i * 8) (i * 8) (omega arith)))

-- and the words that the code numbers from the back
pub word-behind : (i q : ℕ) (s : List ℕ) → i * 8 + 8 ≤ length s → q ≡ length s / 8
    → reverse (get_or (first_chunks 8 q (drop (length s % 8) s)) (q - 1 - i) []) ≡ take 8 (drop (i * 8) (reverse s))
word-behind i q s h e =
    let at : length s % 8 + (q - 1 - i) * 8 ≡ length s - i * 8 - 8 = omega arith in
    rw (chunk-at 8 q (q - 1 - i) (drop (length s % 8) s) (omega arith), drop-drop, at) (chunk-behind i s h)
