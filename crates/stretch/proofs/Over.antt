-- What a write leaves of a buffer: its length, writes in a row, writes into a lent tail.
use Prim.Native.Nat.{ℕ, ◌+◌, ◌-◌, ◌<◌, ◌≤◌}
use native.Mathlib.Nat.{add-zero, zero-add, add_assoc, add-sub_cancel_left}
use native.Mathlib.Numerals.{add-one}
use native.Mathlib.Omega.{arith}
use mathlib.Core.Path.{◌≡◌, refl, ◌∙◌, sym, ap}
use mathlib.Core.List.{List, [], ◌∷◌, ◌++◌, append_assoc, append-nil}
use lib.ListN.{length, get_or, take, drop, set, length-append, length-take, length-drop, take-append-drop}
use lib.ListN.{drop_of_length-le}
use lib.Seq.{length-take-le, set_split, take_at, drop_at, drop-drop, take-take, take-add, take-length, drop-append-le}
use lib.Seq.{paste, paste-suc, length-paste, take-paste, drop-paste}
use Rattle.stretch.specs.Over.{over}
use Rattle.stretch.specs.Part.{part}

-- a copy that has come to its end
pub over-paste : (l : List ℕ) (at : ℕ) (s : List ℕ) → paste l at s (length s) ≡ over l at s
unfolding over
over-paste l at s = simp (take-length, append_assoc, drop-drop)

-- a turn of the loop that copies to the front
pub paste-on : (l s : List ℕ) (i : ℕ) → i < length l → i < length s
    → set (paste l 0 s i) i (get_or s i 0) ≡ paste l 0 s (i + 1)
paste-on l s i h g =
    ap (λ (k : ℕ). set (paste l 0 s i) k (get_or s i 0)) (sym (zero-add i))
    ∙ paste-suc l 0 s i 0 (omega arith) g
    ∙ ap (λ (k : ℕ). paste l 0 s k) (sym (add-one i))

pub over-front : (l s : List ℕ) → over l 0 s ≡ s ++ drop (length s) l
unfolding over
over-front l s = refl

pub over-all : (l s : List ℕ) → length s ≡ length l → over l 0 s ≡ s
over-all l s e = over-front l s ∙ ap (λ (r : List ℕ). s ++ r) (drop_of_length-le l {i = length s} (omega arith))
    ∙ append-nil s

pub over-nil : (l : List ℕ) (at : ℕ) → over l at [] ≡ l
unfolding over
over-nil l at = take-append-drop at l

pub length_over : (l : List ℕ) (at : ℕ) (s : List ℕ) → at + length s ≤ length l → length (over l at s) ≡ length l
length_over l at s h = ap length (sym (over-paste l at s)) ∙ length-paste l at s (length s) h (omega arith)

-- what stands before the end of a write, and what stands after it
pub take-over : (l : List ℕ) (at : ℕ) (s : List ℕ) → at ≤ length l → take (at + length s) (over l at s) ≡ take at l ++ s
take-over l at s h = rw (← over-paste l at s) (take-paste l at s (length s) h (omega arith) ∙ simp take-length)

pub drop-over : (l : List ℕ) (at : ℕ) (s : List ℕ) → at ≤ length l
    → drop (at + length s) (over l at s) ≡ drop (at + length s) l
drop-over l at s h = rw (← over-paste l at s) (drop-paste l at s (length s) h (omega arith))

-- and between them what was laid
pub part-over : (l : List ℕ) (at : ℕ) (s : List ℕ) (n : ℕ) → at ≤ length l → n ≡ length s
    → part (over l at s) at (at + n) ≡ s
unfolding over
part-over l at s n h e =
    let behind = drop (length s) (drop at l) in
    rw (add-sub_cancel_left at n, drop_at (take at l) (s ++ behind) at (length-take-le at l h))
    (take_at s behind n (sym e))

-- two writes, the second right after the first, are one
pub over-over : (l : List ℕ) (at : ℕ) (s t : List ℕ) → at ≤ length l
    → over (over l at s) (at + length s) t ≡ over l at (s ++ t)
unfolding over
over-over l at s t h =
    ap (λ (r : List ℕ). r ++ (t ++ drop (length t) (drop (at + length s) (over l at s)))) (take-over l at s h)
    ∙ ap (λ (r : List ℕ). take at l ++ s ++ (t ++ drop (length t) r)) (drop-over l at s h)
    ∙ simp (append_assoc, length-append, drop-drop, add_assoc)

-- the same, where the second place is told by a number of its own
pub over-next : (l : List ℕ) (at n : ℕ) (s t : List ℕ) → at ≤ length l → n ≡ at + length s
    → over (over l at s) n t ≡ over l at (s ++ t)
over-next l at n s t h e = ap (λ (k : ℕ). over (over l at s) k t) e ∙ over-over l at s t h

-- the end of a list overwritten
pub over-end : (w r t : List ℕ) (n : ℕ) → n ≡ length w → length r ≡ length t → over (w ++ r) n t ≡ w ++ t
unfolding over
over-end w r t n e d =
    rw (take_at w r n (sym e), drop_at w r n (sym e), drop_of_length-le r {i = length t} (omega arith), append-nil)

-- one element stored
pub set-over : (l : List ℕ) (i a : ℕ) → i < length l → set l i a ≡ over l i (a ∷ [])
unfolding over
set-over l i a h = set_split l i a h
    ∙ ap (λ (r : List ℕ). take i l ++ (a ∷ r)) (ap (λ (k : ℕ). drop k l) (sym (add-one i)) ∙ sym (drop-drop 1 i l))

-- a write into a part of a buffer, lent and come back: n bytes from `at` on, or all of them
pub over-part : (l : List ℕ) (at n k : ℕ) (s : List ℕ) → k + length s ≤ n → at + n ≤ length l
    → take at l ++ (over (take n (drop at l)) k s ++ drop n (drop at l)) ≡ over l (at + k) s
unfolding over
over-part l at n k s h g =
    let m : List ℕ = drop at l in
    let room : k + length s ≤ length (take n m) = simp (length-take, length-drop) (omega arith) in
    let kept : drop (length s) (drop k (take n m)) ++ drop n m ≡ drop (length s) (drop k m)
    = rw (
      drop-drop (length s) k (take n m),
      drop-drop (length s) k m,
      ← drop-append-le (k + length s) (take n m) (drop n m) room,
      take-append-drop,
    ) in
    let fits : k ≤ n = omega arith in
    simp (append_assoc, kept) (simp (take-take, take-add, drop-drop, append_assoc, add_assoc))

pub over-tail : (l : List ℕ) (at k : ℕ) (s : List ℕ) → at + k + length s ≤ length l
    → take at l ++ (over (take (length l - at) (drop at l)) k s ++ drop (length l - at) (drop at l)) ≡ over l (at + k) s
over-tail l at k s h = over-part l at (length l - at) k s (omega arith) (omega arith)

pub over-tail-front : (l : List ℕ) (at : ℕ) (s : List ℕ) → at + length s ≤ length l
    → take at l ++ (over (take (length l - at) (drop at l)) 0 s ++ drop (length l - at) (drop at l)) ≡ over l at s
over-tail-front l at s h = over-tail l at 0 s (omega arith) ∙ ap (λ (k : ℕ). over l k s) (add-zero at)
