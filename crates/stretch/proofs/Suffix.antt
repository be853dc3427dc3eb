-- How far two stretches agree from the back: the laws of Common over the reversed stretches.
use Prim.Native.Nat.{ℕ, ◌+◌, ◌-◌, ◌<◌, ◌≤◌}
use native.Mathlib.Omega.{arith}
use mathlib.Core.Path.{◌≡◌, ◌∙◌, sym, ap}
use mathlib.Core.List.{List, ◌++◌, reverse, reverse-append, reverse-reverse}
use lib.ListN.{length, take, drop, length-drop, length-reverse, take-append-drop}
use lib.Seq.{take_at, drop_at}
use Rattle.stretch.specs.Common.{lcp, lcs}
use Rattle.stretch.proofs.Common.{lcp-comm, lcp-le-left, lcp-take, lcp-past, lcp-within}
use Rattle.stretch.proofs.Common.{lcp-through}

-- the reverse of a front and of a tail
pub drop-reverse : (l : List ℕ) (i j : ℕ) → i + j ≡ length l → drop j (reverse l) ≡ reverse (take i l)
drop-reverse l i j e =
    let long : length (reverse (drop i l)) ≡ j = length-reverse (drop i l) ∙ simp length-drop (omega arith) in
    ap (λ (r : List ℕ). drop j (reverse r)) (sym (take-append-drop i l))
    ∙ ap (drop j) (reverse-append (take i l) (drop i l))
    ∙ drop_at (reverse (drop i l)) (reverse (take i l)) j long

pub take-reverse : (l : List ℕ) (i j : ℕ) → i + j ≡ length l → take j (reverse l) ≡ reverse (drop i l)
take-reverse l i j e =
    let long : length (reverse (drop i l)) ≡ j = length-reverse (drop i l) ∙ simp length-drop (omega arith) in
    ap (λ (r : List ℕ). take j (reverse r)) (sym (take-append-drop i l))
    ∙ ap (take j) (reverse-append (take i l) (drop i l))
    ∙ take_at (reverse (drop i l)) (reverse (take i l)) j long

pub lcs-comm : (xs ys : List ℕ) → lcs xs ys ≡ lcs ys xs
unfolding lcs
lcs-comm xs ys = lcp-comm (reverse xs) (reverse ys)

pub lcs-le-left : (xs ys : List ℕ) → lcs xs ys ≤ length xs
unfolding lcs
lcs-le-left xs ys = rw (← length-reverse xs) (lcp-le-left (reverse xs) (reverse ys))

pub lcs-le-right : (xs ys : List ℕ) → lcs xs ys ≤ length ys
lcs-le-right xs ys = rw (lcs-comm xs ys) (lcs-le-left ys xs)

-- the last elements, as many as are shared, are the same
pub lcs-drop : (xs ys : List ℕ) (i : ℕ) → i ≤ lcs xs ys → drop (length xs - i) xs ≡ drop (length ys - i) ys
unfolding lcs
lcs-drop xs ys i h =
    let left : i ≤ length xs = omega (arith, lcs-le-left xs ys) in
    let right : i ≤ length ys = omega (arith, lcs-le-right xs ys) in
    let turned : reverse (drop (length xs - i) xs) ≡ reverse (drop (length ys - i) ys)
    = sym (take-reverse xs (length xs - i) i (omega arith)) ∙ lcp-take (reverse xs) (reverse ys) i h
    ∙ take-reverse ys (length ys - i) i (omega arith) in
    sym (reverse-reverse (drop (length xs - i) xs)) ∙ ap reverse turned ∙ reverse-reverse (drop (length ys - i) ys)

pub lcs-past : (xs ys zs : List ℕ) → lcs (xs ++ zs) (ys ++ zs) ≡ length zs + lcs xs ys
unfolding lcs
lcs-past xs ys zs =
    rw (reverse-append xs zs, reverse-append ys zs, lcp-past (reverse zs) (reverse xs) (reverse ys), length-reverse zs)

-- what both end in is no longer than lcs
pub lcs-longest : (xs ys zs us vs : List ℕ) → xs ≡ us ++ zs → ys ≡ vs ++ zs → length zs ≤ lcs xs ys
lcs-longest xs ys zs us vs p q = rw (p, q, lcs-past us vs zs) (omega arith)

pub lcs-within : (xs ys zs : List ℕ) → lcs xs ys < length ys → lcs xs (zs ++ ys) ≡ lcs xs ys
unfolding lcs
lcs-within xs ys zs h =
    rw (reverse-append zs ys) (lcp-within (reverse xs) (reverse ys) (reverse zs) (rw (length-reverse ys) h))

pub lcs-through : (xs ys zs : List ℕ) → length ys ≤ lcs xs ys
    → lcs xs (zs ++ ys) ≡ length ys + lcs (take (length xs - length ys) xs) zs
unfolding lcs
lcs-through xs ys zs h =
    let long : length (reverse ys) ≡ length ys = length-reverse ys in
    let fits : length ys ≤ length xs = omega (arith, lcs-le-left xs ys) in
    ap (lcp (reverse xs)) (reverse-append zs ys)
    ∙ lcp-through (reverse xs) (reverse ys) (reverse zs) (omega arith)
    ∙ rw (long, drop-reverse xs (length xs - length ys) (length ys) (omega arith))
