-- The piece of a number: where it lies, what comes after it, how many there are, and the turns of the loops.
use Prim.Native.Nat.{ℕ, zero, suc, ◌+◌, ◌-◌, ◌<◌, ◌≤◌}
use native.Mathlib.Nat.{not-suc-le-zero}
use native.Mathlib.Omega.{arith}
use mathlib.Core.Path.{◌≡◌, refl, sym}
use mathlib.Core.List.{List, [], ◌∷◌, ◌++◌}
use lib.Dec.{eqb, ltb}
use lib.ListN.{length, get_or, drop}
use borrow.Author.Tests.{eq-eqb, lt-ltb, le-ltb, ltb-true, ltb-false}
use Rattle.stretch.specs.Part.{part}
use Rattle.stretch.proofs.Cases.{by_cases}
use Rattle.stretch.proofs.Tail.{lent-tail}
use Rattle.fields.specs.declared.Extent.{Extent}
use Rattle.std.specs.Prelude.{Some, None, count_by, ◌==◌, cond}
use Rattle.std.proofs.lemmas.List.Sums.{sum_by-cons}
use Rattle.fields.specs.Cut.{on_first, parted, next_of, piece_of, piece_after}
use Rattle.fields.proofs.Cutting.{next_le, parted-next, parted-last}

-- how many pieces there are
length-on_first : (c : ℕ) (ps : List (List ℕ)) → 0 < length ps → length (on_first c ps) ≡ length ps
length-on_first c [] h = absurd (not-suc-le-zero h)
length-on_first c (p ∷ ps) h = refl

on_first-some : (c : ℕ) (ps : List (List ℕ)) → 0 < length (on_first c ps)
on_first-some c [] = omega arith
on_first-some c (p ∷ ps) = omega arith

on_first-append : (c : ℕ) (ps qs : List (List ℕ)) → 0 < length ps → on_first c (ps ++ qs) ≡ on_first c ps ++ qs
on_first-append c [] qs h = absurd (not-suc-le-zero h)
on_first-append c (p ∷ ps) qs h = refl

module _ (mark : ℕ) where
  parted-some : (s : List ℕ) → 0 < length (parted mark s)
  unfolding parted
  parted-some [] = omega arith
  parted-some (c ∷ s) = by_cases (eqb c mark) (λ e. rw e (omega arith)) (λ e. rw e (on_first-some c (parted mark s)))

  -- a mark between two texts parts them
  pub parted-append : (a b : List ℕ) → parted mark (a ++ (mark ∷ b)) ≡ parted mark a ++ parted mark b
  unfolding parted
  parted-append [] b = rw (eq-eqb mark mark refl)
  parted-append (c ∷ a) b =
      by_cases (eqb c mark)
      (λ e. rw (e, parted-append a b))
      (λ e. rw (e, parted-append a b) (on_first-append c (parted mark a) (parted mark b) (parted-some a)))

  -- a byte that is a mark counts
  count_by-cons : (c : ℕ) (s : List ℕ)
      → count_by (λ b. b == mark) (c ∷ s) ≡ cond (eqb c mark) 1 0 + count_by (λ b. b == mark) s
  count_by-cons = sum_by-cons (λ b. cond (b == mark) 1 0)

  -- the pieces are one more than the marks
  pub length-parted : (s : List ℕ) → length (parted mark s) ≡ count_by (λ b. b == mark) s + 1
  unfolding parted
  length-parted [] = refl
  length-parted (c ∷ s) =
      by_cases (eqb c mark)
      (λ e. rw e (omega (arith, length-parted s, rw e at (count_by-cons c s))))
      (λ e. rw e (omega (
        arith,
        length-on_first c (parted mark s) (parted-some s),
        length-parted s,
        rw e at (count_by-cons c s),
      )))

  module _ (s : List ℕ) where
    -- a loop that has come to a place, with so many pieces left to pass: it passes one, there is none, it has come
    pub piece-on : (at left end : ℕ) → end ≡ next_of mark s at → 0 < left → end < length s
        → piece_of mark s at left ≡ piece_of mark s (end + 1) (left - 1)
    unfolding piece_of
    piece-on at zero end f h l = absurd (not-suc-le-zero h)
    piece-on at (suc k) end f h l =
        let e : suc k - 1 ≡ k = omega arith in
        let g : next_of mark s at < length s = omega arith in
        rw (e, f, lt-ltb _ _ g)

    pub piece-none : (at left end : ℕ) → end ≡ next_of mark s at → 0 < left → length s ≤ end
        → piece_of mark s at left ≡ None
    unfolding piece_of
    piece-none at zero end f h l = absurd (not-suc-le-zero h)
    piece-none at (suc k) end f h l = let g : length s ≤ next_of mark s at = omega arith in rw (le-ltb _ _ g)

    pub piece-here : (at left end : ℕ) → end ≡ next_of mark s at → left ≡ 0
        → piece_of mark s at left ≡ Some (record { from = at; to = end })
    unfolding piece_of
    piece-here at left end f e = rw (e, f)

-- an extent is that of piece k, from 0, of those from a place on
pub record Lies (mark : ℕ) (s : List ℕ) (from k : ℕ) (e : Extent) : Type 0 where
  pub ordered : e.from ≤ e.to
  pub inside : e.to ≤ length s
  pub exists : k < length (parted mark (drop from s))
  pub piece : get_or (parted mark (drop from s)) k [] ≡ part s e.from e.to

module _ (mark : ℕ) (s : List ℕ) where
  -- the first piece from a place on
  first_piece : (from : ℕ) → from ≤ length s
      → get_or (parted mark (drop from s)) 0 [] ≡ part s from (next_of mark s from)
  first_piece from h =
      by_cases (ltb (next_of mark s from) (length s))
      (λ t. rw (parted-next mark s from (ltb-true _ _ t)))
      (λ t.
      let e : next_of mark s from ≡ length s = omega (arith, ltb-false, next_le mark s from h) in
      rw (parted-last mark s from h e, e) (sym (lent-tail s from)))

  pub piece-lies : (from k : ℕ) {e : Extent} → from ≤ length s → piece_of mark s from k ≡ Some e → Lies mark s from k e
  unfolding piece_of
  piece-lies from zero {e} h p =
      let q : record { from = from; to = next_of mark s from } ≡ e = cc in
      rw (← q) (record {
        ordered = omega arith;
        inside = next_le mark s from h;
        exists = parted-some mark (drop from s);
        piece = first_piece from h;
      })
  piece-lies from (suc k) {e} h p =
      by_cases (ltb (next_of mark s from) (length s))
      (λ t.
      let l : next_of mark s from < length s = ltb-true _ _ t in
      let o = piece-lies (next_of mark s from + 1) k (omega arith) (rw t at p) in
      let c = parted-next mark s from l in
      record {
        ordered = o.ordered;
        inside = o.inside;
        exists = rw c (omega (arith, o.exists));
        piece = rw c o.piece;
      })
      (λ t. let w : None ≡ Some e = rw t at p in let z : ◌≡◌ {A = ℕ} 0 1 = cc in absurd (omega arith))

  pub piece-absent : (from k : ℕ) → from ≤ length s → piece_of mark s from k ≡ None
      → length (parted mark (drop from s)) ≤ k
  unfolding piece_of
  piece-absent from zero h p = let z : ◌≡◌ {A = ℕ} 0 1 = cc in absurd (omega arith)
  piece-absent from (suc k) h p =
      by_cases (ltb (next_of mark s from) (length s))
      (λ t.
      let l : next_of mark s from < length s = ltb-true _ _ t in
      rw (parted-next mark s from l)
      (omega (arith, piece-absent (next_of mark s from + 1) k (omega arith) (rw t at p))))
      (λ t.
      let e : next_of mark s from ≡ length s = omega (arith, ltb-false, next_le mark s from h) in
      rw (parted-last mark s from h e) (omega arith))

  -- what comes after a piece is found from its end on
  pub piece-after : (from k : ℕ) {e : Extent} → piece_of mark s from k ≡ Some e → (j : ℕ)
      → piece_of mark s from (suc k + j) ≡ piece_after mark s e.to j
  unfolding piece_of
  piece-after from zero {e} p j =
      let q : record { from = from; to = next_of mark s from } ≡ e = cc in
      let n : 1 + j ≡ suc j = omega arith in
      rw (← q, n)
  piece-after from (suc k) {e} p j =
      let n : suc (suc k) + j ≡ suc (suc k + j) = omega arith in
      by_cases (ltb (next_of mark s from) (length s))
      (λ t. rw (n, t) (piece-after (next_of mark s from + 1) k (rw t at p) j))
      (λ t. let w : None ≡ Some e = rw t at p in let z : ◌≡◌ {A = ℕ} 0 1 = cc in absurd (omega arith))
