-- The residues of the pool: the records' parts of it lie one after the other, so all are tested in one pass.
use Prim.Native.Nat.{ℕ, zero, suc, ◌+◌, ◌<◌}
use native.Mathlib.Nat.{add-sub_cancel_left}
use native.Mathlib.Numerals.{add-one}
use native.Mathlib.Omega.{arith}
use mathlib.Core.Path.{◌≡◌, refl, ◌∙◌, ap}
use mathlib.Core.Bool.{Bool, true, false, cond}
use mathlib.Core.List.{List, [], ◌∷◌, ◌++◌}
use borrow.Author.Tests.{eqb-true}
use lib.Dec.{leb, eqb}
use lib.ListN.{drop}
use lib.Seq.{take-add, drop-drop}
use Rattle.stretch.specs.Below.{below}
use Rattle.stretch.specs.Part.{part}
use Rattle.stretch.proofs.Below.{below_at, below-first, below_fails}
use Rattle.stretch.specs.Class.{every}
use Rattle.alphabets.specs.Alphabets.{residue}
use Rattle.stretch.proofs.Class.{every_append}
use Rattle.image.specs.Fields.{issued, pool_used}
use Rattle.image.specs.Fields.{active, pool_offset, reference_length, start_of, end_of, offset_of}
use Rattle.image.specs.Fields.{length_of, status_of, replacement_of}
use Rattle.image.specs.Formed.{all, lengths, record_good}
use Rattle.image.proofs.Tests.{all_append, all_one, cond_both, cond-last}

-- the tests of the record after the first k, but for its residues
abbrev placed_tests : List ℕ → ℕ → List Bool
placed_tests b k =
    leb (start_of b (suc k)) (end_of b (suc k))
    ∷ leb (end_of b (suc k)) (reference_length b)
    ∷ leb (status_of b (suc k)) active
    ∷ eqb (offset_of b (suc k)) (lengths b k)
    ∷ []

unfoldable pub placed : List ℕ → ℕ → Bool
placed b k = all (placed_tests b k)

good_placed : (b : List ℕ) (k : ℕ)
    → record_good b k ≡ cond (placed b k) (every residue (replacement_of b (suc k))) false
unfolding record_good placed
good_placed b k =
    let residues = every residue (replacement_of b (suc k)) in
    all_append (placed_tests b k) (residues ∷ [])
    ∙ ap (λ (t : Bool). cond (all (placed_tests b k)) t false) (all_one residues)

offset : (b : List ℕ) (k : ℕ) → placed b k ≡ true → offset_of b (suc k) ≡ lengths b k
unfolding placed
offset b k h =
    let order = cond_both (leb (start_of b (suc k)) (end_of b (suc k))) _ h in
    let within = cond_both (leb (end_of b (suc k)) (reference_length b)) _ order.1 in
    let status = cond_both (leb (status_of b (suc k)) active) _ within.1 in
    eqb-true _ _ (cond-last _ status.1)

part_join : (b : List ℕ) (at m n : ℕ) → part b at (at + (m + n)) ≡ part b at (at + m) ++ part b (at + m) (at + m + n)
part_join b at m n =
    rw (
      add-sub_cancel_left at (m + n),
      add-sub_cancel_left at m,
      add-sub_cancel_left (at + m) n,
      take-add m n (drop at b),
      drop-drop m at b,
    )

cond-swap : (p q : Bool) → cond p q false ≡ cond q p false
cond-swap true true = refl
cond-swap true false = refl
cond-swap false true = refl
cond-swap false false = refl

-- the pool's residues after the first n records
good-pool : (b : List ℕ) (n : ℕ) → below (placed b) n ≡ true
    → below (record_good b) n ≡ every residue (part b (pool_offset b) (pool_offset b + lengths b n))
unfolding below lengths replacement_of every
good-pool b zero h = rw (add-sub_cancel_left (pool_offset b) 0)
good-pool b (suc n) h =
    let here : placed b n ≡ true = below_at (placed b) (suc n) h n (omega arith) in
    let at = pool_offset b + lengths b n in
    rw (good_placed b n, here, offset b n here, good-pool b n (below-first (placed b) n h))
    (rw (part_join b (pool_offset b) (lengths b n) (length_of b (suc n)), every_append)
    (cond-swap (every residue (part b at (at + length_of b (suc n)))) (every residue (part b (pool_offset b) at))))

-- the loop over the records: one as the code tests it, one more, one that is not placed, and the end
pub placed_at : (b : List ℕ) (k reference before : ℕ) → reference ≡ reference_length b → before ≡ lengths b k
    → all (leb (start_of b (k + 1)) (end_of b (k + 1))
    ∷ leb (end_of b (k + 1)) reference
    ∷ leb (status_of b (k + 1)) active
    ∷ eqb (offset_of b (k + 1)) before
    ∷ [])
    ≡ placed b k
unfolding placed
placed_at b k reference before q r = rw (q, r, add-one k)

pub lengths-next : (b : List ℕ) (k before : ℕ) → before ≡ lengths b k → before + length_of b (k + 1) ≡ lengths b (k + 1)
unfolding lengths
lengths-next b k before q = rw (q, add-one k)

module _ (b : List ℕ) where
  pub records-bad : (k : ℕ) → k < issued b → placed b k ≡ false
      → cond (below (record_good b) (issued b)) (eqb (lengths b (issued b)) (pool_used b)) false ≡ false
  records-bad k l e = rw (below_fails (record_good b) (issued b) k l (good_placed b k ∙ rw e))

  pub records-end : (residues : ℕ) → residues ≡ lengths b (issued b) → below (placed b) (issued b) ≡ true
      → cond (eqb residues (pool_used b)) (every residue (part b (pool_offset b) (pool_offset b + residues))) false
      ≡ cond (below (record_good b) (issued b)) (eqb (lengths b (issued b)) (pool_used b)) false
  records-end residues e h =
      rw (e, ← good-pool b (issued b) h)
      (cond-swap (eqb (lengths b (issued b)) (pool_used b)) (below (record_good b) (issued b)))
