-- The records of a well-formed image share its pool: each replacement after the one before, all of them within the used
-- part.
use Prim.Native.Nat.{ℕ, zero, suc, ◌+◌, ◌<◌, ◌≤◌}
use native.Mathlib.Nat.{le_refl, le_of_suc-le-suc, not-suc-le-zero, eq-or-lt_of_le}
use native.Mathlib.Omega.{arith}
use mathlib.Core.Logic.{⊎_elim}
use mathlib.Core.Path.{◌≡◌, refl, ◌∙◌, subst}
use mathlib.Core.List.{List}
use lib.ListN.{length}
use Rattle.stretch.proofs.Interval.{length_part}
use Rattle.image.specs.Fields.{issued, pool_offset, pool_used, offset_of, length_of, replacement_of}
use Rattle.image.specs.Formed.{lengths}
use Rattle.image.proofs.WellFormed.{Formed}

pub lengths-grow : (b : List ℕ) (k n : ℕ) → k ≤ n → lengths b k ≤ lengths b n
unfolding lengths
lengths-grow b zero n h = omega arith
lengths-grow b (suc k) zero h = absurd (not-suc-le-zero h)
lengths-grow b (suc k) (suc n) h =
    ⊎_elim
    (λ e. subst (λ (m : ℕ). lengths b (suc k) ≤ lengths b m) e (le_refl (lengths b (suc k))))
    (λ l. omega (arith, lengths-grow b (suc k) n (le_of_suc-le-suc l)))
    (eq-or-lt_of_le h)

-- images with the same lengths
pub lengths-same : (b c : List ℕ) (n : ℕ) → ((k : ℕ) → k < n → length_of c (suc k) ≡ length_of b (suc k))
    → lengths c n ≡ lengths b n
unfolding lengths
lengths-same b c zero same = refl
lengths-same b c (suc n) same = rw (lengths-same b c n (λ k l. same k (omega arith)), same n (omega arith))

module _ (b : List ℕ) (f : Formed b) where
  pub formed-inside : (i : ℕ) → 1 ≤ i → i ≤ issued b → offset_of b i + length_of b i ≤ pool_used b
  unfolding lengths
  formed-inside zero h g = absurd (not-suc-le-zero h)
  formed-inside (suc k) h g = omega (arith, (f.records k g).offset, lengths-grow b (suc k) (issued b) g, f.used)

  pub formed-length : (i : ℕ) → 1 ≤ i → i ≤ issued b → length (replacement_of b i) ≡ length_of b i
  unfolding replacement_of
  formed-length i h g =
      let from = pool_offset b + offset_of b i in
      let room : from + length_of b i ≤ length b =
      omega (arith, formed-inside i h g, f.header.used, f.header.whole) in
      length_part b from (from + length_of b i) (omega arith) room ∙ omega arith
