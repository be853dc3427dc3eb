-- The last journal entry of a well-formed image, as undo reads it and takes it back.
use Prim.Native.Nat.{ℕ, zero, suc, ◌+◌, ◌-◌, ◌*◌, ◌≤◌}
use native.Mathlib.Omega.{arith}
use mathlib.Core.Path.{◌≡◌, ◌∙◌}
use mathlib.Core.Bool.{true, false}
use mathlib.Core.List.{List}
use lib.Dec.{eqb}
use borrow.Author.Tests.{eqb-false}
use Rattle.image.specs.Numbers.{number}
use Rattle.image.specs.Fields.{entry_size, issued, journal_offset, journal_count, status_of}
use Rattle.image.specs.Fields.{active}
use Rattle.image.specs.Formed.{well_formed}
use Rattle.image.proofs.WellFormed.{well_formed-formed}
use Rattle.changes.specs.Changes.{latest}

-- a number that is not active
pub other-status : (b : List ℕ) → well_formed b ≡ true → (i : ℕ) → (1 ≤ i) × (i ≤ issued b)
    → eqb (status_of b i) active ≡ false → active ≡ 1 - status_of b i
other-status b w zero n e = absurd (omega (arith, n.0))
other-status b w (suc k) n e =
    omega (arith, ((well_formed-formed b w).records k n.1).status, eqb-false (status_of b (suc k)) active e)

module _ (b : List ℕ) (w : well_formed b ≡ true) (count at n : ℕ) (e : count ≡ journal_count b)
    (some : 1 ≤ journal_count b)
    (a : at ≡ journal_offset b)
    (i : n ≡ number b (at + entry_size * (count - 1))) where
  pub latest-read : n ≡ latest b
  unfolding latest
  latest-read = i ∙ rw (e, a)

  pub latest-issued : (1 ≤ n) × (n ≤ issued b)
  latest-issued =
      let f = (well_formed-formed b w).entries (count - 1) (omega arith) in
      let at_last : n ≡ number b (journal_offset b + entry_size * (count - 1)) = i ∙ rw a in
      (omega (arith, f.some, at_last), omega (arith, f.numbered, at_last))
