-- Whether a record holds a form: its numbers first, then its replacement, which lies within the image.
use Prim.Native.Nat.{ℕ, ◌+◌, ◌≤◌}
use native.Mathlib.Omega.{arith}
use mathlib.Core.Path.{◌≡◌, ◌∙◌, sym}
use mathlib.Core.Bool.{Bool, true, false, cond}
use mathlib.Core.List.{List, [], ◌∷◌}
use lib.Dec.{eqb}
use lib.ListN.{length}
use Rattle.stretch.specs.Same.{same}
use Rattle.stretch.proofs.Same.{same-lengths}
use Rattle.normal_form.specs.Form.{Normal}
use Rattle.image.specs.Fields.{issued, pool_offset, start_of, end_of, offset_of, length_of, status_of, replacement_of}
use Rattle.image.specs.Formed.{all, well_formed}
use Rattle.image.proofs.Tests.{all_append, all_one}
use Rattle.image.proofs.WellFormed.{well_formed-formed}
use Rattle.image.proofs.Lengths.{formed-inside, formed-length}
use Rattle.lookup.specs.Lookup.{holds}

abbrev pub number_tests : List ℕ → ℕ → Normal → ℕ → List Bool
number_tests b status f i = eqb (status_of b i) status ∷ eqb (start_of b i) f.start ∷ eqb (end_of b i) f.end ∷ []

pub holds-steps : (b : List ℕ) (status : ℕ) (f : Normal) (i : ℕ)
    → holds b status f i ≡ cond (all (number_tests b status f i)) (same (replacement_of b i) f.replacement) false
unfolding holds
holds-steps b status f i =
    let replaced = same (replacement_of b i) f.replacement in
    all_append (number_tests b status f i) (replaced ∷ []) ∙ rw (all_one replaced)

module _ (b : List ℕ) (h : well_formed b ≡ true) (i : ℕ) (numbered : (1 ≤ i) × (i ≤ issued b)) where
  pub replacement-inside : pool_offset b + offset_of b i + length_of b i ≤ length b
  replacement-inside =
      let f = well_formed-formed b h in
      omega (arith, formed-inside b f i numbered.0 numbered.1, f.header.used, f.header.whole)

  -- a stretch of another length is not the replacement
  pub replacement-apart : (s : List ℕ) → (length_of b i ≡ length s → ⊥) → same (replacement_of b i) s ≡ false
  replacement-apart s apart =
      same-lengths (replacement_of b i) s
      (λ e. apart (sym (formed-length b (well_formed-formed b h) i numbered.0 numbered.1) ∙ e))
