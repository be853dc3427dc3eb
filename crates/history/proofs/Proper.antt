-- Records that are the normal forms of changed alleles: found by value exactly where found by their altered sequences.
use Prim.Native.Nat.{ℕ}
use mathlib.Core.Path.{◌≡◌, ◌∙◌, sym, ap, subst}
use mathlib.Core.Bool.{true, false}
use mathlib.Core.List.{List}
use borrow.Author.Tests.{eq-eqb, eqb-true}
use Rattle.stretch.specs.Same.{same}
use Rattle.stretch.proofs.Same.{same_refl, same-eq}
use Rattle.normal_form.specs.Form.{Normal, altered, changed_form, normal}
use Rattle.normal_form.proofs.Laws.{altered-normal, normal-changed}
use Rattle.image.specs.Fields.{start_of, end_of, status_of, replacement_of}
use Rattle.image.proofs.Tests.{cond_both, cond-last}
use Rattle.lookup.specs.Lookup.{holds}
use Rattle.history.specs.Demand.{sequence_of}

-- record i has a form's start, end and replacement
pub record Has (b : List ℕ) (i : ℕ) (f : Normal) : Type 0 where
  pub start : start_of b i ≡ f.start
  pub end : end_of b i ≡ f.end
  pub replacement : replacement_of b i ≡ f.replacement

-- it is the form of its own altered sequence, which is not the reference
pub record Proper (r b : List ℕ) (i : ℕ) : Type 0 where
  pub changed : same r (sequence_of r b i) ≡ false
  pub form : Has b i (changed_form r (sequence_of r b i))

module _ (b : List ℕ) (status : ℕ) (f : Normal) (i : ℕ) where
  pub holds-told : holds b status f i ≡ true → (status_of b i ≡ status) × Has b i f
  unfolding holds
  holds-told h =
      let status-is = cond_both _ _ h in
      let start = cond_both _ _ status-is.1 in
      let end = cond_both _ _ start.1 in
      let has : Has b i f
      = record {
        start = eqb-true _ _ start.0;
        end = eqb-true _ _ end.0;
        replacement = same-eq _ _ (cond-last _ end.1);
      } in
      (eqb-true _ _ status-is.0, has)

  pub holds-met : status_of b i ≡ status → Has b i f → holds b status f i ≡ true
  unfolding holds
  holds-met e p =
      rw (eq-eqb _ _ e, eq-eqb _ _ p.start, eq-eqb _ _ p.end, p.replacement, same_refl f.replacement)

module _ (r b : List ℕ) (i start end : ℕ) (x : List ℕ) where
  -- a record with an allele's normal form stands for the allele's altered sequence
  pub has-stands : Has b i (normal r start end x) → sequence_of r b i ≡ altered r start end x
  has-stands p = (λ k. altered r (p.start k) (p.end k) (p.replacement k)) ∙ altered-normal r start end x

  -- and is proper where the allele is changed
  pub has-proper : same r (altered r start end x) ≡ false → Has b i (normal r start end x) → Proper r b i
  has-proper h p =
      let e = has-stands p in
      let f : normal r start end x ≡ changed_form r (sequence_of r b i)
      = normal-changed r start end x h ∙ ap (changed_form r) (sym e) in
      record { changed = rw e h; form = subst (Has b i) f p }

  -- a proper record that stands for the altered sequence has the normal form
  pub proper-has : same r (altered r start end x) ≡ false → Proper r b i → sequence_of r b i ≡ altered r start end x
      → Has b i (normal r start end x)
  proper-has h p e = rw (normal-changed r start end x h, ← e) p.form
