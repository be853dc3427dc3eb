-- Trimming keeps the altered sequence, and leaves two allele sequences that share neither an end nor a beginning.
use Prim.Native.Nat.{ℕ, ◌+◌, ◌-◌, ◌≤◌}
use native.Mathlib.Omega.{arith}
use mathlib.Core.Path.{◌≡◌, refl, ◌∙◌, sym, ap}
use mathlib.Core.List.{List, ◌++◌, append_assoc}
use lib.ListN.{length, take, drop, take-append-drop}
use lib.Seq.{take-take, take-add}
use Rattle.stretch.specs.Common.{lcp, lcs}
use Rattle.stretch.specs.Part.{part}
use Rattle.stretch.proofs.Common.{lcp-le-left, lcp-take}
use Rattle.stretch.proofs.Suffix.{lcs-le-left, lcs-drop}
use Rattle.stretch.proofs.Interval.{length_part, drop-start, take_part, drop-part}
use Rattle.stretch.proofs.Shared.{lcp-less, lcs-less, lcs-drop-le}
use Rattle.normal_form.specs.Form.{altered}
use Rattle.normal_form.specs.Steps.{Underway, begun, less_suffix, less_prefix, trimmed}

-- an interval of the reference, with the sequence u there
pub record Lies (r : List ℕ) (s e : ℕ) (u : List ℕ) : Type 0 where
  pub ordered : s ≤ e
  pub inside : e ≤ length r
  pub there : u ≡ part r s e

module _ (r : List ℕ) (s e : ℕ) (u : List ℕ) (h : Lies r s e u) where
  pub length-there : length u ≡ e - s
  length-there = ap length h.there ∙ length_part r s e h.ordered h.inside

  pub lies-suffix : (q : ℕ) → q ≤ length u → Lies r s (e - q) (take (length u - q) u)
  lies-suffix q g =
      let long : length u ≡ e - s = length-there in
      record {
        ordered = omega arith;
        inside = omega arith;
        there = (λ i. take (long i - q) (h.there i)) ∙ take_part r s e h.ordered q (omega arith);
      }

  pub lies-prefix : (p : ℕ) → p ≤ length u → Lies r (s + p) e (drop p u)
  lies-prefix p g =
      let long : length u ≡ e - s = length-there in
      record {
        ordered = omega arith;
        inside = h.inside;
        there = ap (drop p) h.there ∙ drop-part r s e h.ordered p (omega arith) h.inside;
      }

  -- v given for u makes the same altered sequence without what the two share
  module _ (v : List ℕ) where
    pub altered-suffix : altered r s (e - lcs u v) (take (length v - lcs u v) v) ≡ altered r s e v
    unfolding altered
    altered-suffix =
        let q = lcs u v in
        let j = length v - q in
        let long : length u ≡ e - s = length-there in
        let small : q ≤ length u = lcs-le-left u v in
        let k : s + (length u - q) ≡ e - q = omega arith in
        let same : part r (e - q) e ≡ drop j v
        = ap (λ (i : ℕ). part r i e) (sym k) ∙ sym (lies-prefix (length u - q) (omega arith)).there
        ∙ lcs-drop u v q (omega arith) in
        rw (
          drop-start r (e - q) e (omega arith),
          same,
          ← append_assoc (take j v) (drop j v) (drop e r),
          take-append-drop j v,
        )

    pub altered-prefix : altered r (s + lcp u v) e (drop (lcp u v) v) ≡ altered r s e v
    unfolding altered
    altered-prefix =
        let p = lcp u v in
        let long : length u ≡ e - s = length-there in
        let small : p ≤ e - s = omega (arith, lcp-le-left u v) in
        let same : take p (drop s r) ≡ take p v
        = sym (take-take p (e - s) (drop s r) small) ∙ ap (take p) (sym h.there) ∙ lcp-take u v p (omega arith) in
        rw (
          take-add s p r,
          same,
          append_assoc (take s r) (take p v) (drop p v ++ drop e r),
          ← append_assoc (take p v) (drop p v) (drop e r),
          take-append-drop p v,
        )

-- an allele on its way that makes t
pub record Stands (r t : List ℕ) (a : Underway) : Type 0 where
  pub lies : Lies r a.start a.end a.reference
  pub makes : altered r a.start a.end a.alternate ≡ t

module _ (r t : List ℕ) (a : Underway) (h : Stands r t a) where
  pub stands-suffix : Stands r t (less_suffix a)
  unfolding less_suffix
  stands-suffix =
      record {
        lies = lies-suffix r a.start a.end a.reference h.lies (lcs a.reference a.alternate)
            (lcs-le-left a.reference a.alternate);
        makes = altered-suffix r a.start a.end a.reference h.lies a.alternate ∙ h.makes;
      }

  pub stands-prefix : Stands r t (less_prefix a)
  unfolding less_prefix
  stands-prefix =
      record {
        lies = lies-prefix r a.start a.end a.reference h.lies (lcp a.reference a.alternate)
            (lcp-le-left a.reference a.alternate);
        makes = altered-prefix r a.start a.end a.reference h.lies a.alternate ∙ h.makes;
      }

-- what trimming leaves
module _ (r : List ℕ) (start end : ℕ) (x : List ℕ) where
  pub stands-begun : start ≤ end → end ≤ length r → Stands r (altered r start end x) (begun r start end x)
  unfolding begun
  stands-begun h g = record { lies = record { ordered = h; inside = g; there = refl }; makes = refl }

  pub stands-trimmed : start ≤ end → end ≤ length r → Stands r (altered r start end x) (trimmed r start end x)
  unfolding trimmed
  stands-trimmed h g =
      let t = altered r start end x in
      let a = begun r start end x in
      stands-prefix r t (less_suffix a) (stands-suffix r t a (stands-begun h g))

  pub lcp-trimmed : lcp (trimmed r start end x).reference (trimmed r start end x).alternate ≡ 0
  unfolding trimmed less_prefix
  lcp-trimmed = lcp-less (less_suffix (begun r start end x)).reference (less_suffix (begun r start end x)).alternate

  pub lcs-trimmed : lcs (trimmed r start end x).reference (trimmed r start end x).alternate ≡ 0
  unfolding trimmed less_prefix less_suffix
  lcs-trimmed =
      let a = begun r start end x in
      let u = (less_suffix a).reference in
      let v = (less_suffix a).alternate in
      let none : lcs u v ≡ 0 = lcs-less a.reference a.alternate in
      let less : lcs (trimmed r start end x).reference (trimmed r start end x).alternate ≤ lcs u v =
      lcs-drop-le u v (lcp u v) in
      omega arith
