-- The form of a changed allele by how far the common lengths reach: they stop at its interval, or go past it.
use Prim.Native.Nat.{ℕ, ◌+◌, ◌-◌, ◌≤◌}
use native.Mathlib.Omega.{arith}
use mathlib.Core.Path.{◌≡◌, ◌∙◌, sym, ap}
use mathlib.Core.List.{List, ◌++◌, append_assoc, append-nil}
use lib.ListN.{length, take, drop, length-append}
use lib.Seq.{length-take-le, take_at, drop_at}
use Rattle.stretch.specs.Common.{lcp, lcs}
use Rattle.stretch.specs.Part.{part}
use Rattle.stretch.proofs.Interval.{length_part, drop-start, take-end}
use Rattle.normal_form.specs.Form.{altered, shorter, ahead, behind, changed_form}
use Rattle.normal_form.specs.Steps.{extended, placed}
use Rattle.normal_form.proofs.Flanks.{length-altered}
use Rattle.normal_form.proofs.Laws.{lcp-le-shorter, lcs-le-shorter, ahead_apart, behind-apart, ahead-meet}
use Rattle.normal_form.proofs.Laws.{behind-meet}

-- an interval of the reference, and what is given for it
module _ (r : List ℕ) (s e : ℕ) (v : List ℕ) (order : s ≤ e) (inside : e ≤ length r) where
  -- the altered sequence between i before start and j after end
  pub altered-spread : (i j : ℕ) → i ≤ s
      → altered r s e v ≡ take (s - i) r ++ (part r (s - i) s ++ (v ++ part r e (e + j)) ++ drop (e + j) r)
  unfolding altered
  altered-spread i j h =
      let front : take s r ≡ take (s - i) r ++ part r (s - i) s = take-end r (s - i) s (omega arith) in
      let back : drop e r ≡ part r e (e + j) ++ drop (e + j) r = drop-start r e (e + j) (omega arith) in
      (λ k. front k ++ (v ++ back k)) ∙ simp append_assoc

  pub altered-part : (i j : ℕ) → i ≤ s → e + j ≤ length r
      → part (altered r s e v) (s - i) (length (altered r s e v) - (length r - e - j)) ≡ part r (s - i) s
      ++ (v ++ part r e (e + j))
  altered-part i j h g =
      let m = part r (s - i) s ++ (v ++ part r e (e + j)) in
      let front : length (take (s - i) r) ≡ s - i = length-take-le (s - i) r (omega arith) in
      let left : length (part r (s - i) s) ≡ i = length_part r (s - i) s (omega arith) (omega arith) ∙ omega arith in
      let right : length (part r e (e + j)) ≡ j = length_part r e (e + j) (omega arith) g ∙ omega arith in
      let all : length (altered r s e v) ≡ s + length v + (length r - e) = length-altered r s e v order inside in
      let long : length m ≡ length (altered r s e v) - (length r - e - j) - (s - i)
      = length-append (part r (s - i) s) (v ++ part r e (e + j))
      ∙ rw (length-append v (part r e (e + j)), left, right, all) (omega arith) in
      ap (λ (l : List ℕ). take (length (altered r s e v) - (length r - e - j) - (s - i)) (drop (s - i) l))
      (altered-spread i j h)
      ∙ rw (drop_at (take (s - i) r) (m ++ drop (e + j) r) (s - i) front)
      (take_at m (drop (e + j) r) (length (altered r s e v) - (length r - e - j) - (s - i)) long)

  pub extended_none : extended r s e v 0 0 ≡ record { start = s; end = e; replacement = v }
  unfolding extended
  extended_none =
      let left : s - (s - 0) ≡ 0 = omega arith in
      let right : e + 0 - e ≡ 0 = omega arith in
      let whole : part r (s - 0) s ++ (v ++ part r e (e + 0)) ≡ v = rw (left, right, append-nil v) in
      let low : s - 0 ≡ s = omega arith in
      let high : e + 0 ≡ e = omega arith in
      λ k. record { start = low k; end = high k; replacement = whole k }

  -- the form that begins i before start and ends j after end
  pub extended-form : (i j : ℕ) → i ≤ s → e + j ≤ length r
      → ahead r (altered r s e v) ≡ s - i → behind r (altered r s e v) ≡ length r - e - j
      → extended r s e v i j ≡ placed (changed_form r (altered r s e v))
  unfolding extended changed_form
  extended-form i j h g a b =
      let end : e + j ≡ length r - behind r (altered r s e v) = omega arith in
      let middle : part r (s - i) s
      ++ (v ++ part r e (e + j))
      ≡ part (altered r s e v) (ahead r (altered r s e v)) (length (altered r s e v) - behind r (altered r s e v))
      = sym (altered-part i j h g) ∙ rw (a, b) in
      λ k. record { start = sym a k; end = end k; replacement = middle k }

  -- the common lengths stop at the interval and leave something between them
  pub form-apart : lcp r (altered r s e v) ≡ s → lcs r (altered r s e v) ≡ length r - e
      → s + (length r - e) ≤ shorter r (altered r s e v)
      → record { start = s; end = e; replacement = v } ≡ placed (changed_form r (altered r s e v))
  form-apart p q k =
      let t = altered r s e v in
      let a : ahead r t ≡ s - 0 = ahead_apart r t (omega arith) ∙ omega arith in
      let b : behind r t ≡ length r - e - 0 = behind-apart r t (omega arith) ∙ omega arith in
      sym extended_none ∙ extended-form 0 0 (omega arith) (omega arith) a b

  -- or go i and j past it, where the shorter sequence is what lies on the two sides of the interval
  pub form-meet : (i j : ℕ) → lcp r (altered r s e v) ≡ s + j → lcs r (altered r s e v) ≡ length r - e + i
      → shorter r (altered r s e v) ≡ s + (length r - e)
      → extended r s e v i j ≡ placed (changed_form r (altered r s e v))
  form-meet i j p q k =
      let t = altered r s e v in
      let left : i ≤ s = omega (arith, lcs-le-shorter r t) in
      let right : e + j ≤ length r = omega (arith, lcp-le-shorter r t) in
      let a : ahead r t ≡ s - i = ahead-meet r t (omega arith) ∙ omega arith in
      let b : behind r t ≡ length r - e - j = behind-meet r t (omega arith) ∙ omega arith in
      extended-form i j left right a b
