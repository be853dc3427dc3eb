-- Where the replacement, and the reference at its spot, are of one class of bytes, the normal replacement is too: a
-- roll only passes what it carries.
use Prim.Native.Nat.{ℕ, ◌+◌, ◌-◌, ◌<◌, ◌≤◌}
use native.Mathlib.Nat.{add-sub_cancel_left}
use native.Mathlib.Omega.{arith}
use mathlib.Core.Path.{◌≡◌, refl, ◌∙◌, ap}
use mathlib.Core.Bool.{Bool, true}
use mathlib.Core.List.{List, [], ◌∷◌, ◌++◌, reverse, reverse-reverse}
use lib.Dec.{eqb}
use lib.ListN.{length, take, drop}
use lib.Seq.{length-take-le}
use borrow.Author.Tests.{eqb-true}
use Rattle.stretch.specs.Class.{every}
use Rattle.stretch.specs.Part.{part}
use Rattle.stretch.proofs.Cases.{by_cases}
use Rattle.stretch.proofs.Every.{every-head, every-tail, every-join, every_take, every_drop, every-reverse}
use Rattle.stretch.proofs.Suffix.{take-reverse, lcs-le-left}
use Rattle.normal_form.specs.Form.{normal}
use Rattle.normal_form.specs.Steps.{Justified, rolled, roll_left, roll_right, extended, rolled_out, settled}
use Rattle.normal_form.specs.Steps.{Underway, begun, common_suffix, less_suffix, common_prefix, less_prefix, trimmed}
use Rattle.normal_form.specs.Steps.{justified}
use Rattle.normal_form.proofs.Join.{drop-front}
use Rattle.normal_form.proofs.Rolled.{roll_left-lcs}
use Rattle.normal_form.proofs.Steps.{justified-normal}
use Rattle.normal_form.proofs.Trimmed.{stands-trimmed}

module _ (p : ℕ → Bool) where
  rolled-every : (beside sequence : List ℕ) → every p sequence ≡ true
      → every p (take (rolled beside sequence) beside) ≡ true
  unfolding rolled every
  rolled-every [] sequence h = refl
  rolled-every (d ∷ beside) [] h = refl
  rolled-every (d ∷ beside) (c ∷ sequence) h =
      let first : p c ≡ true = every-head p c sequence h in
      let on : every p (sequence ++ (c ∷ [])) ≡ true =
      every-join p sequence (c ∷ []) (every-tail p c sequence h) (rw first refl) in
      by_cases (eqb c d)
      (λ e. rw (e, ← eqb-true c d e, first) (rolled-every beside (sequence ++ (c ∷ [])) on))
      (λ e. rw e)

  module _ (r : List ℕ) (s e : ℕ) (h : s ≤ e) (g : e ≤ length r) where
    right-every : (sequence : List ℕ) → every p sequence ≡ true
        → every p (part r e (e + roll_right r e sequence)) ≡ true
    unfolding roll_right
    right-every sequence q =
        rw (add-sub_cancel_left e (rolled (drop e r) sequence)) (rolled-every (drop e r) sequence q)

    left-carried : (sequence : List ℕ) → every p sequence ≡ true
        → every p (take (roll_left r s sequence) (reverse (take s r))) ≡ true
    unfolding roll_left
    left-carried sequence q = rolled-every (reverse (take s r)) (reverse sequence) (every-reverse p sequence q)

    left-every : (sequence : List ℕ) → 0 < length sequence → every p sequence ≡ true
        → every p (part r (s - roll_left r s sequence) s) ≡ true
    left-every sequence some q =
        let k = roll_left r s sequence in
        let front = take s r in
        let long : length front ≡ s = length-take-le s r (omega arith) in
        let fits : k ≤ s = omega (arith, roll_left-lcs r s sequence some, lcs-le-left front (front ++ sequence)) in
        let back : take k (reverse front) ≡ reverse (part r (s - k) s) =
        take-reverse front (s - k) k (omega arith)
        ∙ ap (λ (l : List ℕ). reverse l) (drop-front r (s - k) s (omega arith) (omega arith)) in
        let carried : every p (take k (reverse front)) ≡ true = left-carried sequence q in
        rw (back, reverse-reverse) at (every-reverse p (take k (reverse front)) carried)

    rolled_out-every : (sequence alternate : List ℕ) → 0 < length sequence → every p sequence ≡ true
        → every p alternate ≡ true → every p (rolled_out r s e sequence alternate).replacement ≡ true
    unfolding rolled_out extended
    rolled_out-every sequence alternate some q w =
        every-join p _ _ (left-every sequence some q) (every-join p alternate _ w (right-every sequence q))

    settled-every : (given : Justified) (u v : List ℕ) → every p given.replacement ≡ true → every p u ≡ true
        → every p v ≡ true → every p (settled r given s e u v).replacement ≡ true
    unfolding settled
    settled-every given [] [] k i j = k
    settled-every given (c ∷ u) (d ∷ v) k i j = j
    settled-every given [] (d ∷ v) k i j = rolled_out-every (d ∷ v) (d ∷ v) (omega arith) j j
    settled-every given (c ∷ u) [] k i j = rolled_out-every (c ∷ u) [] (omega arith) i j

  trimmed-reference : (a : Underway) → every p a.reference ≡ true
      → every p (less_prefix (less_suffix a)).reference ≡ true
  unfolding less_prefix less_suffix
  trimmed-reference a h =
      every_drop p (common_prefix (less_suffix a)) (less_suffix a).reference
      (every_take p (length a.reference - common_suffix a) a.reference h)

  trimmed-alternate : (a : Underway) → every p a.alternate ≡ true
      → every p (less_prefix (less_suffix a)).alternate ≡ true
  unfolding less_prefix less_suffix
  trimmed-alternate a h =
      every_drop p (common_prefix (less_suffix a)) (less_suffix a).alternate
      (every_take p (length a.alternate - common_suffix a) a.alternate h)

  pub normal-every : (r : List ℕ) (start end : ℕ) (x : List ℕ) → start ≤ end → end ≤ length r
      → every p (part r start end) ≡ true → every p x ≡ true → every p (normal r start end x).replacement ≡ true
  unfolding justified trimmed begun
  normal-every r start end x h g u q =
      let a = trimmed r start end x in
      let w = (stands-trimmed r start end x h g).lies in
      rw (← ap (λ (j : Justified). j.replacement) (justified-normal r start end x h g))
      (settled-every r a.start a.end w.ordered w.inside
      (record { start = start; end = end; replacement = x }) a.reference a.alternate q
      (trimmed-reference (begun r start end x) u)
      (trimmed-alternate (begun r start end x) q))
