-- Three stretches as one text: its length, and its first foreign byte.
use Prim.Native.Nat.{ℕ, ◌+◌, ◌-◌, ◌<◌, ◌≤◌}
use native.Mathlib.Omega.{arith}
use mathlib.Core.Path.{◌≡◌, ◌∙◌, sym, ap}
use mathlib.Core.List.{List, ◌++◌}
use lib.ListN.{length}
use Rattle.stretch.proofs.Interval.{length_part}
use Rattle.stretch.proofs.Join.{length_three}
use Rattle.alphabets.specs.Alphabets.{residue, foreign}
use Rattle.stretch.proofs.Outside.{first_outside-past, first_outside-within}
use Rattle.alphabets.proofs.Foreign.{foreign-le, foreign-none}
use Rattle.normal_form.specs.declared.Stretches.{Stretches}
use Rattle.normal_form.specs.Stretches.{Fits, reference_before, replacement_kept, reference_after, joined}
use Rattle.normal_form.specs.Stretches.{joined_length}

-- the three as they are lent, one text
pub pieces-joined : (r x : List ℕ) (w : Stretches) {a b c : List ℕ}
    → a ≡ reference_before r w → b ≡ replacement_kept x w → c ≡ reference_after r w → a ++ (b ++ c) ≡ joined r x w
unfolding joined
pieces-joined r x w first second third = rw (first, second, third)

-- which is as long as the code sums it up
module _ (r x : List ℕ) (w : Stretches) (f : Fits r x w) where
  three-long : length (reference_before r w) + (length (replacement_kept x w) + length (reference_after r w))
      ≡ joined_length w
  three-long =
      let one : length (reference_before r w) ≡ w.given.start - w.left
      = length_part r w.left w.given.start f.before (omega (arith, f.allele.ordered, f.allele.inside)) in
      let two : length (replacement_kept x w) ≡ w.to - w.from
      = length_part x w.from w.to f.ordered f.kept in
      let three : length (reference_after r w) ≡ w.right - w.given.end
      = length_part r w.given.end w.right f.after f.inside in
      rw (one, two, three) (omega arith)

  pub length-joined : joined_length w ≡ length (joined r x w)
  unfolding joined
  length-joined =
      sym (length_three (reference_before r w) (replacement_kept x w) (reference_after r w) _ (sym three-long))

module _ (a b c : List ℕ) where
  pub foreign-first : foreign a < length a → foreign a ≡ foreign (a ++ (b ++ c))
  foreign-first h = sym (first_outside-within residue a (b ++ c) h)

  foreign-through : (s t : List ℕ) → length s ≤ foreign s → foreign s + foreign t ≡ foreign (s ++ t)
  foreign-through s t h =
      let e : foreign s ≡ length s = omega (arith, foreign-le s) in
      sym (first_outside-past residue s t (foreign-none s e) ∙ ap (λ (k : ℕ). k + foreign t) (sym e))

  pub foreign-second : length a ≤ foreign a → foreign b < length b → foreign a + foreign b ≡ foreign (a ++ (b ++ c))
  foreign-second h g = ap (λ (k : ℕ). foreign a + k) (sym (first_outside-within residue b c g))
      ∙ foreign-through a (b ++ c) h

  pub foreign-third : length a ≤ foreign a → length b ≤ foreign b
      → foreign a + foreign b + foreign c ≡ foreign (a ++ (b ++ c))
  foreign-third h g =
      let e : foreign b + foreign c ≡ foreign (b ++ c) = foreign-through b c g in
      let d : foreign a + foreign (b ++ c) ≡ foreign (a ++ (b ++ c)) = foreign-through a (b ++ c) h in
      omega arith
