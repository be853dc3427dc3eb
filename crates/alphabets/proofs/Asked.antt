-- What a fold, a search and a loop over blocks answer of the bytes of a class.
use Rattle.std.proofs.Common.{◌≡◌, ℕ, ◌+◌, ◌<◌, ◌≤◌, Bool, true, false, cond, ◌&&◌, List, [], ◌∷◌, ◌++◌}
use Rattle.std.proofs.Common.{length, drop, refl, sym, ap, ◌∙◌, arith, length-append, length-drop, drop-drop}
use Prim.Native.Nat.{◌-◌}
use lib.ListN.{take, drop_of_length-le}
use Rattle.std.proofs.Math.Seq.{drop-append_seam}
use Rattle.std.proofs.Common.{Option, MatchOption, HoldsAt, unwrap_or, fold}
use Rattle.std.specs.List.{AllWithin}
use Rattle.std.proofs.lemmas.Iterator.{index_from_first}
use Rattle.stretch.specs.Class.{every, first_outside}
use Rattle.stretch.proofs.Tail.{lent-tail}
use Rattle.stretch.proofs.Outside.{first_outside-past, first_outside-every}

module _ (class : ℕ → Bool) where
  pub fold-every : (all : Bool) (s : List ℕ) → fold (λ a b. a && class b) all s ≡ cond all (every class s) false
  unfolding every
  fold-every true [] = refl
  fold-every false [] = refl
  fold-every true (b ∷ s) = fold-every (class b) s
  fold-every false (b ∷ s) = fold-every false s

  pub first_outside-from_position : (s : List ℕ) (r : Option ℕ)
      → MatchOption r (AllWithin (λ b. class b ≡ true) s 0 (length s))
      (λ i. (i < length s) × HoldsAt (λ b. class b ≡ false) s i × AllWithin (λ b. class b ≡ true) s 0 i)
      → first_outside class s ≡ unwrap_or r (length s)
  unfolding first_outside
  first_outside-from_position =
      index_from_first (first_outside class) (λ b. class b ≡ false) (λ b. class b ≡ true) refl
      (λ x xs e. rw e)
      (λ x xs e. rw e (omega arith))

-- the loop over blocks has come to n, and the next block is of the class
pub record Passed (class : ℕ → Bool) (s rest : List ℕ) (n : ℕ) : Type 0 where
  pub inside : n ≤ length s
  pub left : rest ≡ drop n s
  pub first : first_outside class s ≡ n + first_outside class (drop n s)

pub block-passed : (class : ℕ → Bool) (s block rest left : List ℕ) (n : ℕ) → Passed class s left n
    → left ≡ block ++ rest → every class block ≡ true → Passed class s rest (n + length block)
block-passed class s block rest left n p e h =
    let cut : drop n s ≡ block ++ rest = sym p.left ∙ e in
    let after : drop (n + length block) s ≡ rest
    = sym (drop-drop (length block) n s) ∙ ap (drop (length block)) cut ∙ drop-append_seam block rest in
    let more : first_outside class (drop n s) ≡ length block + first_outside class rest
    = ap (first_outside class) cut ∙ first_outside-past class block rest h in
    record {
      inside = omega (arith, p.inside, ap length cut, length-append block rest, length-drop n s);
      left = sym after;
      first = rw after (omega (arith, p.first, more));
    }

-- all that is left, as the code lends it, is of the class
pub first_outside-rest : (class : ℕ → Bool) (s : List ℕ) (i : ℕ) → i ≤ length s
    → every class (take (length s - i) (drop i s)) ≡ true
    → first_outside class s ≡ i + first_outside class (drop i s)
    → first_outside class s ≡ length s + first_outside class (drop (length s) s)
unfolding first_outside
first_outside-rest class s i h e first =
    first
    ∙ rw (
      first_outside-every class (drop i s) (rw (lent-tail s i) at e),
      length-drop i s,
      drop_of_length-le s {i = length s} (omega arith),
    ) (omega arith)
