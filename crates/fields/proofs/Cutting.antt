-- Where a text is cut: the next mark from a place on, found byte by byte, and the pieces there.
use Prim.Native.Nat.{ℕ, suc, ◌+◌, ◌<◌, ◌≤◌}
use native.Mathlib.Nat.{le_of_suc-le-suc, not-suc-le-zero, add-zero, add-sub_cancel_left, add-suc}
use native.Mathlib.Numerals.{add-one}
use native.Mathlib.Omega.{arith}
use mathlib.Core.Path.{◌≡◌, refl, ◌∙◌}
use mathlib.Core.List.{List, [], ◌∷◌}
use lib.Dec.{eqb}
use lib.ListN.{length, get_or, take, drop, length-drop, drop_of_length-le}
use lib.Seq.{drop-cons, drop-drop}
use borrow.Author.Tests.{eq-eqb, ne_eqb}
use Rattle.stretch.specs.Part.{part}
use Rattle.stretch.proofs.Cases.{by_cases}
use Rattle.stretch.specs.Class.{first_outside}
use Rattle.stretch.proofs.Outside.{first_outside-le}
use Rattle.fields.specs.Cut.{parted, other, first_of, next_of}

module _ (mark : ℕ) (s : List ℕ) where
  -- a loop that has come to i: it goes on, it stops there, it is at the end
  pub next-on : (i : ℕ) → i < length s → (get_or s i 0 ≡ mark → ⊥) → next_of mark s i ≡ next_of mark s (i + 1)
  unfolding first_outside
  next-on i l f = rw (drop-cons s i 0 l, ne_eqb _ _ f, add-one) (omega arith)

  pub next_here : (i : ℕ) → i < length s → get_or s i 0 ≡ mark → next_of mark s i ≡ i
  unfolding first_outside
  next_here i l e = rw (drop-cons s i 0 l, eq-eqb _ _ e) (add-zero i)

  pub next-end : (i : ℕ) → length s ≤ i → next_of mark s i ≡ i
  unfolding first_outside
  next-end i l = rw (drop_of_length-le s {i = i} l) (add-zero i)

  pub next_le : (i : ℕ) → i ≤ length s → next_of mark s i ≤ length s
  next_le i l = omega (arith, first_outside-le (other mark) (drop i s), length-drop i s)

-- a first piece and the rest, or one piece
pub parted-cut : (mark : ℕ) (s : List ℕ) → first_of mark s < length s
    → parted mark s ≡ take (first_of mark s) s ∷ parted mark (drop (suc (first_of mark s)) s)
unfolding parted first_outside
parted-cut mark [] l = absurd (not-suc-le-zero l)
parted-cut mark (c ∷ s) l =
    by_cases (eqb c mark)
    (λ e. rw e)
    (λ e. let g : first_of mark s < length s = le_of_suc-le-suc (rw e at l) in rw (e, parted-cut mark s g))

pub parted-one : (mark : ℕ) (s : List ℕ) → first_of mark s ≡ length s → parted mark s ≡ s ∷ []
unfolding parted first_outside
parted-one mark [] l = refl
parted-one mark (c ∷ s) l =
    by_cases (eqb c mark)
    (λ e. let z : 0 ≡ suc (length s) = rw e at l in absurd (omega arith))
    (λ e. let g : suc (first_of mark s) ≡ suc (length s) = rw e at l in rw (e, parted-one mark s (omega arith)))

-- the same of what stands from a place on
module _ (mark : ℕ) (s : List ℕ) (i : ℕ) where
  pub parted-next : next_of mark s i < length s
      → parted mark (drop i s) ≡ part s i (next_of mark s i) ∷ parted mark (drop (next_of mark s i + 1) s)
  parted-next l =
      parted-cut mark (drop i s) (omega (arith, length-drop i s))
      ∙ rw (add-sub_cancel_left i (first_of mark (drop i s)), drop-drop, add-one, add-suc)

  pub parted-last : i ≤ length s → next_of mark s i ≡ length s → parted mark (drop i s) ≡ drop i s ∷ []
  parted-last h e = parted-one mark (drop i s) (omega (arith, length-drop i s))
