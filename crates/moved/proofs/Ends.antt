-- The given interval, the normal one and the four numbers: two of them tell the third.
use Prim.Native.Nat.{ℕ, ◌-◌, ◌≤◌}
use native.Mathlib.Omega.{arith}
use mathlib.Core.Path.{◌≡◌, ap}
use mathlib.Core.Bool.{true}
use mathlib.Core.Logic.{inl, inr, ⊎_elim}
use mathlib.Core.List.{List}
use lib.Dec.{leb}
use borrow.Author.Tests.{leb-true, leb-false}
use Rattle.stretch.specs.Same.{same}
use Rattle.stretch.proofs.Cases.{by_cases}
use Rattle.normal_form.specs.declared.Interval.{Interval}
use Rattle.normal_form.specs.Form.{Allele, Normal, altered, normal}
use Rattle.normal_form.specs.Stretches.{stretches_of, as_given, changed_stretches, spread}
use Rattle.normal_form.proofs.Join.{stretches-join}
use Rattle.normal_form.proofs.Laws.{normal-normal}
use Rattle.moved.specs.declared.Side.{Side}
use Rattle.moved.specs.declared.Moved.{Moved}
use Rattle.moved.specs.Moved.{side, moved, interval, interval_of, moved_by, moved_in, still, Apart, Moves}

-- two ends tell the side
side-apart : (a b : ℕ) → Apart a b (side a b)
side-apart a b =
    by_cases (leb a b)
    (λ e. let l : a ≤ b = leb-true a b e in record { told = omega arith; one = inl (omega arith) })
    (λ e. let l = leb-false a b e in record { told = omega arith; one = inr (omega arith) })

apart-side : (a b : ℕ) (s : Side) → Apart a b s → s ≡ side a b
apart-side a b s p =
    let both : (s.widened ≡ a - b) × (s.shrunk ≡ b - a) =
    ⊎_elim
    (λ e. (omega (arith, p.told), omega (arith, p.told)))
    (λ e. (omega (arith, p.told), omega (arith, p.told)))
    p.one in
    λ i. record { widened = both.0 i; shrunk = both.1 i }

-- the two intervals tell the four numbers, and these are the only ones
pub moved-moves : (given normal : Interval) → Moves given normal (moved given normal)
moved-moves given normal =
    record { left = side-apart given.start normal.start; right = side-apart normal.end given.end }

pub moves-moved : (given normal : Interval) (m : Moved) → Moves given normal m → m ≡ moved given normal
moves-moved given normal m p =
    let l = apart-side _ _ _ p.left in
    let r = apart-side _ _ _ p.right in
    λ i. record { left = l i; right = r i }

-- the given interval and the numbers tell the normal one
pub moves-back : (given n₁ n₂ : Interval) (m : Moved) → Moves given n₁ m → Moves given n₂ m → n₁ ≡ n₂
moves-back given n₁ n₂ m p q =
    let l : n₁.start ≡ n₂.start = omega (arith, p.left.told, q.left.told) in
    let r : n₁.end ≡ n₂.end = omega (arith, p.right.told, q.right.told) in
    λ i. record { start = l i; end = r i }

-- an interval that stays has zeros
nothing : (a : ℕ) → side a a ≡ record { widened = 0; shrunk = 0 }
nothing a = let e : a - a ≡ 0 = omega arith in λ i. record { widened = e i; shrunk = e i }

pub stays-still : (at : Interval) → moved at at ≡ still
stays-still at = let l = nothing at.start in let r = nothing at.end in λ i. record { left = l i; right = r i }

module _ (r : List ℕ) (start end : ℕ) (x : List ℕ) where
  -- so has an unchanged allele
  pub unchanged-still : same r (altered r start end x) ≡ true → moved_by r start end x ≡ still
  unfolding normal moved_by
  unchanged-still e = rw e (stays-still (interval start end))

  -- and a normal form that is offered again
  pub normal-still : let f = normal r start end x in moved_by r f.start f.end f.replacement ≡ still
  unfolding moved_by
  normal-still = rw (normal-normal r start end x) (stays-still (interval_of (normal r start end x)))

  given-kept : (stretches_of r start end x).given ≡ interval start end
  unfolding stretches_of as_given changed_stretches spread
  given-kept = by_cases (same r (altered r start end x)) (λ e. rw e) (λ e. rw e)

  -- the stretches of an allele tell how far its form moved
  pub stretches-moved : Allele r start end x → moved_in (stretches_of r start end x) ≡ moved_by r start end x
  unfolding moved_by
  stretches-moved a =
      rw given-kept (ap (λ (f : Normal). moved (interval start end) (interval_of f)) (stretches-join r start end x a))
