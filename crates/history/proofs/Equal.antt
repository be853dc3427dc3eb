-- Proofs by cases on whether two numbers are one.
use Prim.Native.Nat.{ℕ}
use mathlib.Core.Path.{◌≡◌}
use lib.Dec.{eqb}
use borrow.Author.Tests.{eqb-true, eqb-false}
use Rattle.stretch.proofs.Cases.{by_cases}

pub by_equal : {C : Type 0} (i j : ℕ) → (i ≡ j → C) → ((i ≡ j → ⊥) → C) → C
by_equal i j f g = by_cases (eqb i j) (λ e. f (eqb-true i j e)) (λ e. g (eqb-false i j e))
