-- A walk past a word of a kind goes to one place and has one number.
use Rattle.std.proofs.Common.{rules}
use Prim.Native.Nat.{ℕ}
use mathlib.Core.Path.{◌≡◌}
use mathlib.Core.List.{List}
use Rattle.std.specs.Prelude.{Result}
use Rattle.decimals.proofs.Reading.{decimal_injective}
use Rattle.words.specs.declared.Counted.{Counted}
use Rattle.words.specs.declared.Stopped.{Stopped}
use Rattle.words.specs.Walk.{Walk, walk_of, counted_walk, number_of, Onward, Counts}

pub onward-once : (Kind : List ℕ → Type 0) (text : List ℕ) (a b₁ b₂ : Walk) → Onward Kind text a b₁
    → Onward Kind text a b₂ → b₁ ≡ b₂
onward-once Kind text a b₁ b₂ o₁ o₂ = search rules

pub past-once : (Kind : List ℕ → Type 0) (text : List ℕ) (a r₁ r₂ : Result ℕ Stopped)
    → Onward Kind text (walk_of a) (walk_of r₁) → Onward Kind text (walk_of a) (walk_of r₂) → r₁ ≡ r₂
past-once Kind text a r₁ r₂ o₁ o₂ = search rules

pub counts-once : (least most : ℕ) (text : List ℕ) (a : Result ℕ Stopped) (r₁ r₂ : Result Counted Stopped)
    → Counts least most text (walk_of a) (counted_walk r₁) (number_of r₁)
    → Counts least most text (walk_of a) (counted_walk r₂) (number_of r₂) → r₁ ≡ r₂
counts-once least most text a r₁ r₂ c₁ c₂ = search (rules, decimal_injective)
