-- The promise of a call: met by a refusal, met by what was said, handed on under the same verdict, and unique.
use mathlib.Core.Path.{◌≡◌, refl, ◌∙◌, sym, ap}
use Rattle.std.specs.Prelude.{Result, Ok, Err}
use Rattle.refusal.specs.declared.Refusal.{Refusal}
use Rattle.refusal.specs.Verdict.{Verdict, accepted, refused, tell, leave}
use Rattle.refusal.specs.Keeps.{Keeps}

module _ {A L : Type 0} (v : Verdict) (said : A) (old new : L) where
  pub keeps-refused : (r : Refusal) → v ≡ refused r → Keeps v said old new (Err r) old
  keeps-refused r e = record { answers = rw e; leaves = rw e }

  pub keeps-accepted : (answer : Result A Refusal) (left : L) → v ≡ accepted → answer ≡ Ok said → left ≡ new
      → Keeps v said old new answer left
  keeps-accepted answer left e a l = record { answers = rw (e, a); leaves = rw (e, l) }

  -- the same verdict over other grounds
  pub keeps-as : (w : Verdict) (answer : Result A Refusal) (left : L) → v ≡ w → Keeps w said old new answer left
      → Keeps v said old new answer left
  keeps-as w answer left e p = rw e p

pub keeps-once : {A L : Type 0} (v : Verdict) (said : A) (old new : L) (a₁ a₂ : Result A Refusal) (l₁ l₂ : L)
    → Keeps v said old new a₁ l₁ → Keeps v said old new a₂ l₂ → (a₁ ≡ a₂) × (l₁ ≡ l₂)
keeps-once v said old new a₁ a₂ l₁ l₂ p q = (p.answers ∙ sym q.answers, p.leaves ∙ sym q.leaves)

-- what is told of a verdict in any type: the refusal as that type holds it, or what was said
abbrev pub tells : {C : Type 0} → (Refusal → C) → Verdict → C → C
tells g accepted said = said
tells g (refused r) said = g r

-- the answer in another type, which has the refusals of the first
pub keeps-through : {A C L : Type 0} (h : Result A Refusal → C) (g : Refusal → C) → ((r : Refusal) → h (Err r) ≡ g r)
    → (v : Verdict) (said : A) (old new : L) (answer : Result A Refusal) (left : L) → Keeps v said old new answer left
    → (h answer ≡ tells g v (h (Ok said))) × (left ≡ leave v old new)
keeps-through h g e accepted said old new answer left p = (ap h p.answers, p.leaves)
keeps-through h g e (refused r) said old new answer left p = (ap h p.answers ∙ e r, p.leaves)

tells-result : {B : Type 0} (v : Verdict) (told : Result B Refusal) (b : B) → told ≡ Ok b → tells Err v told ≡ tell v b
tells-result accepted told b e = e
tells-result (refused r) told b e = refl

-- and in a result of another type, where what was said is another answer
pub keeps-result : {A B L : Type 0} (h : Result A Refusal → Result B Refusal) (said : A) (b : B) → h (Ok said) ≡ Ok b
    → ((r : Refusal) → h (Err r) ≡ Err r) → (v : Verdict) (old new : L) (answer : Result A Refusal) (left : L)
    → Keeps v said old new answer left → Keeps v b old new (h answer) left
keeps-result h said b e f v old new answer left p =
    let t = keeps-through h Err f v said old new answer left p in
    record { answers = t.0 ∙ tells-result v (h (Ok said)) b e; leaves = t.1 }
