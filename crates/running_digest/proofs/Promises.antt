-- A part has one outcome and leaves one state; and wherever a reference is cut, its parts are accepted where the whole
-- is, and its identifier is that of the whole call.
use Prim.Native.Nat.{ℕ}
use mathlib.Core.Path.{◌≡◌, refl, sym, ◌∙◌}
use mathlib.Core.List.{List, [], ◌∷◌}
use Rattle.std.specs.Prelude.{Result}
use Rattle.refusal.specs.declared.Refusal.{Refusal}
use Rattle.refusal.specs.Verdict.{accepted, verdict}
use Rattle.refusal.proofs.Unique.{one_answer}
use Rattle.sha512.specs.declared.Running.{Running}
use Rattle.sha512.specs.Feeding.{begun, joined}
use Rattle.sequence_identifier.specs.Calls.{reference_grounds, feeding, feeding_all, AllTaken, Identifies, Finishes}
use Rattle.sequence_identifier.proofs.Cut.{cut-taken, cut-anywhere}
use Rattle.running_digest.specs.Calls.{Feeds, FeedsAll}

pub feeds-once : (state : Running) (part : List ℕ) (o₁ o₂ : Result (Unit {0}) Refusal) (s₁ s₂ : Running)
    → Feeds state part o₁ s₁ → Feeds state part o₂ s₂ → (o₁ ≡ o₂) × (s₁ ≡ s₂)
feeds-once state part o₁ o₂ s₁ s₂ p q = (one_answer p.answers q.answers, one_answer p.leaves q.leaves)

all-taken : (state : Running) (parts : List (List ℕ)) (after : Running) → FeedsAll state parts after
    → AllTaken state parts × (after ≡ feeding_all state parts)
all-taken state [] after f = (tt, f)
all-taken state (part ∷ parts) after (next, (f, fs)) =
    let (taken, is) = all-taken next parts after fs in
    ((sym f.answers, rw (← f.leaves) taken), is ∙ (λ i. feeding_all (f.leaves i) parts))

each_fed : (state : Running) (parts : List (List ℕ)) → AllTaken state parts
    → FeedsAll state parts (feeding_all state parts)
each_fed state [] a = refl
each_fed state (part ∷ parts) (e, a) = (
  feeding state part,
  (record { answers = sym e; leaves = refl }, each_fed (feeding state part) parts a),
)

-- wherever a reference is cut that is within its limit and has no foreign byte, each part is accepted, one after
-- another
pub lent-taken : (parts : List (List ℕ)) → verdict (reference_grounds (joined parts)) ≡ accepted
    → FeedsAll begun parts (feeding_all begun parts)
lent-taken parts v = each_fed begun parts (cut-taken parts v)

-- what finish promises after parts that were all accepted is what the whole reference's call promises
pub lent-anywhere : (parts : List (List ℕ)) (after : Running) → FeedsAll begun parts after
    → (out : List ℕ) (place : ℕ) (answer : Result ℕ Refusal) (left : List ℕ)
    → Finishes after out place answer left → Identifies (joined parts) out place answer left
lent-anywhere parts after f out place answer left finishes =
    let (taken, is) = all-taken begun parts after f in
    cut-anywhere parts taken out place answer left (rw is at finishes)
