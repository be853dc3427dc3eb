-- The promise of a call that writes where there is room, 6 after its other grounds: what an accepted one tells, how it
-- is met, and that it is unique.
use Prim.Native.Nat.{ℕ, ◌+◌, ◌≤◌}
use native.Mathlib.Omega.{arith}
use mathlib.Core.Path.{◌≡◌, refl}
use mathlib.Core.Bool.{true, false}
use mathlib.Core.List.{List, [], ◌∷◌, ◌++◌}
use lib.Dec.{ltb}
use lib.ListN.{length}
use borrow.Author.Tests.{ltb-false}
use Rattle.std.specs.Prelude.{Result, Ok, Err}
use Rattle.stretch.specs.Part.{part}
use Rattle.stretch.proofs.Over.{part-over}
use Rattle.refusal.specs.declared.Refusal.{Refusal}
use Rattle.refusal.specs.declared.Reason.TheVariants.{OutputTooShort}
use Rattle.refusal.specs.Verdict.{Ground, accepted, refused, verdict}
use Rattle.refusal.specs.Grounds.{output_too_short}
use Rattle.refusal.specs.Writes.{Writes, WritesUnless}
use Rattle.refusal.proofs.Verdict.{none-holds, verdict-first, verdict-then, verdict-fewer, verdict-later, told-accepted}
use Rattle.refusal.proofs.Keeps.{keeps-once}
use Rattle.refusal.proofs.Writes.{writes_nothing, writes_as}

-- what an accepted write tells: the grounds, the length, the bytes
pub record TextWritten (gs : List Ground) (text out : List ℕ) (place k : ℕ) (left : List ℕ) : Type 0 where
  pub grounds : verdict gs ≡ accepted
  pub stands : part left place (place + k) ≡ text

pub writes-unless-accepted : (gs : List Ground) (text out : List ℕ) (place k : ℕ) (left : List ℕ)
    → WritesUnless gs text out place (Ok k) left → TextWritten gs text out place k left
unfolding WritesUnless
writes-unless-accepted gs text out place k left p =
    let six = output_too_short (length out) place (length text) ∷ [] in
    let t = told-accepted (verdict (gs ++ six)) (length text) k p.answers in
    let room : place + length text ≤ length out =
    ltb-false (length out) (place + length text) (none-holds six (verdict-later gs six t.0) 0) in
    record {
      grounds = verdict-fewer gs six t.0;
      stands =
          rw (p.leaves, t.0) (part-over out place text k (omega arith) t.1);
    }

-- 6 after other grounds
module _ (gs : List Ground) (text out : List ℕ) (place : ℕ) where
  pub writes-unless-then : (answer : Result ℕ Refusal) (left : List ℕ) → verdict gs ≡ accepted
      → WritesUnless [] text out place answer left → WritesUnless gs text out place answer left
  unfolding WritesUnless
  writes-unless-then answer left v p =
      writes_as _ text out place _ text answer left
      (verdict-then gs (output_too_short (length out) place (length text) ∷ []) v) refl p

  pub writes-unless-refused : (why : Refusal) → verdict gs ≡ refused why
      → WritesUnless gs text out place (Err why) out
  unfolding WritesUnless
  writes-unless-refused why v =
      writes_nothing _ text out place why
      (verdict-first gs (output_too_short (length out) place (length text) ∷ []) why v)

  pub writes-unless-once : (a₁ a₂ : Result ℕ Refusal) (l₁ l₂ : List ℕ) → WritesUnless gs text out place a₁ l₁
      → WritesUnless gs text out place a₂ l₂ → (a₁ ≡ a₂) × (l₁ ≡ l₂)
  unfolding WritesUnless
  writes-unless-once a₁ a₂ l₁ l₂ p q = keeps-once _ _ _ _ a₁ a₂ l₁ l₂ p q

-- 6 alone, by the length that the code finds
module _ (text out : List ℕ) (place n : ℕ) (long : n ≡ length text) where
  pub writes-unless-short : (answer : Result ℕ Refusal) → answer ≡ Err (record { reason = OutputTooShort; value = n })
      → ltb (length out) (place + n) ≡ true → WritesUnless [] text out place answer out
  unfolding WritesUnless
  writes-unless-short answer e t =
      let v : ltb (length out) (place + length text) ≡ true = rw long at t in
      rw e (writes_nothing _ text out place (record { reason = OutputTooShort; value = n }) (rw (v, long)))

  pub writes-unless-room : (answer : Result ℕ Refusal) (left : List ℕ) → ltb (length out) (place + n) ≡ false
      → Writes accepted text out place answer left → WritesUnless [] text out place answer left
  unfolding WritesUnless
  writes-unless-room answer left t p =
      let v : ltb (length out) (place + length text) ≡ false = rw long at t in
      writes_as _ text out place accepted text answer left (rw v) refl p
