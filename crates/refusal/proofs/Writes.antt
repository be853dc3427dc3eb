-- The promise of a call that writes: met by a refusal, met by a write, and handed on by a caller.
use Prim.Native.Nat.{ℕ}
use mathlib.Core.Path.{◌≡◌}
use mathlib.Core.List.{List}
use lib.ListN.{length}
use Rattle.std.specs.Prelude.{Result, Ok, Err}
use Rattle.stretch.specs.Over.{over}
use Rattle.refusal.specs.declared.Refusal.{Refusal}
use Rattle.refusal.specs.Verdict.{Verdict, accepted, refused}
use Rattle.refusal.specs.Writes.{Writes}
use Rattle.refusal.proofs.Keeps.{keeps-refused, keeps-accepted}

module _ (v : Verdict) (text out : List ℕ) (place : ℕ) where
  pub writes_nothing : (r : Refusal) → v ≡ refused r → Writes v text out place (Err r) out
  writes_nothing r e = keeps-refused v _ out _ r e

  pub writes-all : (n : ℕ) (left : List ℕ) → v ≡ accepted → n ≡ length text → left ≡ over out place text
      → Writes v text out place (Ok n) left
  writes-all n left e long w = keeps-accepted v _ out _ (Ok n) left e (rw long) w

  pub writes_as : (w : Verdict) (same : List ℕ) (answer : Result ℕ Refusal) (left : List ℕ) → v ≡ w → text ≡ same
      → Writes w same out place answer left → Writes v text out place answer left
  writes_as w same answer left e t p = rw (e, t) p
