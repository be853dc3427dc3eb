-- What the tests before an identifier tell: room for it, and what the call that makes them promises.
use Prim.Native.Nat.{ℕ, ◌+◌, ◌≤◌}
use mathlib.Core.Path.{◌≡◌, refl}
use mathlib.Core.List.{List, [], ◌∷◌, ◌++◌}
use borrow.Author.Tests.{ltb-false}
use Rattle.std.specs.Prelude.{Result, Ok, Err}
use Rattle.refusal.specs.declared.Refusal.{Refusal}
use Rattle.refusal.specs.Grounds.{output_too_short}
use Rattle.refusal.specs.Verdict.{Ground, Verdict, accepted, verdict, tell}
use Rattle.refusal.specs.Writes.{Writes}
use Rattle.refusal.proofs.Verdict.{none-holds, verdict-later, told-accepted, told-refused}
use Rattle.refusal.proofs.Writes.{writes_nothing, writes_as}

module _ (gs : List Ground) (room place n : ℕ) where
  pub tested-room : Ok (tt {0}) ≡ tell (verdict (gs ++ (output_too_short room place n ∷ []))) tt
      → place + n ≤ room
  tested-room e =
      let six = output_too_short room place n ∷ [] in
      let v : verdict (gs ++ six) ≡ accepted = (told-accepted _ tt tt e).0 in
      ltb-false room (place + n) (none-holds six (verdict-later gs six v) 0)

module _ (v : Verdict) (text out : List ℕ) (place : ℕ) where
  pub tested-writes : (answer : Result ℕ Refusal) (left : List ℕ) → Ok (tt {0}) ≡ tell v tt
      → Writes accepted text out place answer left → Writes v text out place answer left
  tested-writes answer left e p =
      writes_as _ text out place accepted text answer left (told-accepted v tt tt e).0 refl p

  pub tested-silent : (why : Refusal) → Err why ≡ tell v (tt {0}) → Writes v text out place (Err why) out
  tested-silent why e = writes_nothing _ text out place why (told-refused v tt why e)
