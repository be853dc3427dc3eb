-- What a call promises, over its verdict: what it answers, and what it leaves of something lent.
use Rattle.std.specs.Prelude.{◌≡◌, Result}
use Rattle.refusal.specs.declared.Refusal.{Refusal}
use Rattle.refusal.specs.Verdict.{Verdict, tell, leave}

-- an accepted call answers and leaves what it is said to, and a refused one leaves what was lent as it was
pub record Keeps {A L : Type 0} (v : Verdict) (said : A) (old new : L) (answer : Result A Refusal) (left : L)
    : Type 0 where
  pub answers : answer ≡ tell v said
  pub leaves : left ≡ leave v old new
