-- A first number above the limit exceeds it; from there on what the limit leaves is compared.
use mathlib.Core.Path.{sym}
use Rattle.refusal.proofs.Sum.{exceeds-first, exceeds-rest}
use Rattle.refusal.proofs.sum_exceeds.Goals as goal

pub returns-then-limit-a : goal.returns-then-limit-a
returns-then-limit-a c = sym (exceeds-first _ _ _ c.if-limit-a.true)

pub returns : goal.returns
returns c = exceeds-rest _ _ _ c.if-limit-a.false
