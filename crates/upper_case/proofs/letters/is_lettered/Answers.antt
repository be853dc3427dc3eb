use Rattle.std.proofs.Common.{◌∙◌}
use Rattle.upper_case.proofs.Lettered.{lettered-unless_empty}
use Rattle.upper_case.proofs.letters.is_lettered.Goals as goal

pub returns-then-not-is_empty : goal.returns-then-not-is_empty
returns-then-not-is_empty c =
    c.all_of.ensures ∙ rw (← c.is_empty.ensures, c.if-not-is_empty.true) at (lettered-unless_empty c.args.s.now)

pub returns-else-not-is_empty : goal.returns-else-not-is_empty
returns-else-not-is_empty c =
    rw c.if-not-is_empty.false
    (rw (← c.is_empty.ensures, c.if-not-is_empty.false) at (lettered-unless_empty c.args.s.now))
