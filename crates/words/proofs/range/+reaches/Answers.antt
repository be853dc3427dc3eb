-- At the lower limit or above, or by the tenth parts of the limits.
use Rattle.words.proofs.Ranges.{reaches_here, reaches-below}
use Rattle.words.proofs.range.+reaches.Goals as goal

pub returns-then-number-least : goal.returns-then-number-least
returns-then-number-least t c =
    reaches-below _ _ _ c.requires.0 c.requires.1 c.if-number-least.true _ c.reaches.ensures

pub returns : goal.returns
returns t c = reaches_here _ _ _ c.if-number-least.false
