-- A decimal goes as far as the digits that the rest of the text begins with, or as those that reach the lower limit.
use Rattle.words.proofs.Numerals.{counts-none, counts-low}
use Rattle.words.proofs.words.past_decimal.Goals as goal

pub returns-then-n-eq0 : goal.returns-then-n-eq0
returns-then-n-eq0 c =
    counts-none c.in_ok-from.was c.requires.at_in_bounds c.leading_digits-digits.ensures c.requires.least_le_most
    c.if-n-eq0.true

pub returns-then-number-least : goal.returns-then-number-least
returns-then-number-least c =
    counts-low c.in_ok-from.was c.requires.at_in_bounds c.leading_digits-digits.ensures c.if-n-eq0.false
    c.if-number-least.true c.longest_reaching-reached.ensures
