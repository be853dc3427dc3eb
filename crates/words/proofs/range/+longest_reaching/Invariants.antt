-- The measure is the number.
use Rattle.words.proofs.range.+longest_reaching.Given as goal

abbrev pub decreases-longest_reaching : goal.decreases-longest_reaching
decreases-longest_reaching l = l.number
