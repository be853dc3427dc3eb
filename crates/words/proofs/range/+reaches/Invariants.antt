-- The measure is the lower limit.
use Rattle.words.proofs.range.+reaches.Given as goal

abbrev pub decreases-reaches : goal.decreases-reaches
decreases-reaches l = l.least
