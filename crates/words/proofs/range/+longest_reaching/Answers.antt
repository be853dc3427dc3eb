-- All of the digits, or those of the tenth part.
use Rattle.std.proofs.Common.{arith}
use Rattle.decimals.proofs.Digits.{decimal-long, length-tenth}
use Rattle.words.proofs.Ranges.{longest-zero, longest-digit, longest-tenth}
use Rattle.words.proofs.range.+longest_reaching.Goals as goal

pub returns-then-number-eq0 : goal.returns-then-number-eq0
returns-then-number-eq0 t c = let r = c.requires.least_nonzero in rw c.if-number-eq0.true (longest-zero _ _ r.1 r.0)

pub returns-then-number-lt10 : goal.returns-then-number-lt10
returns-then-number-lt10 t c =
    longest-digit _ _ c.requires.least_nonzero.1 _ _ c.reaches.ensures c.if-reaches.false c.if-number-lt10.true

pub overflow_sub-digits : goal.overflow_sub-digits
overflow_sub-digits t c = omega (arith, c.requires.digits_value, decimal-long c.args.number)

pub longest_reaching-requires : goal.longest_reaching-requires
longest_reaching-requires t c = (
  omega arith,
  (
    omega (arith, c.requires.digits_value, length-tenth c.args.number c.if-number-lt10.false),
    c.requires.least_nonzero,
  ),
)

pub returns : goal.returns
returns t c =
    longest-tenth _ _ c.requires.least_nonzero.1 _ _ c.reaches.ensures c.if-reaches.false c.if-number-lt10.false _
    c.longest_reaching.ensures
