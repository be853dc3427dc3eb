-- One, or one more than the decimal of the tenth part.
use Rattle.std.proofs.Common.{◌/◌, arith}
use Rattle.decimals.proofs.Digits.{decimal-below, decimal-within, length-tenth}
use Rattle.decimals.proofs.decimal.+decimal_length.Goals as goal

pub returns-then-n-lt10 : goal.returns-then-n-lt10
returns-then-n-lt10 t c = rw (decimal-below c.args.n c.if-n-lt10.true)

pub overflow_add-result : goal.overflow_add-result
overflow_add-result t c = let n = c.args.n in
    omega (arith, c.decimal_length.ensures, decimal-within (n / 10) (omega (arith, c.ranges.n.fits)))

pub returns : goal.returns
returns t c = let n = c.args.n in omega (arith, c.decimal_length.ensures, length-tenth n c.if-n-lt10.false)
