-- One digit, or the last digit after the decimal of the tenth part.
use Rattle.std.proofs.Common.{◌≤◌, arith}
use Rattle.decimals.proofs.Digits.{decimal-below, decimal-long, length-tenth}
use Rattle.decimals.proofs.Writing.{write-digit, write-last}
use Rattle.decimals.proofs.decimal.+write_decimal.Goals as goal

pub bounds-out-0 : goal.bounds-out-0
bounds-out-0 t c = omega (arith, c.requires, decimal-long c.args.n)

pub returns-then-n-lt10 : goal.returns-then-n-lt10
returns-then-n-lt10 t c = (
  rw (decimal-below c.args.n c.if-n-lt10.true),
  rw c.character.ensures
      (write-digit c.args.out.now c.args.n c.if-n-lt10.true
      (omega (arith, c.requires, decimal-long c.args.n))),
)

pub write_decimal-at-requires : goal.write_decimal-at-requires
write_decimal-at-requires t c = (omega arith, omega (arith, c.requires, length-tenth c.args.n (omega arith)))

pub bounds-out-at : goal.bounds-out-at
bounds-out-at t c =
    omega (
      arith,
      c.write_decimal-at.auto.out,
      c.write_decimal-at.ensures.0,
      c.requires,
      length-tenth c.args.n (omega arith),
    )

pub overflow_add-result : goal.overflow_add-result
overflow_add-result t c =
    omega (arith, c.write_decimal-at.ensures.0, c.requires, length-tenth c.args.n (omega arith))

pub returns : goal.returns
returns t c = let n = c.args.n in let ten : 10 ≤ n = omega arith in (
  omega (arith, c.write_decimal-at.ensures.0, length-tenth n ten),
  rw (c.write_decimal-at.ensures.1, c.write_decimal-at.ensures.0, c.character-2.ensures)
      (write-last c.args.out.now n ten c.requires),
)
