-- The text, and the digits after it.
use native.Mathlib.Omega.{arith}
use Rattle.stretch.proofs.Wrote.{wrote_then}
use Rattle.decimals.proofs.Digits.{decimal-within}
use Rattle.answer_line.proofs.write.put_after.Goals as goal

pub put_decimal-requires : goal.put_decimal-requires
put_decimal-requires c =
    omega (
      arith,
      c.put-digits.auto.to,
      c.put-digits.ensures.next,
      decimal-within c.args.n c.ranges.n.fits,
      c.requires,
    )

pub returns : goal.returns
returns c = record {
  wrote = wrote_then _ _ _ _ _ _ _ _ (omega (arith, c.requires)) c.put-digits.ensures c.put_decimal.ensures;
  upper_bound = omega (
    arith,
    c.put-digits.ensures.next,
    c.put_decimal.ensures.next,
    decimal-within c.args.n c.ranges.n.fits,
  );
}
