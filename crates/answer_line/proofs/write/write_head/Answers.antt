-- Four writes in a row.
use native.Mathlib.Omega.{arith}
use Rattle.stretch.proofs.Wrote.{wrote_then}
use Rattle.decimals.proofs.Digits.{decimal-within}
use Rattle.answer_line.proofs.write.write_head.Goals as goal

pub put_decimal-at-requires : goal.put_decimal-at-requires
put_decimal-at-requires c =
    omega (arith, decimal-within c.args.start c.ranges.start.fits, c.requires.0)

pub put_after-at-requires : goal.put_after-at-requires
put_after-at-requires c =
    omega (arith, c.put_decimal-at.ensures.next, decimal-within c.args.start c.ranges.start.fits, c.requires.0)

pub put-at-requires : goal.put-at-requires
put-at-requires c =
    omega (
      arith,
      c.word_of.ensures.upper_bound,
      c.put_after-at.ensures.upper_bound,
      c.put_decimal-at.ensures.next,
      decimal-within c.args.start c.ranges.start.fits,
      c.requires.0,
    )

pub put-requires : goal.put-requires
put-requires c =
    omega (
      arith,
      c.word_of.ensures.upper_bound,
      c.put-at.ensures.next,
      c.put_after-at.ensures.upper_bound,
      c.put_decimal-at.ensures.next,
      decimal-within c.args.start c.ranges.start.fits,
      c.requires.0,
      c.requires.1,
    )

pub returns : goal.returns
returns c = record {
  wrote = wrote_then _ 0 _ _ _ _ _ _ (omega arith) c.put_decimal-at.ensures
      (wrote_then _ _ _ _ _ _ _ _ c.put_decimal-at.ensures.room c.put_after-at.ensures.wrote
      (wrote_then _ _ _ _ _ _ _ _ c.put_after-at.ensures.wrote.room
      (rw c.word_of.ensures.text at c.put-at.ensures) c.put.ensures));
  upper_bound = omega (
    arith,
    c.put.ensures.next,
    c.put-at.ensures.next,
    c.word_of.ensures.upper_bound,
    c.put_after-at.ensures.upper_bound,
    c.put_decimal-at.ensures.next,
    decimal-within c.args.start c.ranges.start.fits,
    c.requires.1,
  );
}
