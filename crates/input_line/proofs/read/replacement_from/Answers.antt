-- A full stop alone is the empty replacement, at the end of the line.
use native.Mathlib.Omega.{arith}
use mathlib.Core.Path.{◌∙◌, sym}
use lib.ListN.{length, drop_of_length-le}
use Rattle.input_line.proofs.Fields.{stop-alone, no_stop, replacement_of-longer}
use Rattle.input_line.proofs.read.replacement_from.Goals as goal

pub returns-then-line-third-ne46 : goal.returns-then-line-third-ne46
returns-then-line-third-ne46 c =
    (sym (no_stop c.args.line.now c.args.third c.requires c.if-line-third-ne46.true), omega arith)

pub returns-then-third-line : goal.returns-then-third-line
returns-then-third-line c =
    (sym (replacement_of-longer c.args.line.now c.args.third c.if-third-line.true), omega arith)

pub returns : goal.returns
returns c = let l = c.args.line.now in (
  drop_of_length-le l {i = length l} (omega arith)
      ∙ sym (stop-alone l c.args.third (omega arith) c.if-line-third-ne46.false),
  omega arith,
)
