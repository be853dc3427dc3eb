-- The loop's invariant: the bytes read so far are the digits of the number.
use Rattle.decimals.proofs.Leads.{Read}
use Rattle.decimals.proofs.decimal.leading_digits.Given as goal

abbrev pub invariant-loop-length : goal.invariant-loop-length
invariant-loop-length l = Read l.most l.s l.length l.number
