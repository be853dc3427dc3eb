-- The digits are the whole text, and their number is not too small.
use Rattle.std.proofs.Common.{sym, ⊎_elim}
use Rattle.decimals.proofs.Leads.{whole-more, whole-none, whole-low, whole_is}
use Rattle.decimals.proofs.decimal.read_decimal_within.Goals as goal

pub returns-then-digits-eq0 : goal.returns-then-digits-eq0
returns-then-digits-eq0 c =
    let r = c.leading_digits-digits.ensures in
    sym (⊎_elim (λ e. whole-none _ _ _ _ _ r e)
    (⊎_elim (λ w. whole-more _ _ _ _ _ r w.1) (λ w. whole-low _ _ _ _ _ r w.0 w.1 w.2))
    c.then-digits-eq0.either)

pub returns : goal.returns
returns c =
    sym (whole_is _ _ _ _ _ c.leading_digits-digits.ensures c.if-digits-eq0.false c.if-digits-s.false
    c.if-digits-least.false)
