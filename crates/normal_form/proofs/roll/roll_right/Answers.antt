-- It stops within the replacement, or goes through it.
use native.Mathlib.Omega.{arith}
use lib.ListN.{drop, length-drop}
use borrow.Author.Tests.{lt-ltb, le-ltb}
use Rattle.stretch.proofs.Common.{lcp-le-left}
use Rattle.stretch.proofs.Tail.{lent-tail}
use Rattle.normal_form.specs.Inner.{rolls_right}
use Rattle.normal_form.proofs.roll.roll_right.Goals as goal

pub returns-then-agreed-given : goal.returns-then-agreed-given
unfolding rolls_right
returns-then-agreed-given c = rw (lt-ltb _ _ c.if-agreed-given.true)

pub overflow_add-result : goal.overflow_add-result
overflow_add-result c = let s = c.args in
    let onward = s.onward.now in
    omega (
      arith,
      rw (lent-tail onward s.agreed) at c.common_prefix.ensures,
      lcp-le-left (drop s.agreed onward) s.after.now,
      length-drop s.agreed onward,
    )

pub returns : goal.returns
unfolding rolls_right
returns c = rw (le-ltb _ _ c.if-agreed-given.false, c.common_prefix.ensures, lent-tail)
