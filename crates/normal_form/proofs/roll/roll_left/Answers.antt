-- It stops within the replacement, or goes through it.
use Prim.Native.Nat.{◌-◌}
use native.Mathlib.Nat.{sub-zero}
use native.Mathlib.Omega.{arith}
use lib.ListN.{length, take}
use lib.Seq.{length-take-le}
use borrow.Author.Tests.{lt-ltb, le-ltb}
use Rattle.stretch.proofs.Suffix.{lcs-le-left}
use Rattle.normal_form.specs.Inner.{rolls_left}
use Rattle.normal_form.proofs.roll.roll_left.Goals as goal

pub returns-then-agreed-given : goal.returns-then-agreed-given
unfolding rolls_left
returns-then-agreed-given c = rw (lt-ltb _ _ c.if-agreed-given.true)

pub overflow_add-result : goal.overflow_add-result
overflow_add-result c = let s = c.args in
    let back = s.back.now in
    let rest = length back - s.agreed in
    omega (
      arith,
      rw (sub-zero rest) at c.common_suffix.ensures,
      lcs-le-left (take rest back) s.before.now,
      length-take-le rest back (omega arith),
    )

pub returns : goal.returns
unfolding rolls_left
returns c = rw (le-ltb _ _ c.if-agreed-given.false, c.common_suffix.ensures, sub-zero)
