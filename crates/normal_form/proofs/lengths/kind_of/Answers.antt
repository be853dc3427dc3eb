-- The sum held against k without being taken.
use Prim.Native.Nat.{◌+◌}
use native.Mathlib.Omega.{arith}
use borrow.Author.Tests.{lt-ltb, le-ltb}
use Rattle.normal_form.specs.Form.{kind_in}
use Rattle.normal_form.proofs.lengths.kind_of.Goals as goal

pub returns-then-q-saturating_sub : goal.returns-then-q-saturating_sub
unfolding kind_in
returns-then-q-saturating_sub c = let s = c.args in rw (lt-ltb (s.p + s.q) s.k (omega arith))

pub returns : goal.returns
unfolding kind_in
returns c = let s = c.args in rw (le-ltb (s.p + s.q) s.k (omega arith))
