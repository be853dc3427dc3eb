-- The rolls give p and q, and the outline follows.
use native.Mathlib.Omega.{arith}
use lib.ListN.{take, drop, length-drop}
use lib.Seq.{length-take-le}
use Rattle.normal_form.specs.Inner.{agreed_outline}
use Rattle.normal_form.proofs.Flanks.{rolls_right-le, rolls_left-le}
use Rattle.normal_form.proofs.Spot.{lent-right, lent-left, outlined-fits}
use Rattle.normal_form.proofs.engine.justify.Goals as goal

pub overflow_add-p : goal.overflow_add-p
overflow_add-p c =
    let a = c.args in
    let r = a.reference.now in
    omega (
      arith,
      lent-right r a.start a.end a.given a.ahead _ c.roll_right.ensures,
      rolls_right-le (drop a.start r) a.given a.ahead (drop a.end r)
          (omega (arith, length-drop a.start r, c.requires)),
      length-drop a.start r,
      c.requires,
    )

pub overflow_add-q : goal.overflow_add-q
overflow_add-q c =
    let a = c.args in
    let r = a.reference.now in
    let long = length-take-le a.end r c.requires.inside in
    omega (
      arith,
      lent-left r a.start a.end a.given a.behind _ c.roll_left.ensures,
      rolls_left-le (take a.end r) a.given a.behind (take a.start r) (omega (arith, c.requires)),
      c.requires,
    )

pub lay-requires : goal.lay-requires
lay-requires c =
    let a = c.args in
    let r = a.reference.now in
    let long = length-take-le a.end r c.requires.inside in
    outlined-fits _ a.start a.end a.given _ _ c.requires.ordered c.requires.inside (omega arith)
    (omega (
      arith,
      lent-left r a.start a.end a.given a.behind _ c.roll_left.ensures,
      rolls_left-le (take a.end r) a.given a.behind (take a.start r) (omega (arith, c.requires)),
      c.requires,
    )) _ c.outline_of.ensures

pub returns : goal.returns
unfolding agreed_outline
returns c =
    let a = c.args in
    let r = a.reference.now in
    rw (
      c.lay.ensures,
      c.outline_of.ensures,
      lent-right r a.start a.end a.given a.ahead _ c.roll_right.ensures,
      lent-left r a.start a.end a.given a.behind _ c.roll_left.ensures,
    )
