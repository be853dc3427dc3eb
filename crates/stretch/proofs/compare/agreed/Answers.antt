use native.Mathlib.Omega.{arith}
use Rattle.stretch.proofs.FromEnd.{byte-on, byte-here, byte-end}
use Rattle.stretch.proofs.compare.agreed.Goals as goal

pub returns-then-byte-read : goal.returns-then-byte-read
returns-then-byte-read g c =
    let laws = g.met.E.End in
    let read = rw c.byte-in-loop-i.ensures at c.read.ensures in
    byte-here g.E.End.order laws.long laws.maps g.R.Reading.reads c.args.a.now c.args.b.now c.loop-i.i _ _
    (omega arith) (omega arith) c.byte.ensures read c.loop-i.invariant c.if-byte-read.true

pub loop-i-preserved : goal.loop-i-preserved
loop-i-preserved g c =
    let laws = g.met.E.End in
    let read = rw c.byte-in-loop-i.ensures at c.read.ensures in
    byte-on g.E.End.order laws.long laws.maps g.R.Reading.reads c.args.a.now c.args.b.now c.loop-i.i _ _
    (omega arith) (omega arith) c.byte.ensures read c.loop-i.invariant c.if-byte-read.false

pub returns : goal.returns
returns g c =
    let laws = g.met.E.End in
    let end =
    byte-end g.E.End.order laws.long laws.maps g.R.Reading.reads c.args.a.now c.args.b.now c.loop-i.i (omega arith)
    c.loop-i.invariant in
    omega arith
