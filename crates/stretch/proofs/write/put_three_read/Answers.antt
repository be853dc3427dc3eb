-- Two after one, and one after two.
use native.Mathlib.Omega.{arith}
use lib.ListN.{length-map}
use Rattle.stretch.proofs.Wrote.{wrote_then}
use Rattle.stretch.proofs.write.put_three_read.Goals as goal

pub put-requires : goal.put-requires
put-requires g c =
    omega (
      arith,
      c.requires,
      length-map c.args.text.middle.now g.R.Reading.reads,
      c.put-second.ensures,
      c.put_read-third.ensures,
    )

pub returns : goal.returns
returns g c =
    wrote_then _ _ _ _ _ _ _ _ (omega (arith, c.requires)) c.put-second.ensures
    (wrote_then _ _ _ _ _ _ _ _ c.put-second.ensures.room c.put_read-third.ensures c.put.ensures)
