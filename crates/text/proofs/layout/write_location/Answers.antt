-- Five writes in a row.
use native.Mathlib.Omega.{arith}
use Rattle.stretch.proofs.Wrote.{wrote_then}
use Rattle.text.specs.Layout.{location_text}
use Rattle.text.proofs.layout.write_location.Goals as goal

pub returns : goal.returns
unfolding location_text
returns c =
    wrote_then _ _ _ _ _ _ _ _ (omega arith) c.put-a.ensures
    (wrote_then _ _ _ _ _ _ _ _ c.put-a.ensures.room c.put_decimal-b.ensures
    (wrote_then _ _ _ _ _ _ _ _ c.put_decimal-b.ensures.room c.put-c.ensures
    (wrote_then _ _ _ _ _ _ _ _ c.put-c.ensures.room c.put_decimal-d.ensures c.put_three.ensures)))
