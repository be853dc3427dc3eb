-- The three are laid over the tail that is lent.
use Rattle.stretch.specs.Three.{whole}
use lib.ListN.{length-append}
use Rattle.stretch.proofs.Over.{over-tail-front}
use Rattle.changes.proofs.write.put_replacement.Goals as goal

pub returns : goal.returns
returns c =
    rw c.put_three.ensures.laid
    (over-tail-front c.args.image.now c.args.at (whole c.args.text)
    (simp length-append c.requires))
