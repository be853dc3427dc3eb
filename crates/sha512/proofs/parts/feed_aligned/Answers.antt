-- What lies after the whole blocks waits.
use Rattle.std.proofs.Common.{◌≡◌, append-nil}
use Rattle.sha512.specs.Message.{rest}
use Rattle.sha512.specs.Feeding.{after}
use Rattle.sha512.proofs.parts.feed_aligned.Goals as goal

pub returns : goal.returns
unfolding after rest
returns c = let behind : c.as_chunks.result.1.now ≡ rest c.args.part.now = c.as_chunks.ensures.back in
    rw (c.fill.ensures, behind, append-nil, c.absorb.ensures)
