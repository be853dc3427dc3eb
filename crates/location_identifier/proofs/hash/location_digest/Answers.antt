-- All bytes are the text's.
use native.Mathlib.Omega.{arith}
use mathlib.Core.Path.{◌≡◌}
use lib.ListN.{length}
use borrow.Author.Rules.{rules}
use Rattle.stretch.proofs.Over.{over-all}
use Rattle.digest_text.proofs.Encoding.{length-digest_text}
use Rattle.digest_text.specs.Digest.{sha512t24u}
use Rattle.location_identifier.proofs.hash.location_digest.Goals as goal

pub returns : goal.returns
unfolding sha512t24u
returns c =
    let long : length c.location_hash-hash.result ≡ 64 = search rules in
    rw (c.write_digest_text.ensures, ← c.location_hash-hash.ensures)
    (over-all _ _ (length-digest_text c.location_hash-hash.result (omega arith)))
