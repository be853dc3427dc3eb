-- What is left of the parts, fed to the state, is what all of them are from the start.
use mathlib.Core.Path.{◌≡◌}
use lib.ListN.{drop}
use Rattle.sha512.specs.Feeding.{begun, fed_all}
use Rattle.allele_identifier.proofs.Hashing.{lent}
use Rattle.allele_identifier.proofs.hash.allele_hash.Given as goal

abbrev pub invariant-loop-part : goal.invariant-loop-part
invariant-loop-part l = fed_all l.state (lent (drop l.part-index l.part-items)) ≡ fed_all begun (lent l.part-items)
