-- The numbers in a row, and the digest after them.
use native.Mathlib.Omega.{arith}
use mathlib.Core.Path.{◌∙◌}
use mathlib.Core.List.{[], ◌∷◌}
use Rattle.stretch.proofs.Over.{over-next}
use Rattle.image.specs.Numbers.{numbers}
use Rattle.image.specs.Fields.{header_size, first_edition, digest_place, header_of}
use Rattle.image.proofs.Patched.{length-numbers}
use Rattle.changes.specs.Changes.{blanked}
use Rattle.blank.proofs.header.write_header.Goals as goal

pub returns : goal.returns
unfolding blanked header_of
returns c =
    let s = c.args in
    let fields = first_edition ∷ s.capacities.records ∷ 0 ∷ header_size ∷ s.capacities.journal ∷ 0
    ∷ c.journal_at-journal_at.result ∷ s.capacities.pool ∷ 0 ∷ c.pool_at-pool_at.result ∷ s.residues ∷ [] in
    rw (c.copy_at.ensures, c.put_numbers.ensures)
    (over-next s.image.now 0 digest_place (numbers fields) s.digest.now (omega arith)
    (omega (arith, length-numbers fields))
    ∙ rw (c.journal_at-journal_at.ensures.0, c.pool_at-pool_at.ensures.0))
