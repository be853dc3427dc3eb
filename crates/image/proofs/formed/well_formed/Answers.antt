-- The definition's tests in the code's order, each return by the tests that led there.
use mathlib.Core.Path.{◌∙◌, sym}
use Rattle.image.proofs.Tested.{header-tested, formed-steps}
use Rattle.image.proofs.formed.well_formed.Goals as goal
use Rattle.image.proofs.formed.well_formed.Goals.{then-header_formed, else-header_formed}

pub records_formed-requires : goal.records_formed-requires
records_formed-requires c = header-tested _ (sym c.header_formed.ensures ∙ c.if-header_formed.true)

pub journal_formed-requires : goal.journal_formed-requires
journal_formed-requires c =
    elim c.if-header_formed.branch [
      | then-header_formed w ↦ header-tested _ (sym c.header_formed.ensures ∙ w.if-header_formed.true)
      | else-header_formed w ↦ cc
    ]

pub returns-then-records_formed : goal.returns-then-records_formed
returns-then-records_formed c =
    elim c.if-header_formed.branch [
      | then-header_formed w ↦ rw (
        formed-steps _,
        ← c.header_formed.ensures,
        w.if-header_formed.true,
        ← w.records_formed.ensures,
        ← w.value-is,
        c.if-records_formed.true,
      ) c.journal_formed.ensures
      | else-header_formed w ↦ cc
    ]

pub returns-else-records_formed : goal.returns-else-records_formed
returns-else-records_formed c =
    elim c.if-header_formed.branch [
      | then-header_formed w ↦ rw (
        formed-steps _,
        ← c.header_formed.ensures,
        w.if-header_formed.true,
        ← w.records_formed.ensures,
        ← w.value-is,
        c.if-records_formed.false,
      )
      | else-header_formed w ↦
          c.if-records_formed.false ∙ sym (rw (formed-steps _, ← c.header_formed.ensures, w.if-header_formed.false))
    ]
