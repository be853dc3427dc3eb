use native.Mathlib.Numerals.{add-one}
use native.Mathlib.Omega.{arith}
use mathlib.Core.Path.{◌≡◌, refl, ◌∙◌, sym}
use mathlib.Core.Bool.{true}
use Rattle.stretch.specs.Below.{below}
use Rattle.stretch.proofs.Below.{below_next}
use Rattle.image.specs.Fields.{issued}
use Rattle.image.specs.Formed.{lengths}
use Rattle.image.proofs.Pool.{placed, placed_at, lengths-next, records-bad, records-end}
use Rattle.image.proofs.records.records_formed.Goals as goal

pub loop-passed-init : goal.loop-passed-init
unfolding lengths below
loop-passed-init c = (omega arith, refl, omega arith, refl)

pub returns-then-not-record_placed : goal.returns-then-not-record_placed
returns-then-not-record_placed c =
    let b = c.args.image.now in
    let tested = placed_at b c.loop-passed.passed _ _ c.read_number-reference.ensures.0 c.loop-passed.invariant.1 in
    let count = c.read_number-issued.ensures.0 in
    sym (records-bad b c.loop-passed.passed (omega arith)
    (sym tested ∙ sym c.record_placed.ensures ∙ c.if-not-record_placed.true))

pub loop-passed-preserved : goal.loop-passed-preserved
loop-passed-preserved c =
    let b = c.args.image.now in
    let tested = placed_at b c.loop-passed.passed _ _ c.read_number-reference.ensures.0 c.loop-passed.invariant.1 in
    let good : placed b c.loop-passed.passed ≡ true = sym tested ∙ sym c.record_placed.ensures
    ∙ c.if-not-record_placed.false in (
      omega arith,
      rw c.read_field-residues.ensures.0 (lengths-next b c.loop-passed.passed _ c.loop-passed.invariant.1),
      omega arith,
      rw (add-one c.loop-passed.passed) (below_next (placed b) c.loop-passed.passed c.loop-passed.invariant.3 good),
    )

pub returns : goal.returns
returns c =
    let b = c.args.image.now in
    let all-passed : c.loop-passed.passed ≡ issued b = omega (arith, c.read_number-issued.ensures.0) in
    c.pool_formed.ensures
    ∙ records-end b _ (rw (← all-passed) c.loop-passed.invariant.1) (rw (← all-passed) c.loop-passed.invariant.3)
