-- Each column is found behind the one before it.
use mathlib.Core.Path.{◌∙◌, sym}
use Rattle.vcf_line.proofs.Scanned.{no-pos, no_ref, ref-behind, no-alt, all-five}
use Rattle.vcf_line.proofs.scan.scan_columns.Goals as goal

pub returns-in_err-pos : goal.returns-in_err-pos
returns-in_err-pos c = c.from_residual.ensures ∙ no-pos _ (sym c.in_err-pos.ensures)

pub returns-in_err-reference : goal.returns-in_err-reference
returns-in_err-reference c =
    c.from_residual-in_err-reference.ensures
    ∙ no_ref _ (sym c.in_ok-pos.ensures) (sym c.in_err-reference.ensures)

pub returns-in_err-alternates : goal.returns-in_err-alternates
returns-in_err-alternates c =
    let first = sym c.in_ok-pos.ensures in
    c.from_residual-in_err-alternates.ensures
    ∙ no-alt _ first (ref-behind _ first (sym c.in_ok-reference.ensures)) (sym c.in_err-alternates.ensures)

pub returns : goal.returns
returns c =
    let first = sym c.in_ok-pos.ensures in
    all-five _ first (ref-behind _ first (sym c.in_ok-reference.ensures)) (sym c.in_ok-alternates.ensures)
