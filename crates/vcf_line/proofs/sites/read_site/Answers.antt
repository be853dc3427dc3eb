-- Each return is what the grounds say, by the tests that led there.
use native.Mathlib.Omega.{arith}
use mathlib.Core.Path.{◌∙◌, sym}
use Rattle.vcf_line.proofs.Scanned.{columns-found, columns-few, columns-enough}
use Rattle.vcf_line.proofs.Answers.{position-within, sited-over, sited-few, sited-unlettered}
use Rattle.vcf_line.proofs.Answers.{sited-no-position, sited-compared}
use Rattle.vcf_line.proofs.sites.read_site.Goals as goal

pub returns-then-reference-gt-REFERENCE_LIMIT : goal.returns-then-reference-gt-REFERENCE_LIMIT
returns-then-reference-gt-REFERENCE_LIMIT c =
    rw c.refuse.ensures (sited-over _ _ c.if-reference-gt-REFERENCE_LIMIT.true)

pub returns-in_default : goal.returns-in_default
returns-in_default c =
    rw c.refuse-unread.ensures
    (sited-few _ _ c.if-reference-gt-REFERENCE_LIMIT.false
    (columns-few _ (sym c.in_default.ensures)))

pub extent_of-given-requires : goal.extent_of-given-requires
extent_of-given-requires c =
    let f = columns-found _ _ (sym c.in-Some.ensures) in
    (f.reference.ordered, f.reference.inside)

pub returns-then-not-is_lettered : goal.returns-then-not-is_lettered
returns-then-not-is_lettered c =
    let f = columns-found _ _ (sym c.in-Some.ensures) in
    let ref = c.extent_of-given.ensures ∙ sym f.reference.piece in
    rw c.refuse-unread.ensures
    (sited-unlettered _ _ c.if-reference-gt-REFERENCE_LIMIT.false (columns-enough _ f)
    (rw ref at (sym c.is_lettered.ensures ∙ c.if-not-is_lettered.true)))

pub extent_of-requires : goal.extent_of-requires
extent_of-requires c =
    let f = columns-found _ _ (sym c.in-Some.ensures) in
    (f.pos.ordered, f.pos.inside)

pub returns-in_default-read_position : goal.returns-in_default-read_position
returns-in_default-read_position c =
    let f = columns-found _ _ (sym c.in-Some.ensures) in
    let ref = c.extent_of-given.ensures ∙ sym f.reference.piece in
    let pos = c.extent_of.ensures ∙ sym f.pos.piece in
    rw c.refuse-unread.ensures
    (sited-no-position _ _ c.if-reference-gt-REFERENCE_LIMIT.false (columns-enough _ f)
    (rw ref at (sym c.is_lettered.ensures ∙ c.if-not-is_lettered.false))
    (rw pos at (sym c.in_default-read_position.ensures)))

pub before_residue-requires : goal.before_residue-requires
before_residue-requires c =
    let w = position-within _ _ _ (sym c.in-Some-read_position.ensures) in
    w.low

pub compare_ref-requires : goal.compare_ref-requires
compare_ref-requires c =
    let w = position-within _ _ _ (sym c.in-Some-read_position.ensures) in
    (c.if-reference-gt-REFERENCE_LIMIT.false, rw c.before_residue.ensures (omega (arith, w.high)))

pub returns : goal.returns
returns c =
    let f = columns-found _ _ (sym c.in-Some.ensures) in
    let ref = c.extent_of-given.ensures ∙ sym f.reference.piece in
    let pos = c.extent_of.ensures ∙ sym f.pos.piece in
    rw (c.compare_ref.ensures, c.before_residue.ensures, ref)
    (sited-compared _ _ c.if-reference-gt-REFERENCE_LIMIT.false (columns-enough _ f)
    (rw ref at (sym c.is_lettered.ensures ∙ c.if-not-is_lettered.false))
    _ (rw pos at (sym c.in-Some-read_position.ensures)) _ f.third)
