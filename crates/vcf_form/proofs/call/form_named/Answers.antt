-- 21, 1, or what is laid.
use mathlib.Core.Path.{◌∙◌, sym}
use Rattle.vcf_form.proofs.Passed.{named-allele, found-fits}
use Rattle.vcf_form.proofs.Named.{named-unlettered, named-long, named-formed}
use Rattle.vcf_form.proofs.call.form_named.Goals as goal

pub returns-then-not-is_lettered : goal.returns-then-not-is_lettered
returns-then-not-is_lettered c = rw c.refuse.ensures
    (named-unlettered _ _ _ _ _ _ _
    (sym c.is_lettered.ensures ∙ c.if-not-is_lettered.true))

pub returns-then-named-gt-REPLACEMENT_LIMIT : goal.returns-then-named-gt-REPLACEMENT_LIMIT
returns-then-named-gt-REPLACEMENT_LIMIT c =
    rw c.refuse-then-named-gt-REPLACEMENT_LIMIT.ensures
    (named-long _ _ _ _ _ _ _ c.requires (sym c.is_lettered.ensures ∙ c.if-not-is_lettered.false)
    c.if-named-gt-REPLACEMENT_LIMIT.true)

pub normalise_read-w-requires : goal.normalise_read-w-requires
normalise_read-w-requires c =
    named-allele _ _ _ _ c.requires (sym c.is_lettered.ensures ∙ c.if-not-is_lettered.false)
    c.if-named-gt-REPLACEMENT_LIMIT.false

pub lay_form-requires : goal.lay_form-requires
lay_form-requires c =
    let allele = named-allele _ _ _ _ c.requires (sym c.is_lettered.ensures ∙ c.if-not-is_lettered.false)
    c.if-named-gt-REPLACEMENT_LIMIT.false in
    found-fits _ _ _ _ _ allele c.normalise_read-w.ensures

pub returns : goal.returns
returns c =
    named-formed _ _ _ _ _ _ _ c.requires (sym c.is_lettered.ensures ∙ c.if-not-is_lettered.false)
    c.if-named-gt-REPLACEMENT_LIMIT.false _ _ (rw c.normalise_read-w.ensures at c.lay_form.ensures)
