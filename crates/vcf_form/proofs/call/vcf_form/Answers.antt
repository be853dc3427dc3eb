-- What the site and the alternate tell is what the line does; a refusal is handed on.
use Rattle.refusal.proofs.HandedOn.{handed_on}
use Rattle.vcf_line.proofs.Answers.{site-alternates}
use Rattle.vcf_form.proofs.Named.{site-letters, site-named, site-formed, site-unformed}
use Rattle.vcf_form.proofs.call.vcf_form.Goals as goal

pub returns-in_err-site : goal.returns-in_err-site
returns-in_err-site c =
    rw (handed_on _ _ c.from_residual.ensures.1) (site-unformed _ _ _ _ _ _ c.in_err-site.ensures)

pub extent_of-requires : goal.extent_of-requires
extent_of-requires c =
    let l = site-alternates _ _ _ c.in_ok-site.ensures in
    (l.ordered, l.inside)

pub form_named-requires : goal.form_named-requires
form_named-requires c =
    site-letters _ _ _ c.in_ok-site.ensures

pub returns : goal.returns
returns c =
    let e = c.in_ok-site.ensures in
    let k = c.args.alternate in
    let named = site-named _ _ _ e k _ _ c.extent_of.ensures c.alternate_of-named.ensures in
    site-formed _ _ _ e k _ _ _ _ _ named c.form_named.ensures
