-- The worked alleles: each has the normal form that the table gives it.
use mathlib.Core.Path.{◌≡◌, refl}
use mathlib.Core.List.{map}
use Rattle.stretch.specs.Common.{lcp, lcs}
use Rattle.stretch.specs.Same.{same}
use Rattle.normal_form.specs.Form.{Normal, altered, shorter, within, ahead, behind, kind_in, kind_of, changed_form}
use Rattle.normal_form.specs.Form.{normal}
use Rattle.normal_form.specs.Steps.{Justified, begun, less_suffix, less_prefix, rolled, roll_left, roll_right}
use Rattle.normal_form.specs.Steps.{extended, rolled_out, settled, trimmed, justified, placed}
use Rattle.normal_form.specs.Worked.{Case, cases, source_case}

abbrev pub formed : Case → Normal
formed c = normal c.reference c.start c.end c.replacement

abbrev pub stepped : Case → Justified
stepped c = justified c.reference c.start c.end c.replacement

pub worked-normal : map formed cases ≡ map (λ (c : Case). c.answer) cases
unfolding lcp lcs same altered shorter within ahead behind kind_in kind_of changed_form normal
worked-normal = refl

-- the source's example, by the definition and by the source's own steps
pub worked-source : formed source_case ≡ source_case.answer
unfolding lcp lcs same altered shorter within ahead behind kind_in kind_of changed_form normal
worked-source = refl

pub worked-steps : stepped source_case ≡ placed source_case.answer
unfolding lcp lcs begun less_suffix less_prefix rolled roll_left roll_right extended rolled_out settled trimmed
    justified
worked-steps = refl
