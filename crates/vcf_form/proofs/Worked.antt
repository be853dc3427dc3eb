-- The worked lines: each is answered as the table does.
use mathlib.Core.Path.{◌≡◌, refl}
use mathlib.Core.List.{map}
use Rattle.stretch.specs.Class.{every, first_outside}
use Rattle.stretch.specs.Common.{lcp, lcs}
use Rattle.stretch.specs.Same.{same}
use Rattle.alphabets.specs.Alphabets.{letter, residue}
use Rattle.normal_form.specs.Form.{altered, shorter, within, ahead, behind, kind_in, kind_of, changed_form, normal}
use Rattle.moved.specs.Moved.{moved_by}
use Rattle.normal_form_calls.specs.Calls.{form_grounds, normal_grounds}
use Rattle.decimals.specs.Decimal.{decimal_in, enough, decimal}
use Rattle.decimals.specs.Number.{value_from, value, number_within}
use Rattle.fields.specs.Cut.{parted}
use Rattle.upper_case.specs.Upper.{upper, lettered}
use Rattle.vcf_line.specs.Calls.{line_grounds}
use Rattle.vcf_form.specs.Calls.{vcf_grounds}
use Rattle.vcf_form.specs.Worked.{Case, answered, cases}

pub worked-lines : map answered cases ≡ map (λ (c : Case). c.answer) cases
unfolding vcf_grounds line_grounds normal_grounds form_grounds parted upper lettered every first_outside letter residue
    lcp lcs same altered shorter within ahead behind kind_in kind_of changed_form normal moved_by value_from value
    number_within decimal enough decimal_in
worked-lines = refl
