-- Document 01's example of the line program, with the four numbers of document 02, Q-5; and one with Q-2's stops and
-- gaps: gained, lost, rolled over a stop, put in, and the empty replacement beside them.
use mathlib.Core.Path.{◌≡◌, refl}
use Rattle.stretch.specs.Ascii.{ascii}
use Rattle.stretch.specs.Common.{lcp, lcs}
use Rattle.stretch.specs.Same.{same}
use Rattle.stretch.specs.Class.{first_outside}
use Rattle.alphabets.specs.Alphabets.{letter, residue}
use Rattle.normal_form.specs.Form.{altered, shorter, within, ahead, behind, kind_in, kind_of, changed_form, normal}
use Rattle.moved.specs.Moved.{moved_by}
use Rattle.normal_form_calls.specs.Calls.{form_grounds}
use Rattle.decimals.specs.Decimal.{decimal_in, enough, decimal}
use Rattle.decimals.specs.Number.{value_from, value, number_within, number_of}
use Rattle.fields.specs.Cut.{parted}
use Rattle.input_line.specs.Meaning.{replacement_of, meaning_of}
use Rattle.answer_line.specs.Answers.{answer_line}
use Rattle.lines.specs.Output.{output}

pub worked-output :
    (output (ascii "TCAGCAGCAGT\n4 4 CAG\n2 2 .\n9 4 A\n")
    ≡ ascii "1 10 indel CAGCAGCAGCAG 3 0 6 0\n2 2 unchanged . 0 0 0 0\nrefused 2\n")
    × (output (ascii "MKR*\n1 2 *\n3 4 .\n4 4 *\n2 2 -\n2 2 +\n")
    ≡ ascii "1 2 substitution * 0 0 0 0\n3 4 indel . 0 0 0 0\n3 4 indel ** 1 0 0 0\n2 2 indel - 0 0 0 0\nrefused 4\n")
unfolding output answer_line parted meaning_of replacement_of same number_of number_within value value_from decimal
    enough
    decimal_in form_grounds residue letter first_outside normal altered changed_form kind_of kind_in ahead behind within
    shorter lcp lcs moved_by
worked-output = (refl, refl)
