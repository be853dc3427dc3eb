-- Document 02, Q-1: what `vcf_form` promises. It is the normal form of the allele that the line names.
use Rattle.std.specs.Prelude.{ℕ, List, ◌∷◌, ◌++◌, length, Result}
use Rattle.refusal.specs.declared.Refusal.{Refusal}
use Rattle.refusal.specs.Verdict.{Ground, verdict}
use Rattle.normal_form.specs.Form.{Normal, normal}
use Rattle.moved.specs.declared.Moved.{Moved}
use Rattle.moved.specs.Moved.{moved_by}
use Rattle.normal_form_calls.specs.declared.Formed.{Formed}
use Rattle.normal_form_calls.specs.Calls.{normal_grounds, Forms}
use Rattle.upper_case.specs.Upper.{folded}
use Rattle.vcf_line.specs.Line.{start_of, end_of, alternates, at_place}
use Rattle.vcf_line.specs.Calls.{no_alternate, line_grounds}

-- what the line names at a place of ALT, from 1, and the replacement that it is read as
abbrev pub named_at : List ℕ → ℕ → List ℕ
named_at line alternate = at_place (alternates line) alternate

abbrev pub replacement_at : List ℕ → ℕ → List ℕ
replacement_at line alternate = folded (named_at line alternate)

-- the normal form of the allele: from start to end, with that replacement
abbrev pub line_form : List ℕ → List ℕ → ℕ → Normal
line_form r line alternate = normal r (start_of line).0 (end_of line).0 (replacement_at line alternate)

-- and how far it moved from that interval
abbrev pub line_moved : List ℕ → List ℕ → ℕ → Moved
line_moved r line alternate = moved_by r (start_of line).0 (end_of line).0 (replacement_at line alternate)

-- 1, 19, 20, 21, then those of the allele: 1, 2, 3, 4, 5, 6
unfoldable pub vcf_grounds : List ℕ → List ℕ → ℕ → ℕ → ℕ → List Ground
vcf_grounds r line alternate room place =
    line_grounds r line
    ++ (no_alternate (named_at line alternate) alternate
    ∷ normal_grounds r (start_of line).0 (end_of line).0 (replacement_at line alternate) room place)

-- what `vcf_form` promises
abbrev pub VcfForms : List ℕ → List ℕ → ℕ → List ℕ → ℕ → Result Formed Refusal → List ℕ → Type 0
VcfForms r line alternate out place =
    Forms (verdict (vcf_grounds r line alternate (length out) place)) (line_form r line alternate)
    (line_moved r line alternate) out place
