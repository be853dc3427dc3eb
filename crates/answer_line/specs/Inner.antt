-- What the code's inner functions promise each other.
use Rattle.std.specs.Prelude.{ℕ, cond, List, [], ◌∷◌, ◌++◌, eqb}
use Rattle.stretch.specs.Ascii.{ascii}
use Rattle.normal_form.specs.declared.Kind.{Kind}
use Rattle.decimals.specs.Decimal.{decimal}
use Rattle.input_line.specs.Meaning.{space, line_feed}
use Rattle.answer_line.specs.Answers.{word, spaced}

-- a form's front up to its replacement, what ends it before so many residues, and a refusal's line
abbrev pub head : ℕ → ℕ → Kind → List ℕ → List ℕ
head start end kind behind = decimal start ++ (spaced end ++ ((space ∷ word kind) ++ behind))

abbrev pub stop : ℕ → List ℕ
stop residues = cond (eqb residues 0) (ascii " .") (ascii " ")

abbrev pub refused_line : ℕ → List ℕ
refused_line number = (ascii "refused " ++ decimal number) ++ (line_feed ∷ [])
