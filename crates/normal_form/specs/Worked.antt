-- Document 01, "Worked alleles": cases 1 to 12, and source document 001's own example (its table 2).
use Rattle.std.specs.Prelude.{ℕ, List, [], ◌∷◌}
use Prim.Native.String.{String}
use Rattle.stretch.specs.Ascii.{ascii}
use Rattle.normal_form.specs.declared.Kind.{Kind}
use Rattle.normal_form.specs.declared.Kind.TheVariants.{Unchanged, Substitution, Indel}
use Rattle.normal_form.specs.Form.{Normal}

-- a reference, an allele on it, and the answer
pub record Case : Type 0 where
  pub reference : List ℕ
  pub start : ℕ
  pub end : ℕ
  pub replacement : List ℕ
  pub answer : Normal

abbrev pub case : String → ℕ → ℕ → String → Normal → Case
case r start end x answer =
    record { reference = ascii r; start = start; end = end; replacement = ascii x; answer = answer }

abbrev pub form : ℕ → ℕ → String → Kind → Normal
form start end x kind = record { kind = kind; start = start; end = end; replacement = ascii x }

-- the table, in its order
abbrev pub cases : List Case
cases =
    case "TCAGCAGCAGT" 4 4 "CAG" (form 1 10 "CAGCAGCAGCAG" Indel)
    ∷ case "TCAGCAGCAGT" 1 2 "CAGC" (form 1 10 "CAGCAGCAGCAG" Indel)
    ∷ case "TCAGCAGCAGT" 1 4 "" (form 1 10 "CAGCAG" Indel)
    ∷ case "TCAGCAGCAGT" 2 3 "T" (form 2 3 "T" Substitution)
    ∷ case "TCAGCAGCAGT" 1 5 "CTGC" (form 2 3 "T" Substitution)
    ∷ case "TCAGCAGCAGT" 3 5 "TTT" (form 3 5 "TTT" Substitution)
    ∷ case "TCAGCAGCAGT" 0 0 "T" (form 0 1 "TT" Indel)
    ∷ case "TCAGCAGCAGT" 11 11 "A" (form 11 11 "A" Indel)
    ∷ case "TCAGCAGCAGT" 0 11 "" (form 0 11 "" Indel)
    ∷ case "TCAGCAGCAGT" 1 4 "CAG" (form 1 4 "CAG" Unchanged)
    ∷ case "TCAGCAGCAGT" 2 2 "" (form 2 2 "" Unchanged)
    ∷ case "" 0 0 "ACGT" (form 0 0 "ACGT" Indel)
    ∷ []

abbrev pub source_case : Case
source_case = case "TCAGCAGCT" 4 6 "CAGCA" (form 1 8 "CAGCAGCAGC" Indel)
