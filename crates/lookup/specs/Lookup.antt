-- Document 01, "Entry": how a normal form is found among the records.
use Rattle.std.specs.Prelude.{ℕ, zero, suc, Bool, cond, List, [], ◌∷◌, eqb, Option, Some, None}
use Rattle.std.specs.Option.{option_or}
use Rattle.stretch.specs.Same.{same}
use Rattle.normal_form.specs.Form.{Normal}
use Rattle.normal_form_calls.specs.declared.Form.{Form}
use Rattle.image.specs.Fields.{issued, start_of, end_of, status_of, replacement_of}
use Rattle.image.specs.Formed.{all}

-- the form that is asked for: its numbers, and its replacement
abbrev pub asked : Form → List ℕ → Normal
asked f x = record { kind = f.kind; start = f.start; end = f.end; replacement = x }

-- record i has this status, and the form's start, end and replacement
unfoldable pub holds : List ℕ → ℕ → Normal → ℕ → Bool
holds b status f i =
    all (
    eqb (status_of b i) status
    ∷ eqb (start_of b i) f.start
    ∷ eqb (end_of b i) f.end
    ∷ same (replacement_of b i) f.replacement
    ∷ []
    )

-- the lowest number from 1 up to k that passes a test
unfoldable pub lowest : (ℕ → Bool) → ℕ → Option ℕ
lowest test zero = None
lowest test (suc k) = option_or (lowest test k) (cond (test (suc k)) (Some (suc k)) None)

-- the lowest number of that status that holds the form
unfoldable pub lowest_holding : List ℕ → ℕ → Normal → Option ℕ
lowest_holding b status f = lowest (holds b status f) (issued b)
