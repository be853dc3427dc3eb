-- Document 01, "Entry": how a normal form is found, what its entry is answered, and what it leaves.
use Rattle.std.specs.Prelude.{ℕ, ◌+◌, List, Option, Some, None}
use Rattle.normal_form.specs.Form.{Normal}
use Rattle.moved.specs.declared.Moved.{Moved}
use Rattle.image.specs.Fields.{issued, active, inactive}
use Rattle.lookup.specs.Lookup.{lowest_holding}
use Rattle.changes.specs.Changes.{numbered, reentered}
use Rattle.form_entry.specs.declared.Entered.{Entered}
use Rattle.form_entry.specs.declared.Way.{Way}
use Rattle.form_entry.specs.declared.Way.TheVariants.{New, Again, Known}

-- how a form is found, and the number that it has
infix 50 ◌under◌
pub data Found : Type 0 where
  ◌under◌ : Way → ℕ → Found

-- by the active number that has it, and the inactive one
abbrev pub found_by : ℕ → Option ℕ → Option ℕ → Found
found_by next (Some i) o = Known under i
found_by next None (Some i) = Again under i
found_by next None None = New under next

-- the lowest active number, else the lowest inactive, else the next
unfoldable pub found : List ℕ → Normal → Found
found b f = found_by (issued b + 1) (lowest_holding b active f) (lowest_holding b inactive f)

-- what an accepted entry answers, of a form that moved so far
abbrev pub answer_of : Found → Moved → Entered
answer_of (w under i) m = record { found = w; number = i; moved = m }

-- and leaves
abbrev pub entered : List ℕ → Normal → Found → List ℕ
entered b f (New under i) = numbered b f
entered b f (Again under i) = reentered b i
entered b f (Known under i) = b
