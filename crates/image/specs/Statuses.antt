-- The statuses as an image's records have them.
use Rattle.std.specs.Prelude.{ℕ, cond, eqb}
use Rattle.image.specs.declared.status.Status.{Status}
use Rattle.image.specs.declared.status.Status.TheVariants.{Inactive, Active}
use Rattle.image.specs.Fields.{inactive, active}

abbrev pub code_of : Status → ℕ
code_of Inactive = inactive
code_of Active = active

-- of the number that a record holds; a well-formed image holds no third one
unfoldable pub status_from : ℕ → Status
status_from n = cond (eqb n active) Active Inactive
