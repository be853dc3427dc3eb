-- The answers of the calls as C reads them, and what every export promises: what the call below it answers, flattened.
use Rattle.std.specs.Prelude.{ℕ, ◌≡◌, Result, Ok, Err}
use Rattle.refusal.specs.declared.Refusal.{Refusal}
use Rattle.refusal.specs.Numbers.{number_of}
use Rattle.normal_form.specs.declared.Kind.{Kind}
use Rattle.normal_form.specs.declared.Kind.TheVariants.{Unchanged, Substitution, Indel}
use Rattle.normal_form_calls.specs.declared.Formed.{Formed}
use Rattle.moved.specs.Moved.{still}
use Rattle.allele_identifier.specs.declared.Identified.{Identified}
use Rattle.text_reader.specs.declared.LocationParts.{LocationParts}
use Rattle.text_reader.specs.declared.AlleleParts.{AlleleParts}
use Rattle.image.specs.Statuses.{code_of}
use Rattle.form_entry.specs.declared.Entered.{Entered}
use Rattle.form_entry.specs.declared.Way.{Way}
use Rattle.form_entry.specs.declared.Way.TheVariants.{New, Again, Known}
use Rattle.record_reader.specs.declared.Record.{Record}
use Rattle.c_answers.specs.declared.FvAllele.{FvAllele}
use Rattle.c_answers.specs.declared.FvCounted.{FvCounted}
use Rattle.c_answers.specs.declared.FvEntered.{FvEntered}
use Rattle.c_answers.specs.declared.FvForm.{FvForm}
use Rattle.c_answers.specs.declared.FvIdentified.{FvIdentified}
use Rattle.c_answers.specs.declared.FvLocation.{FvLocation}
use Rattle.c_answers.specs.declared.FvOutcome.{FvOutcome}
use Rattle.c_answers.specs.declared.FvRecord.{FvRecord}
use Rattle.c_answers.specs.declared.FvUndone.{FvUndone}
use Rattle.c_answers.specs.declared.FvWritten.{FvWritten}

-- document 01's number and value of a refusal, 0 for an accepted answer; and what that answers, 0 for a refusal
abbrev pub flat_written : Result ℕ Refusal → FvWritten
flat_written (Ok n) = record { refusal = 0; value = 0; length = n }
flat_written (Err r) = record { refusal = number_of r.reason; value = r.value; length = 0 }

abbrev pub flat_identified : Result Identified Refusal → FvIdentified
flat_identified (Ok i) = record { refusal = 0; value = 0; length = i.length; moved = i.moved }
flat_identified (Err r) = record { refusal = number_of r.reason; value = r.value; length = 0; moved = still }

abbrev pub flat_kind : Kind → ℕ
flat_kind Unchanged = 0
flat_kind Substitution = 1
flat_kind Indel = 2

abbrev pub flat_form : Result Formed Refusal → FvForm
flat_form (Ok f) =
    record {
      refusal = 0;
      value = 0;
      kind = flat_kind f.form.kind;
      start = f.form.start;
      end = f.form.end;
      length = f.form.length;
      moved = f.moved;
    }
flat_form (Err r) =
    record { refusal = number_of r.reason; value = r.value; kind = 0; start = 0; end = 0; length = 0; moved = still }

abbrev pub flat_location : Result LocationParts Refusal → FvLocation
flat_location (Ok p) = record { refusal = 0; value = 0; start = p.start; end = p.end; digest = p.digest }
flat_location (Err r) = record { refusal = number_of r.reason; value = r.value; start = 0; end = 0; digest = 0 }

abbrev pub flat_allele : Result AlleleParts Refusal → FvAllele
flat_allele (Ok p) =
    record { refusal = 0; value = 0; location = p.location; sequence = p.sequence; length = p.length }
flat_allele (Err r) =
    record { refusal = number_of r.reason; value = r.value; location = 0; sequence = 0; length = 0 }

abbrev pub flat_counted : Result ℕ Refusal → FvCounted
flat_counted (Ok n) = record { refusal = 0; value = 0; count = n }
flat_counted (Err r) = record { refusal = number_of r.reason; value = r.value; count = 0 }

abbrev pub flat_outcome : Result (Unit {0}) Refusal → FvOutcome
flat_outcome (Ok u) = record { refusal = 0; value = 0 }
flat_outcome (Err r) = record { refusal = number_of r.reason; value = r.value }

-- 1 new, 2 again, 3 known
abbrev pub flat_way : Way → ℕ
flat_way New = 1
flat_way Again = 2
flat_way Known = 3

abbrev pub flat_entered : Result Entered Refusal → FvEntered
flat_entered (Ok e) =
    record { refusal = 0; value = 0; answer = flat_way e.found; number = e.number; moved = e.moved }
flat_entered (Err r) =
    record { refusal = number_of r.reason; value = r.value; answer = 0; number = 0; moved = still }

abbrev pub flat_record : Result Record Refusal → FvRecord
flat_record (Ok p) =
    record {
      refusal = 0;
      value = 0;
      start = p.start;
      end = p.end;
      status = code_of p.status;
      offset = p.offset;
      length = p.length;
    }
flat_record (Err r) =
    record { refusal = number_of r.reason; value = r.value; start = 0; end = 0; status = 0; offset = 0; length = 0 }

abbrev pub flat_undone : Result ℕ Refusal → FvUndone
flat_undone (Ok i) = record { refusal = 0; value = 0; number = i }
flat_undone (Err r) = record { refusal = number_of r.reason; value = r.value; number = 0 }

-- an answer that keeps the promise of the call below, flattened
pub record Flattened {A B : Type 0} (flatten : A → B) (Promise : A → Type 0) (answer : B) : Type 0 where
  pub below : A
  pub flat : answer ≡ flatten below
  pub promised : Promise below
