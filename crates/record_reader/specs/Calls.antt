-- What the calls answer that read an image: the grounds of each in document 01's order, and what an accepted one tells.
use Rattle.std.specs.Prelude.{ℕ, ◌+◌, List, [], ◌∷◌, Result}
use Rattle.refusal.specs.Verdict.{Ground, verdict, tell}
use Rattle.refusal.specs.declared.Refusal.{Refusal}
use Rattle.image.specs.Fields.{start_of, end_of, status_of, pool_offset, offset_of, length_of}
use Rattle.image.specs.Statuses.{status_from}
use Rattle.changes.specs.Grounds.{not_well_formed, number_zero, number_above_issued}
use Rattle.record_reader.specs.declared.Record.{Record}

-- check: 10
abbrev pub checked : List ℕ → Result (Unit {0}) Refusal
checked b = tell (verdict (not_well_formed b ∷ [])) tt

-- a number that an image has issued: 10, 16
unfoldable pub number_grounds : List ℕ → ℕ → List Ground
number_grounds b i = not_well_formed b ∷ number_zero b i ∷ number_above_issued b i ∷ []

-- the record of number i: its fields, with the replacement's offset from the image's first byte
abbrev pub record_at : List ℕ → ℕ → Record
record_at b i =
    record {
      start = start_of b i;
      end = end_of b i;
      status = status_from (status_of b i);
      offset = pool_offset b + offset_of b i;
      length = length_of b i;
    }

-- record
abbrev pub record_read : List ℕ → ℕ → Result Record Refusal
record_read b i = tell (verdict (number_grounds b i)) (record_at b i)
