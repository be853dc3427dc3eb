-- What is read under a number is what demand 3 says that the number stands for.
use Prim.Native.Nat.{ℕ}
use mathlib.Core.Path.{◌≡◌}
use mathlib.Core.Bool.{true}
use mathlib.Core.List.{List}
use Rattle.normal_form.specs.Form.{altered}
use Rattle.image.specs.Formed.{well_formed}
use Rattle.std.specs.Prelude.{Ok}
use Rattle.record_reader.specs.Calls.{record_at, record_read}
use Rattle.record_reader.proofs.Issued.{issued-accepted}
use Rattle.record_reader.proofs.Told.{stretch_of, record-replacement}
use Rattle.history.specs.Demand.{Live, sequence_of}

-- every number issued is read, with the altered sequence that it stands for
pub live-read : (b : List ℕ) → well_formed b ≡ true → (i : ℕ) → Live b i → record_read b i ≡ Ok (record_at b i)
live-read b formed i l =
    rw (issued-accepted b i (record { formed = formed; from = l.from; to = l.to }))

pub read-sequence : (r b : List ℕ) (i : ℕ)
    → altered r (record_at b i).start (record_at b i).end (stretch_of b (record_at b i)) ≡ sequence_of r b i
read-sequence r b i = rw (record-replacement b i)
