-- What an accepted reading tells: an interval of the reference, a status, and a stretch of the image that is the
-- number's replacement.
use Prim.Native.Nat.{ℕ, zero, suc, ◌+◌, ◌≤◌}
use native.Mathlib.Nat.{not-suc-le-zero}
use native.Mathlib.Omega.{arith}
use mathlib.Core.Path.{◌≡◌, refl}
use mathlib.Core.Bool.{true}
use mathlib.Core.List.{List}
use lib.ListN.{length}
use Rattle.stretch.specs.Part.{part}
use Rattle.stretch.specs.Class.{every}
use Rattle.refusal.specs.Verdict.{accepted, verdict}
use Rattle.alphabets.specs.Alphabets.{residue}
use Rattle.image.specs.Fields.{reference_length, active, replacement_of, status_of}
use Rattle.image.specs.Statuses.{code_of}
use Rattle.image.proofs.WellFormed.{well_formed-formed}
use Rattle.image.proofs.Lengths.{formed-inside}
use Rattle.image.proofs.Coded.{status-coded}
use Rattle.record_reader.specs.declared.Record.{Record}
use Rattle.record_reader.specs.Calls.{number_grounds, record_at}
use Rattle.record_reader.proofs.Issued.{Issued, accepted-issued}

-- the bytes of an image that a record points to
abbrev pub stretch_of : List ℕ → Record → List ℕ
stretch_of b r = part b r.offset (r.offset + r.length)

pub record-replacement : (b : List ℕ) (i : ℕ) → stretch_of b (record_at b i) ≡ replacement_of b i
unfolding replacement_of
record-replacement b i = refl

pub record Told (b : List ℕ) (i : ℕ) (r : Record) : Type 0 where
  pub ordered : r.start ≤ r.end
  pub inside : r.end ≤ reference_length b
  pub status : code_of r.status ≡ status_of b i
  pub known : status_of b i ≤ active
  pub lies : r.offset + r.length ≤ length b
  pub residues : every residue (stretch_of b r) ≡ true

issued-told : (b : List ℕ) (i : ℕ) → Issued b i → Told b i (record_at b i)
unfolding replacement_of
issued-told b zero k = absurd (not-suc-le-zero k.from)
issued-told b (suc j) k =
    let f = well_formed-formed b k.formed in
    let good = f.records j k.to in
    record {
      ordered = good.ordered;
      inside = good.inside;
      status = status-coded _ good.status;
      known = good.status;
      lies = omega (arith, formed-inside b f (suc j) k.from k.to, f.header.used, f.header.whole);
      residues = good.residues;
    }

pub read_told : (b : List ℕ) (i : ℕ) → verdict (number_grounds b i) ≡ accepted → Told b i (record_at b i)
read_told b i v = issued-told b i (accepted-issued b i v)
