-- The normal replacement as three stretches: of the reference before the start given, of the replacement given, of the
-- reference from the end given on.
use Rattle.std.specs.Prelude.{ℕ, ◌+◌, ◌-◌, ◌^◌, ◌<◌, ◌≤◌, min, max, cond, List, ◌++◌, length}
use Rattle.stretch.specs.Part.{part}
use Rattle.stretch.specs.Same.{same}
use Rattle.normal_form.specs.declared.Kind.TheVariants.{Unchanged}
use Rattle.normal_form.specs.declared.Outline.{Outline}
use Rattle.normal_form.specs.declared.Stretches.{Stretches}
use Rattle.normal_form.specs.Form.{Allele, Normal, altered, outline}

-- stretches that lie within the reference and the replacement, on their sides of the spot given; a clause and no type's
-- fact, since the laws compute with the stretches alone, and the replacement is read in two ways
pub record Fits (r x : List ℕ) (w : Stretches) : Type 0 where
  pub allele : Allele r w.given.start w.given.end x
  pub before : w.left ≤ w.given.start
  pub ordered : w.from ≤ w.to
  pub kept : w.to ≤ length x
  pub after : w.given.end ≤ w.right
  pub inside : w.right ≤ length r

-- the three
abbrev pub reference_before : List ℕ → Stretches → List ℕ
reference_before r w = part r w.left w.given.start

abbrev pub replacement_kept : List ℕ → Stretches → List ℕ
replacement_kept x w = part x w.from w.to

abbrev pub reference_after : List ℕ → Stretches → List ℕ
reference_after r w = part r w.given.end w.right

-- they as one text, and its length
unfoldable pub joined : List ℕ → List ℕ → Stretches → List ℕ
joined r x w = reference_before r w ++ (replacement_kept x w ++ reference_after r w)

abbrev pub joined_length : Stretches → ℕ
joined_length w = w.given.start - w.left + (w.to - w.from) + (w.right - w.given.end)

-- stretches that can be counted: none ends before it begins, and a machine word holds their length
pub record Countable (w : Stretches) : Type 0 where
  pub before : w.left ≤ w.given.start
  pub ordered : w.from ≤ w.to
  pub after : w.given.end ≤ w.right
  pub short : joined_length w < 2 ^ 64

-- the stretches of a form of that outline, on a reference of length n, of a replacement of so many residues given
unfoldable pub spread : Outline → ℕ → ℕ → ℕ → ℕ → Stretches
spread o n given start end =
    record {
      kind = o.kind;
      start = o.a;
      end = n - o.b;
      given = record { start = start; end = end };
      left = min o.a start;
      from = o.a - start;
      to = given - (o.b - (n - end));
      right = max (n - o.b) end;
    }

-- those of a changed allele, whose altered sequence is t
unfoldable pub changed_stretches : List ℕ → ℕ → ℕ → List ℕ → List ℕ → Stretches
changed_stretches r start end x t = spread (outline r t) (length r) (length x) start end

-- those of an unchanged one: all of the replacement given, and nothing of the reference
unfoldable pub as_given : ℕ → ℕ → ℕ → Stretches
as_given start end given =
    record {
      kind = Unchanged;
      start = start;
      end = end;
      given = record { start = start; end = end };
      left = start;
      from = 0;
      to = given;
      right = end;
    }

-- those of an allele, changed or not
unfoldable pub stretches_of : List ℕ → ℕ → ℕ → List ℕ → Stretches
stretches_of r start end x =
    cond (same r (altered r start end x)) (as_given start end (length x))
    (changed_stretches r start end x (altered r start end x))

-- the normal form that the stretches hold
abbrev pub form_in : List ℕ → List ℕ → Stretches → Normal
form_in r x w = record { kind = w.kind; start = w.start; end = w.end; replacement = joined r x w }
