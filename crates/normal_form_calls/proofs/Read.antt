-- A replacement that is read: its stretches lie where those of the replacement as given do.
use Prim.Native.Nat.{ℕ}
use mathlib.Core.Path.{◌≡◌}
use mathlib.Core.List.{List, map}
use lib.ListN.{length-map}
use Rattle.std.proofs.lemmas.List.{take-map, drop-map}
use Rattle.stretch.specs.Part.{part}
use Rattle.normal_form.specs.declared.Stretches.{Stretches}
use Rattle.normal_form.specs.Stretches.{Fits}

module _ (reads : ℕ → ℕ) (x : List ℕ) where
  pub read-part : (from to : ℕ) → map reads (part x from to) ≡ part (map reads x) from to
  read-part from to = simp (take-map, drop-map)

  pub read-fits : (r : List ℕ) (w : Stretches) → Fits r (map reads x) w → Fits r x w
  read-fits r w f =
      record {
        allele =
            record {
              ordered = f.allele.ordered;
              inside = f.allele.inside;
              reference = f.allele.reference;
              replacement = rw (length-map x reads) at f.allele.replacement;
            };
        before = f.before;
        ordered = f.ordered;
        kept = rw (length-map x reads) at f.kept;
        after = f.after;
        inside = f.inside;
      }
