-- A blank image is well formed.
use Prim.Native.Nat.{ℕ, ◌+◌, ◌≤◌}
use native.Mathlib.Nat.{not-suc-le-zero}
use native.Mathlib.Omega.{arith}
use mathlib.Core.Path.{◌≡◌, ◌∙◌, sym, ap}
use mathlib.Core.Bool.{true}
use mathlib.Core.List.{List}
use lib.ListN.{length}
use Rattle.refusal.specs.Limits.{reference_limit}
use Rattle.stretch.specs.Class.{every}
use Rattle.alphabets.specs.Alphabets.{base64url}
use Rattle.image.specs.Fields.{count_limit, pool_limit, pool_place, issued, pool_used, journal_place}
use Rattle.image.specs.Formed.{lengths, well_formed}
use Rattle.image.specs.Header.{Header}
use Rattle.image.proofs.Arranged.{header-journal, journal-pool}
use Rattle.image.proofs.WellFormed.{Formed, well-formed}
use Rattle.changes.specs.Changes.{blanked}
use Rattle.blank.proofs.BlankTests.{Blankable}
use Rattle.effects.proofs.Seen.{Fresh}
use Rattle.effects.proofs.Blanked.{blanked-seen}

module _ (room n : ℕ) (d : List ℕ) (r j p : ℕ) (c : List ℕ) (f : Fresh room n d r j p c) where
  blank-header : n ≤ reference_limit → r ≤ count_limit → j ≤ count_limit → p ≤ pool_limit → pool_place r j + p ≤ room
      → Header c
  blank-header reference records journal pool fits =
      record {
        journal = f.journal-at ∙ ap journal_place (sym f.records);
        after-header = omega (arith, f.journal-at, header-journal r);
        pool = omega (arith, f.pool-at, f.journal-at, f.journal, journal-pool r j);
        records = omega (arith, f.numbers);
        journalled = omega (arith, f.count);
        used = omega (arith, f.used);
        records-limit = omega (arith, f.records);
        journal-limit = omega (arith, f.journal);
        pool-limit = omega (arith, f.pool);
        reference-limit = omega (arith, f.reference);
        whole = omega (arith, f.pool-at, f.pool, f.long);
      }

  lengths_none : lengths c (issued c) ≡ pool_used c
  unfolding lengths
  lengths_none = rw (f.numbers, f.used)

  pub fresh-formed : n ≤ reference_limit → r ≤ count_limit → j ≤ count_limit → p ≤ pool_limit → every base64url d ≡ true
      → pool_place r j + p ≤ room
      → well_formed c ≡ true
  fresh-formed reference records journal pool residues fits =
      let image : Formed c
      = record {
        header = blank-header reference records journal pool fits;
        edition = f.edition;
        records-at = f.records-at;
        digest = rw f.digest residues;
        records = λ k l. absurd (not-suc-le-zero (rw f.numbers at l));
        used = lengths_none;
        entries = λ k l. omega (arith, f.count);
      } in
      well-formed c image

-- by what the tests of a blank tell
module _ (b : List ℕ) (n : ℕ) (d : List ℕ) (r j p : ℕ) (k : Blankable (length b) n d r j p) where
  pub blankable-seen : Fresh (length b) n d r j p (blanked b n d r j p)
  blankable-seen =
      blanked-seen b n d r j p k.long k.records-limit k.journal-limit k.pool-limit k.reference k.fits

  pub blankable-formed : well_formed (blanked b n d r j p) ≡ true
  blankable-formed =
      fresh-formed (length b) n d r j p (blanked b n d r j p) blankable-seen
      k.reference k.records-limit k.journal-limit k.pool-limit k.characters k.fits
