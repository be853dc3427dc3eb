-- The tests of well-formedness in the order of the code, and what the header's say where they pass.
use Prim.Native.Nat.{ℕ}
use native.Mathlib.Omega.{arith}
use mathlib.Core.Path.{◌≡◌}
use mathlib.Core.Bool.{Bool, true, false, cond}
use mathlib.Core.List.{List, [], ◌∷◌}
use lib.Dec.{leb, eqb}
use lib.ListN.{length}
use borrow.Author.Tests.{leb-true, eqb-true}
use Rattle.stretch.specs.Below.{below}
use Rattle.stretch.specs.Class.{every}
use Rattle.alphabets.specs.Alphabets.{base64url}
use Rattle.image.specs.Fields.{header_size, edition, issued, journal_count, pool_used, sequence_digest, first_edition}
use Rattle.image.specs.Fields.{records_offset, pool_offset, journal_place, pool_place, record_capacity}
use Rattle.image.specs.Fields.{journal_capacity, journal_offset}
use Rattle.image.specs.Formed.{laid_out, counts_within, within_limits, lengths, record_good, entry_good, well_formed}
use Rattle.image.specs.Formed.{header_formed}
use Rattle.image.specs.Header.{Header}
use Rattle.image.proofs.Arranged.{header-journal, journal-pool}
use Rattle.image.proofs.Tests.{all_append, all_one, cond_both, cond-last}

abbrev record_tests : List ℕ → List Bool
record_tests b = below (record_good b) (issued b) ∷ eqb (lengths b (issued b)) (pool_used b) ∷ []

-- the tests in the order of the code: the header, the records and their residues, the journal
pub formed-steps : (b : List ℕ)
    → well_formed b
    ≡ cond (header_formed b)
    (cond (cond (below (record_good b) (issued b)) (eqb (lengths b (issued b)) (pool_used b)) false)
    (below (entry_good b) (journal_count b)) false)
    false
unfolding well_formed
formed-steps b =
    let entries = below (entry_good b) (journal_count b) in
    rw (all_append (record_tests b) (entries ∷ []))
    (rw (all_one entries, all_one (eqb (lengths b (issued b)) (pool_used b))))

pub header-tested : (b : List ℕ) → header_formed b ≡ true → Header b
unfolding header_formed laid_out counts_within within_limits
header-tested b h =
    let laid = cond_both (laid_out b) _ (cond_both (leb header_size (length b)) _ h).1 in
    let counts = cond_both _ _ laid.1 in
    let limits = cond_both _ _ counts.1 in
    let digest = cond_both (every base64url (sequence_digest b)) _ limits.1 in
    let edition-first = cond_both (eqb (edition b) first_edition) _ laid.0 in
    let records-at = cond_both (eqb (records_offset b) header_size) _ edition-first.1 in
    let journal-at = cond_both _ _ records-at.1 in
    let pool : pool_offset b ≡ pool_place (record_capacity b) (journal_capacity b)
    = eqb-true _ _ (cond-last _ journal-at.1) in
    let at = eqb-true (journal_offset b) (journal_place (record_capacity b)) journal-at.0 in
    let records = cond_both _ _ counts.0 in
    let journalled = cond_both _ _ records.1 in
    let records-limit = cond_both _ _ limits.0 in
    let journal-limit = cond_both _ _ records-limit.1 in
    let pool-limit = cond_both _ _ journal-limit.1 in
    record {
      journal = at;
      after-header = omega (arith, at, header-journal (record_capacity b));
      pool = omega (arith, at, pool, journal-pool (record_capacity b) (journal_capacity b));
      records = leb-true _ _ records.0;
      journalled = leb-true _ _ journalled.0;
      used = leb-true _ _ (cond-last _ journalled.1);
      records-limit = leb-true _ _ records-limit.0;
      journal-limit = leb-true _ _ journal-limit.0;
      pool-limit = leb-true _ _ pool-limit.0;
      reference-limit = leb-true _ _ (cond-last _ pool-limit.1);
      whole = leb-true _ _ (cond-last _ digest.1);
    }
