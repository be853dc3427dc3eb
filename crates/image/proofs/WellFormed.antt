-- What the test of a well-formed image tells of its fields, and what its fields tell of the test.
use Prim.Native.Nat.{ℕ, suc, ◌<◌, ◌≤◌}
use native.Mathlib.Omega.{arith}
use mathlib.Core.Path.{◌≡◌}
use mathlib.Core.Bool.{true}
use mathlib.Core.List.{List}
use lib.Dec.{leb}
use lib.ListN.{length}
use borrow.Author.Tests.{leb-true, le-leb, eqb-true, eq-eqb}
use Rattle.stretch.proofs.Below.{below_at, below_all}
use Rattle.stretch.specs.Class.{every}
use Rattle.alphabets.specs.Alphabets.{residue, base64url}
use Rattle.image.specs.Fields.{header_size, edition, issued, journal_count, pool_used, reference_length}
use Rattle.image.specs.Fields.{sequence_digest, start_of, end_of, offset_of, status_of, replacement_of, entry_of}
use Rattle.image.specs.Fields.{first_edition, active, records_offset, pool_place, record_capacity, journal_capacity}
use Rattle.image.specs.Fields.{pool_offset}
use Rattle.image.specs.Formed.{laid_out, counts_within, within_limits, lengths, record_good, entry_good, well_formed}
use Rattle.image.specs.Formed.{header_formed}
use Rattle.image.specs.Header.{Header}
use Rattle.image.proofs.Arranged.{journal-pool}
use Rattle.image.proofs.Tests.{cond_both, cond-last}
use Rattle.image.proofs.Tested.{formed-steps, header-tested}

-- the record after the first k
pub record FormedRecord (b : List ℕ) (k : ℕ) : Type 0 where
  pub ordered : start_of b (suc k) ≤ end_of b (suc k)
  pub inside : end_of b (suc k) ≤ reference_length b
  pub status : status_of b (suc k) ≤ active
  pub offset : offset_of b (suc k) ≡ lengths b k
  pub residues : every residue (replacement_of b (suc k)) ≡ true

-- journal entry j
pub record FormedEntry (b : List ℕ) (j : ℕ) : Type 0 where
  pub some : 1 ≤ entry_of b j
  pub numbered : entry_of b j ≤ issued b

-- the tests of a well-formed image as facts: that it holds a header follows from the place of its pool
pub record Formed (b : List ℕ) : Type 0 where
  pub header : Header b
  pub edition : edition b ≡ first_edition
  pub records-at : records_offset b ≡ header_size
  pub digest : every base64url (sequence_digest b) ≡ true
  pub records : (k : ℕ) → k < issued b → FormedRecord b k
  pub used : lengths b (issued b) ≡ pool_used b
  pub entries : (j : ℕ) → j < journal_count b → FormedEntry b j

module _ (b : List ℕ) where
  record-facts : (k : ℕ) → record_good b k ≡ true → FormedRecord b k
  unfolding record_good
  record-facts k h =
      let t0 = cond_both _ _ h in
      let t1 = cond_both _ _ t0.1 in
      let t2 = cond_both _ _ t1.1 in
      let t3 = cond_both _ _ t2.1 in
      record {
        ordered = leb-true _ _ t0.0;
        inside = leb-true _ _ t1.0;
        status = leb-true _ _ t2.0;
        offset = eqb-true _ _ t3.0;
        residues = cond-last _ t3.1;
      }

  record-good : (k : ℕ) → FormedRecord b k → record_good b k ≡ true
  unfolding record_good
  record-good k r = rw (
    le-leb _ _ r.ordered,
    le-leb _ _ r.inside,
    le-leb _ _ r.status,
    eq-eqb _ _ r.offset,
    r.residues,
  )

  entry-facts : (j : ℕ) → entry_good b j ≡ true → FormedEntry b j
  unfolding entry_good
  entry-facts j h =
      let t0 = cond_both _ _ h in
      record { some = leb-true _ _ t0.0; numbered = leb-true _ _ (cond-last _ t0.1) }

  entry-good : (j : ℕ) → FormedEntry b j → entry_good b j ≡ true
  unfolding entry_good
  entry-good j e = rw (le-leb _ _ e.some, le-leb _ _ e.numbered)

  pub well_formed-formed : well_formed b ≡ true → Formed b
  unfolding laid_out header_formed
  well_formed-formed h =
      let header = cond_both (header_formed b) _ (rw (formed-steps b) at h) in
      let rest = cond_both _ _ header.1 in
      let records = cond_both _ _ rest.0 in
      let laid = cond_both (laid_out b) _ (cond_both (leb header_size (length b)) _ header.0).1 in
      let edition = cond_both _ _ laid.0 in
      let records-at = cond_both _ _ edition.1 in
      let counts = cond_both (counts_within b) _ laid.1 in
      let limits = cond_both (within_limits b) _ counts.1 in
      let digest = cond_both _ _ limits.1 in
      record {
        header = header-tested b header.0;
        edition = eqb-true _ _ edition.0;
        records-at = eqb-true _ _ records-at.0;
        digest = digest.0;
        records = λ k l. record-facts k (below_at (record_good b) (issued b) records.0 k l);
        used = eqb-true _ _ records.1;
        entries = λ j l. entry-facts j (below_at (entry_good b) (journal_count b) rest.1 j l);
      }

  header-long : Header b → header_size ≤ length b
  header-long h = omega (arith, h.after-header, h.pool, h.whole)

  -- the header of a well-formed image can be read
  pub header-room : well_formed b ≡ true → header_size ≤ length b
  header-room w = header-long (well_formed-formed w).header

  laid_out_lem : Formed b → laid_out b ≡ true
  unfolding laid_out
  laid_out_lem f =
      let h = f.header in
      let pool : pool_offset b ≡ pool_place (record_capacity b) (journal_capacity b)
      = omega (arith, h.journal, h.pool, journal-pool (record_capacity b) (journal_capacity b)) in
      rw (eq-eqb _ _ f.edition, eq-eqb _ _ f.records-at, eq-eqb _ _ h.journal, eq-eqb _ _ pool)

  counts-within : Formed b → counts_within b ≡ true
  unfolding counts_within
  counts-within f = rw (
    le-leb _ _ f.header.records,
    le-leb _ _ f.header.journalled,
    le-leb _ _ f.header.used,
  )

  within-limits : Formed b → within_limits b ≡ true
  unfolding within_limits
  within-limits f =
      let h = f.header in
      rw (
        le-leb _ _ h.records-limit,
        le-leb _ _ h.journal-limit,
        le-leb _ _ h.pool-limit,
        le-leb _ _ h.reference-limit,
      )

  header-formed : Formed b → header_formed b ≡ true
  unfolding header_formed
  header-formed f =
      rw (
        le-leb _ _ (header-long f.header),
        laid_out_lem f,
        counts-within f,
        within-limits f,
        f.digest,
        le-leb _ _ f.header.whole,
      )

  pub well-formed : Formed b → well_formed b ≡ true
  unfolding well_formed
  well-formed f =
      let records = below_all (record_good b) (issued b) (λ k l. record-good k (f.records k l)) in
      rw (header-formed f, records, eq-eqb _ _ f.used)
      (rw (below_all (entry_good b) (journal_count b) (λ j l. entry-good j (f.entries j l))))
