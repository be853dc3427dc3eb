-- What stands is read as it was.
use Prim.Native.Nat.{ℕ, ◌+◌, ◌*◌, ◌≤◌, ◌<◌}
use native.Mathlib.Omega.{arith}
use mathlib.Core.Path.{◌≡◌, refl, ◌∙◌, ap}
use mathlib.Core.List.{List}
use Rattle.stretch.specs.Part.{part}
use Rattle.image.specs.Numbers.{number}
use Rattle.image.specs.Fields.{header_size, edition_place, record_capacity_place, issued_place, records_offset_place}
use Rattle.image.specs.Fields.{journal_capacity_place, journal_count_place, journal_offset_place, pool_capacity_place}
use Rattle.image.specs.Fields.{pool_used_place, pool_offset_place, reference_length_place, digest_place, journal_offset}
use Rattle.image.specs.Fields.{issued, journal_count, pool_used, pool_offset, record_place, end_in_record}
use Rattle.image.specs.Fields.{offset_in_record, length_in_record, status_place, offset_of, length_of, status_of}
use Rattle.image.specs.Fields.{replacement_of, entry_place, entry_of, entry_size}
use Rattle.image.proofs.Spared.{spared-number}
use Rattle.effects.proofs.Seen.{Frame, Kept, Stays}
use Rattle.effects.proofs.Spares.{Unwritten, edition_on, records_on, journal_on, pool_on, of_record, of_status}
use Rattle.effects.proofs.Spares.{entries, residues, Spares}

-- the replacements lie within the residues of the pool
abbrev pub Inside : List ℕ → Type 0
Inside b = (j : ℕ) → 1 ≤ j → j ≤ issued b → offset_of b j + length_of b j ≤ pool_used b

module _ (b : List ℕ) (i : ℕ) (c : List ℕ) (s : Spares b i b c) where
  read_number : (from to : ℕ) → Unwritten b i from to → (p : ℕ) → from ≤ p → p + 4 ≤ to → number c p ≡ number b p
  read_number from to w p l g = spared-number (s.spared from to w) p l g

  read-frame : Frame b c
  read-frame =
      record {
        long = s.long;
        edition = read_number edition_place issued_place edition_on edition_place (omega arith) (omega arith);
        records = read_number edition_place issued_place edition_on record_capacity_place (omega arith) (omega arith);
        records-at = read_number records_offset_place journal_count_place records_on records_offset_place (omega arith)
            (omega arith);
        journal = read_number records_offset_place journal_count_place records_on journal_capacity_place (omega arith)
            (omega arith);
        journal-at = read_number journal_offset_place pool_used_place journal_on journal_offset_place (omega arith)
            (omega arith);
        pool =
            read_number journal_offset_place pool_used_place journal_on pool_capacity_place (omega arith) (omega arith);
        pool-at = read_number pool_offset_place header_size pool_on pool_offset_place (omega arith) (omega arith);
        reference =
            read_number pool_offset_place header_size pool_on reference_length_place (omega arith) (omega arith);
        digest = (s.spared pool_offset_place header_size pool_on).parts digest_place header_size (omega arith)
            (omega arith) (omega arith);
      }

  module _ (j : ℕ) (o : 1 ≤ j) (g : j ≤ issued b) where
    read-record : (k : ℕ) → k ≤ length_in_record → number c (record_place j + k) ≡ number b (record_place j + k)
    read-record k l = read_number (record_place j) (status_place j) (of_record j o g) (record_place j + k) (omega arith)
        (omega arith)

    -- the residues of a record that lie in the pool
    read-residues : (at off n : ℕ) → at ≡ pool_offset b → off + n ≤ pool_used b
        → part c (at + off) (at + off + n) ≡ part b (at + off) (at + off + n)
    read-residues at off n e l =
        (s.spared (pool_offset b) (pool_offset b + pool_used b) residues).parts (at + off) (at + off + n) (omega arith)
        (omega arith) (omega arith)

    read-replacement : Inside b → replacement_of c j ≡ replacement_of b j
    unfolding replacement_of
    read-replacement w =
        rw (read-frame.pool-at, read-record offset_in_record (omega arith), read-record length_in_record (omega arith))
        (read-residues (pool_offset b) (offset_of b j) (length_of b j) refl (w j o g))

    read_kept : Inside b → Kept b c j
    read_kept w =
        record {
          start = read_number (record_place j) (status_place j) (of_record j o g) (record_place j) (omega arith)
              (omega arith);
          end = read-record end_in_record (omega arith);
          offset = read-record offset_in_record (omega arith);
          residues = read-record length_in_record (omega arith);
          replacement = read-replacement w;
        }

    pub read-status : (j ≡ i → ⊥) → status_of c j ≡ status_of b j
    read-status d = read_number (status_place j) (status_place j + 4) (of_status j o g d) (status_place j) (omega arith)
        (omega arith)

  -- entries stand where they stood
  pub read-entry-at : (k : ℕ) → entry_of c k ≡ number c (entry_place b k)
  read-entry-at k = ap (λ (p : ℕ). number c (p + entry_size * k)) read-frame.journal-at

  read-entry : (k : ℕ) → k < journal_count b → entry_of c k ≡ entry_of b k
  read-entry k l =
      read-entry-at k ∙ (read_number (journal_offset b) (entry_place b (journal_count b)) entries (entry_place b k)
      (omega arith) (omega arith))

  pub read_stays : Inside b → Stays b c
  read_stays w = record { frame = read-frame; kept = λ j o g. read_kept j o g w; entries = read-entry }
