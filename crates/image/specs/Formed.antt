-- Document 01, "The register image": when an image is well formed.
use Rattle.std.specs.Prelude.{ℕ, zero, suc, ◌+◌, Bool, true, false, cond, List, [], ◌∷◌, leb, eqb, length}
use Rattle.stretch.specs.Below.{below}
use Rattle.refusal.specs.Limits.{reference_limit}
use Rattle.stretch.specs.Class.{every}
use Rattle.alphabets.specs.Alphabets.{residue, base64url}
use Rattle.image.specs.Fields.{header_size, count_limit, pool_limit, journal_place, pool_place, edition}
use Rattle.image.specs.Fields.{record_capacity, issued, journal_capacity, journal_count, pool_capacity, pool_used}
use Rattle.image.specs.Fields.{reference_length, sequence_digest, start_of, end_of, offset_of, length_of, status_of}
use Rattle.image.specs.Fields.{replacement_of, entry_of, first_edition, active, records_offset, journal_offset}
use Rattle.image.specs.Fields.{pool_offset}

-- all of the tests pass
abbrev pub all : List Bool → Bool
all [] = true
all (t ∷ ts) = cond t (all ts) false

-- the header as the table gives it
unfoldable pub laid_out : List ℕ → Bool
laid_out b =
    all (
    eqb (edition b) first_edition
    ∷ eqb (records_offset b) header_size
    ∷ eqb (journal_offset b) (journal_place (record_capacity b))
    ∷ eqb (pool_offset b) (pool_place (record_capacity b) (journal_capacity b))
    ∷ []
    )

-- the counts within the capacities
unfoldable pub counts_within : List ℕ → Bool
counts_within b =
    all (leb (issued b) (record_capacity b) ∷ leb (journal_count b) (journal_capacity b)
    ∷ leb (pool_used b) (pool_capacity b) ∷ [])

-- the capacities and the reference's length within limits
unfoldable pub within_limits : List ℕ → Bool
within_limits b =
    all (
    leb (record_capacity b) count_limit
    ∷ leb (journal_capacity b) count_limit
    ∷ leb (pool_capacity b) pool_limit
    ∷ leb (reference_length b) reference_limit
    ∷ []
    )

-- the header: the buffer holds one, it passes these tests, its digest is in the alphabet, and the buffer is at least
-- pool offset + P
unfoldable pub header_formed : List ℕ → Bool
header_formed b =
    all (
    leb header_size (length b)
    ∷ laid_out b
    ∷ counts_within b
    ∷ within_limits b
    ∷ every base64url (sequence_digest b)
    ∷ leb (pool_offset b + pool_capacity b) (length b)
    ∷ []
    )

-- the lengths of the first k records together
unfoldable pub lengths : List ℕ → ℕ → ℕ
lengths b zero = 0
lengths b (suc k) = lengths b k + length_of b (suc k)

-- the record after the first k
unfoldable pub record_good : List ℕ → ℕ → Bool
record_good b k =
    all (
    leb (start_of b (suc k)) (end_of b (suc k))
    ∷ leb (end_of b (suc k)) (reference_length b)
    ∷ leb (status_of b (suc k)) active
    ∷ eqb (offset_of b (suc k)) (lengths b k)
    ∷ every residue (replacement_of b (suc k))
    ∷ []
    )

-- journal entry j
unfoldable pub entry_good : List ℕ → ℕ → Bool
entry_good b j = all (leb 1 (entry_of b j) ∷ leb (entry_of b j) (issued b) ∷ [])

-- all of it: the header, by which the rest is read, the issued records, their lengths in all, the journal
unfoldable pub well_formed : List ℕ → Bool
well_formed b =
    all (
    header_formed b
    ∷ below (record_good b) (issued b)
    ∷ eqb (lengths b (issued b)) (pool_used b)
    ∷ below (entry_good b) (journal_count b)
    ∷ []
    )
