-- Document 01, "The register image": where each field stands.
use Rattle.std.specs.Prelude.{ℕ, ◌+◌, ◌-◌, ◌*◌, List, [], ◌∷◌, ◌++◌}
use Rattle.stretch.specs.Part.{part}
use Rattle.image.specs.Numbers.{number, numbers}

-- the sizes of the header, of a record and of a journal entry; what depends on a record's is told by the laws of
-- proofs/Arranged.antt alone
abbrev pub header_size : ℕ
header_size = 76

unfoldable pub record_size : ℕ
record_size = 20

abbrev pub entry_size : ℕ
entry_size = 4

-- the only edition there is
abbrev pub first_edition : ℕ
first_edition = 1

-- what the capacities may be
abbrev pub count_limit : ℕ
count_limit = 10_000

abbrev pub pool_limit : ℕ
pool_limit = 10_000_000

-- where the journal and the pool begin, and how long an image is
unfoldable pub journal_place : ℕ → ℕ
journal_place records = header_size + record_size * records

unfoldable pub pool_place : ℕ → ℕ → ℕ
pool_place records journal = journal_place records + entry_size * journal

abbrev pub image_size : ℕ → ℕ → ℕ → ℕ
image_size records journal pool = pool_place records journal + pool

-- where the header's fields stand, in the table's order
abbrev pub edition_place : ℕ
edition_place = 0

abbrev pub record_capacity_place : ℕ
record_capacity_place = 4

abbrev pub issued_place : ℕ
issued_place = 8

abbrev pub records_offset_place : ℕ
records_offset_place = 12

abbrev pub journal_capacity_place : ℕ
journal_capacity_place = 16

abbrev pub journal_count_place : ℕ
journal_count_place = 20

abbrev pub journal_offset_place : ℕ
journal_offset_place = 24

abbrev pub pool_capacity_place : ℕ
pool_capacity_place = 28

abbrev pub pool_used_place : ℕ
pool_used_place = 32

abbrev pub pool_offset_place : ℕ
pool_offset_place = 36

abbrev pub reference_length_place : ℕ
reference_length_place = 40

abbrev pub digest_place : ℕ
digest_place = 44

-- what they hold
abbrev pub edition : List ℕ → ℕ
edition b = number b edition_place

abbrev pub record_capacity : List ℕ → ℕ
record_capacity b = number b record_capacity_place

abbrev pub issued : List ℕ → ℕ
issued b = number b issued_place

abbrev pub records_offset : List ℕ → ℕ
records_offset b = number b records_offset_place

abbrev pub journal_capacity : List ℕ → ℕ
journal_capacity b = number b journal_capacity_place

abbrev pub journal_count : List ℕ → ℕ
journal_count b = number b journal_count_place

abbrev pub journal_offset : List ℕ → ℕ
journal_offset b = number b journal_offset_place

abbrev pub pool_capacity : List ℕ → ℕ
pool_capacity b = number b pool_capacity_place

abbrev pub pool_used : List ℕ → ℕ
pool_used b = number b pool_used_place

abbrev pub pool_offset : List ℕ → ℕ
pool_offset b = number b pool_offset_place

abbrev pub reference_length : List ℕ → ℕ
reference_length b = number b reference_length_place

abbrev pub sequence_digest : List ℕ → List ℕ
sequence_digest b = part b digest_place header_size

-- the bytes of a header with all counts 0: the reference's length and digest, and the three capacities
unfoldable pub header_of : ℕ → List ℕ → ℕ → ℕ → ℕ → List ℕ
header_of n digest records journal pool =
    numbers (
    first_edition
    ∷ records
    ∷ 0
    ∷ header_size
    ∷ journal
    ∷ 0
    ∷ journal_place records
    ∷ pool
    ∷ 0
    ∷ pool_place records journal
    ∷ n
    ∷ []
    )
    ++ digest

-- where record i stands, from 1
unfoldable pub record_place : ℕ → ℕ
record_place i = header_size + record_size * (i - 1)

-- where its fields stand in it, after the normal start: normal end, offset in the pool, replacement length, status
abbrev pub end_in_record : ℕ
end_in_record = 4

abbrev pub offset_in_record : ℕ
offset_in_record = 8

abbrev pub length_in_record : ℕ
length_in_record = 12

abbrev pub status_in_record : ℕ
status_in_record = 16

abbrev pub status_place : ℕ → ℕ
status_place i = record_place i + status_in_record

-- what the field at so many bytes from a record's start holds
abbrev pub field_of : List ℕ → ℕ → ℕ → ℕ
field_of b i field = number b (record_place i + field)

-- what they hold
abbrev pub start_of : List ℕ → ℕ → ℕ
start_of b i = number b (record_place i)

abbrev pub end_of : List ℕ → ℕ → ℕ
end_of b i = number b (record_place i + end_in_record)

abbrev pub offset_of : List ℕ → ℕ → ℕ
offset_of b i = number b (record_place i + offset_in_record)

abbrev pub length_of : List ℕ → ℕ → ℕ
length_of b i = number b (record_place i + length_in_record)

abbrev pub status_of : List ℕ → ℕ → ℕ
status_of b i = number b (status_place i)

-- the two statuses
abbrev pub inactive : ℕ
inactive = 0

abbrev pub active : ℕ
active = 1

-- its bytes, field by field
unfoldable pub record_of : ℕ → ℕ → ℕ → ℕ → ℕ → List ℕ
record_of start end offset length status = numbers (start ∷ end ∷ offset ∷ length ∷ status ∷ [])

-- its replacement, in the pool
unfoldable pub replacement_of : List ℕ → ℕ → List ℕ
replacement_of b i = part b (pool_offset b + offset_of b i) (pool_offset b + offset_of b i + length_of b i)

-- where journal entry j stands, from 0, and what it holds
abbrev pub entry_place : List ℕ → ℕ → ℕ
entry_place b j = journal_offset b + entry_size * j

abbrev pub entry_of : List ℕ → ℕ → ℕ
entry_of b j = number b (entry_place b j)
