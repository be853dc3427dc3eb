-- Where records, journal and pool stand. What depends on the size of a record is told by these laws alone.
use Prim.Native.Nat.{ℕ, ◌+◌, ◌*◌, ◌^◌, ◌<◌, ◌≤◌}
use native.Mathlib.Omega.{arith}
use mathlib.Core.Path.{◌≡◌, refl}
use mathlib.Core.List.{List, [], ◌∷◌}
use lib.ListN.{length}
use Rattle.image.specs.Fields.{header_size, record_size, entry_size, count_limit, journal_place, pool_place}
use Rattle.image.specs.Fields.{record_capacity}
use Rattle.image.specs.Fields.{issued, record_place, status_in_record, status_place, record_of}
use Rattle.image.specs.Header.{Header}
use Rattle.image.proofs.Patched.{length-numbers}

-- a record: its fields lie in it, and fill it
pub fields-inside : status_in_record + 4 ≤ record_size
unfolding record_size
fields-inside = omega arith

pub length-record : (start end offset residues status : ℕ)
    → length (record_of start end offset residues status) ≡ record_size
unfolding record_of record_size
length-record start end offset residues status = length-numbers (start ∷ end ∷ offset ∷ residues ∷ status ∷ [])

-- the records: after the header, in their order, apart, and before the journal
pub record-header : (i : ℕ) → header_size ≤ record_place i
unfolding record_place record_size
record-header i = omega arith

pub record-order : (i j : ℕ) → i ≤ j → record_place i ≤ record_place j
unfolding record_place record_size
record-order i j l = omega arith

pub record_apart : (i j : ℕ) → 1 ≤ i → i < j → record_place i + record_size ≤ record_place j
unfolding record_place record_size
record_apart i j h l = omega arith

pub record-journal : (i n : ℕ) → 1 ≤ i → i ≤ n → record_place i + record_size ≤ journal_place n
unfolding record_place journal_place record_size
record-journal i n h l = omega arith

-- the journal: after the header, and before the pool
pub header-journal : (records : ℕ) → header_size ≤ journal_place records
unfolding journal_place
header-journal records = omega arith

pub journal-pool : (records entries : ℕ) → pool_place records entries ≡ journal_place records + entry_size * entries
unfolding pool_place
journal-pool records entries = refl

-- within the limits both are numbers of 32 bits
pub journal-held : (records : ℕ) → records ≤ count_limit → journal_place records < 2 ^ 32
unfolding journal_place record_size
journal-held records r = omega arith

pub pool-held : (records entries : ℕ) → records ≤ count_limit → entries ≤ count_limit
    → pool_place records entries < 2 ^ 32
unfolding pool_place journal_place record_size
pool-held records entries r j = omega arith

-- the records of an image, and their fields
module _ (b : List ℕ) (h : Header b) (i : ℕ) (o : 1 ≤ i) (l : i ≤ record_capacity b) where
  pub record-inside : record_place i + record_size ≤ length b
  record-inside = omega (arith, record-journal i (record_capacity b) o l, h.journal, h.pool, h.whole)

  pub status-inside : status_place i + 4 ≤ length b
  status-inside = omega (arith, record-inside, fields-inside)

pub issued-inside : (b : List ℕ) → Header b → (i : ℕ) → (1 ≤ i) × (i ≤ issued b) → status_place i + 4 ≤ length b
issued-inside b h i n = status-inside b h i n.0 (omega (arith, h.records, n.1))
