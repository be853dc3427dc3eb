-- What is read of an image after each change: which fields are as they were, and which are new.
use Prim.Native.Nat.{ℕ, ◌+◌, ◌<◌, ◌≤◌}
use mathlib.Core.Path.{◌≡◌}
use mathlib.Core.List.{List}
use lib.ListN.{length}
use Rattle.normal_form.specs.Form.{Normal}
use Rattle.image.specs.Fields.{header_size, journal_place, pool_place, edition, record_capacity, issued, records_offset}
use Rattle.image.specs.Fields.{journal_capacity, journal_count, journal_offset, pool_capacity, pool_used, pool_offset}
use Rattle.image.specs.Fields.{reference_length, sequence_digest, start_of, end_of, offset_of, length_of, status_of}
use Rattle.image.specs.Fields.{replacement_of, entry_of, active}

-- the header, but for its counts
pub record Frame (b c : List ℕ) : Type 0 where
  pub long : length c ≡ length b
  pub edition : edition c ≡ edition b
  pub records : record_capacity c ≡ record_capacity b
  pub records-at : records_offset c ≡ records_offset b
  pub journal : journal_capacity c ≡ journal_capacity b
  pub journal-at : journal_offset c ≡ journal_offset b
  pub pool : pool_capacity c ≡ pool_capacity b
  pub pool-at : pool_offset c ≡ pool_offset b
  pub reference : reference_length c ≡ reference_length b
  pub digest : sequence_digest c ≡ sequence_digest b

-- a record, but for its status
pub record Kept (b c : List ℕ) (i : ℕ) : Type 0 where
  pub start : start_of c i ≡ start_of b i
  pub end : end_of c i ≡ end_of b i
  pub offset : offset_of c i ≡ offset_of b i
  pub residues : length_of c i ≡ length_of b i
  pub replacement : replacement_of c i ≡ replacement_of b i

-- the frame, every record but for its status, and every journal entry
pub record Stays (b c : List ℕ) : Type 0 where
  pub frame : Frame b c
  pub kept : (i : ℕ) → 1 ≤ i → i ≤ issued b → Kept b c i
  pub entries : (k : ℕ) → k < journal_count b → entry_of c k ≡ entry_of b k

-- number i has a new status
pub record Restated (b c : List ℕ) (i status : ℕ) : Type 0 where
  pub stays : Stays b c
  pub numbers : issued c ≡ issued b
  pub used : pool_used c ≡ pool_used b
  pub others : (j : ℕ) → 1 ≤ j → j ≤ issued b → (j ≡ i → ⊥) → status_of c j ≡ status_of b j
  pub now : status_of c i ≡ status

-- and is journalled: a withdrawal, an entry again
pub record Journalled (b c : List ℕ) (i status : ℕ) : Type 0 where
  pub restated : Restated b c i status
  pub count : journal_count c ≡ journal_count b + 1
  pub last : entry_of c (journal_count b) ≡ i

-- or its entry is taken from the journal: an undo
pub record TakenBack (b c : List ℕ) (i status : ℕ) : Type 0 where
  pub restated : Restated b c i status
  pub count : journal_count c + 1 ≡ journal_count b

-- the journal is emptied: a seal
pub record Closed (b c : List ℕ) : Type 0 where
  pub stays : Stays b c
  pub numbers : issued c ≡ issued b
  pub used : pool_used c ≡ pool_used b
  pub statuses : (j : ℕ) → 1 ≤ j → j ≤ issued b → status_of c j ≡ status_of b j
  pub count : journal_count c ≡ 0

-- the next number is issued for a form
pub record Issues (b c : List ℕ) (f : Normal) : Type 0 where
  pub stays : Stays b c
  pub numbers : issued c ≡ issued b + 1
  pub used : pool_used c ≡ pool_used b + length f.replacement
  pub statuses : (j : ℕ) → 1 ≤ j → j ≤ issued b → status_of c j ≡ status_of b j
  pub start : start_of c (issued b + 1) ≡ f.start
  pub end : end_of c (issued b + 1) ≡ f.end
  pub offset : offset_of c (issued b + 1) ≡ pool_used b
  pub residues : length_of c (issued b + 1) ≡ length f.replacement
  pub replacement : replacement_of c (issued b + 1) ≡ f.replacement
  pub now : status_of c (issued b + 1) ≡ active
  pub count : journal_count c ≡ journal_count b + 1
  pub last : entry_of c (journal_count b) ≡ issued b + 1

-- a blank image
pub record Fresh (room n : ℕ) (d : List ℕ) (r j p : ℕ) (c : List ℕ) : Type 0 where
  pub long : length c ≡ room
  pub edition : edition c ≡ 1
  pub records : record_capacity c ≡ r
  pub numbers : issued c ≡ 0
  pub records-at : records_offset c ≡ header_size
  pub journal : journal_capacity c ≡ j
  pub count : journal_count c ≡ 0
  pub journal-at : journal_offset c ≡ journal_place r
  pub pool : pool_capacity c ≡ p
  pub used : pool_used c ≡ 0
  pub pool-at : pool_offset c ≡ pool_place r j
  pub reference : reference_length c ≡ n
  pub digest : sequence_digest c ≡ d
