-- Document 01, "Turned away": the grounds 10, 11 and 13 to 18, on an image b.
use Rattle.std.specs.Prelude.{ℕ, ◌+◌, not, List, leb, ltb, eqb, length}
use Rattle.stretch.specs.Same.{same}
use Rattle.refusal.specs.declared.Reason.TheVariants.{ImageNotWellFormed, OtherReference, NoFreeRecord, NoPoolRoom}
use Rattle.refusal.specs.declared.Reason.TheVariants.{NoJournalRoom, NoSuchNumber, NotActive, NothingToUndo}
use Rattle.refusal.specs.Verdict.{Ground, ground}
use Rattle.image.specs.Fields.{record_capacity, issued, journal_capacity, journal_count, pool_capacity, pool_used}
use Rattle.image.specs.Fields.{reference_length, sequence_digest, status_of, active}
use Rattle.image.specs.Formed.{well_formed}

-- 10
abbrev pub not_well_formed : List ℕ → Ground
not_well_formed b = ground (not (well_formed b)) ImageNotWellFormed 0

-- 11: the digest given, and the length of the reference lent
abbrev pub other_digest : List ℕ → List ℕ → Ground
other_digest b digest = ground (not (same digest (sequence_digest b))) OtherReference 0

abbrev pub other_length : List ℕ → List ℕ → Ground
other_length b reference = ground (not (eqb (length reference) (reference_length b))) OtherReference 1

-- 13, 14 for so many residues, 15
abbrev pub no_free_record : List ℕ → Ground
no_free_record b = ground (leb (record_capacity b) (issued b)) NoFreeRecord (record_capacity b)

abbrev pub no_pool_room : List ℕ → ℕ → Ground
no_pool_room b residues = ground (ltb (pool_capacity b) (pool_used b + residues)) NoPoolRoom (pool_capacity b)

abbrev pub no_journal_room : List ℕ → Ground
no_journal_room b = ground (leb (journal_capacity b) (journal_count b)) NoJournalRoom (journal_capacity b)

-- 16: number 0, and a number above issued
abbrev pub number_zero : List ℕ → ℕ → Ground
number_zero b i = ground (eqb i 0) NoSuchNumber (issued b)

abbrev pub number_above_issued : List ℕ → ℕ → Ground
number_above_issued b i = ground (ltb (issued b) i) NoSuchNumber (issued b)

-- 17
abbrev pub number_not_active : List ℕ → ℕ → Ground
number_not_active b i = ground (not (eqb (status_of b i) active)) NotActive i

-- 18
abbrev pub nothing_to_undo : List ℕ → Ground
nothing_to_undo b = ground (eqb (journal_count b) 0) NothingToUndo 0
