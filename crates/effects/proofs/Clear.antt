-- Where the changes write: beside all that stands.
use Prim.Native.Nat.{ℕ, ◌+◌, ◌*◌, ◌<◌, ◌≤◌}
use native.Mathlib.Nat.{eq-or-lt_of_le}
use native.Mathlib.Omega.{arith}
use mathlib.Core.Logic.{inl, inr, ⊎_elim}
use mathlib.Core.Path.{◌≡◌, sym}
use mathlib.Core.List.{List}
use lib.Dec.{leb, ltb}
use lib.ListN.{length}
use borrow.Author.Tests.{leb-true, leb-false, ltb-true, ltb-false}
use Rattle.stretch.proofs.Cases.{by_cases}
use Rattle.image.specs.Fields.{header_size, record_size, entry_size, edition_place, record_capacity, issued}
use Rattle.image.specs.Fields.{issued_place, records_offset_place, journal_capacity, journal_count, journal_count_place}
use Rattle.image.specs.Fields.{journal_offset, journal_offset_place, pool_capacity, pool_used, pool_used_place}
use Rattle.image.specs.Fields.{pool_offset, pool_offset_place, record_place, status_place, entry_place}
use Rattle.image.specs.Header.{Header}
use Rattle.image.proofs.Arranged.{fields-inside, record-header, record-order, record_apart, record-journal}
use Rattle.image.proofs.Spared.{Aside}
use Rattle.effects.proofs.Spares.{Unwritten, edition_on, records_on, journal_on, pool_on, of_record, of_status}
use Rattle.effects.proofs.Spares.{entries, residues, Clear}

module _ (b : List ℕ) (h : Header b) (i : ℕ) where
  pub record-end : (j : ℕ) → 1 ≤ j → j ≤ issued b → record_place j + record_size ≤ journal_offset b
  record-end j o l = omega (arith, record-journal j (record_capacity b) o (omega (arith, h.records)), h.journal)

  journal-end : journal_offset b + entry_size * journal_capacity b ≡ pool_offset b
  journal-end = omega (arith, h.pool)

  -- a write to the header
  clear-header : (p : ℕ) → p + 4 ≤ header_size → Aside p 4 edition_place issued_place
      → Aside p 4 records_offset_place journal_count_place
      → Aside p 4 journal_offset_place pool_used_place → Aside p 4 pool_offset_place header_size → Clear b i p 4
  clear-header p l first second third fourth =
      record { room = omega (arith, h.after-header, h.pool, h.whole); aside = beside }
    where
      beside : (from to : ℕ) → Unwritten b i from to → Aside p 4 from to
      beside _ _ edition_on = first
      beside _ _ records_on = second
      beside _ _ journal_on = third
      beside _ _ pool_on = fourth
      beside _ _ (of_record j _ _) = inr (omega (arith, record-header j))
      beside _ _ (of_status j _ _ _) = inr (omega (arith, record-header j))
      beside _ _ entries = inr (omega (arith, h.after-header))
      beside _ _ residues = inr (omega (arith, h.after-header, h.pool))

  pub clear-issued : Clear b i issued_place 4
  clear-issued = clear-header issued_place (omega arith) (inl (omega arith)) (inr (omega arith)) (inr (omega arith))
      (inr (omega arith))

  pub clear-count : Clear b i journal_count_place 4
  clear-count = clear-header journal_count_place (omega arith) (inl (omega arith)) (inl (omega arith))
      (inr (omega arith)) (inr (omega arith))

  pub clear-used : Clear b i pool_used_place 4
  clear-used = clear-header pool_used_place (omega arith) (inl (omega arith)) (inl (omega arith)) (inl (omega arith))
      (inr (omega arith))

  -- a write after the header
  clear_behind : (at n : ℕ) → header_size ≤ at → at + n ≤ length b
      → ((j : ℕ) → 1 ≤ j → j ≤ issued b → Aside at n (record_place j) (status_place j))
      → ((j : ℕ) → 1 ≤ j → j ≤ issued b → (j ≡ i → ⊥) → Aside at n (status_place j) (status_place j + 4))
      → Aside at n (journal_offset b) (entry_place b (journal_count b))
      → Aside at n (pool_offset b) (pool_offset b + pool_used b)
      → Clear b i at n
  clear_behind at n l room records statuses journal pool = record { room = room; aside = beside }
    where
      beside : (from to : ℕ) → Unwritten b i from to → Aside at n from to
      beside _ _ edition_on = inl (omega arith)
      beside _ _ records_on = inl (omega arith)
      beside _ _ journal_on = inl (omega arith)
      beside _ _ pool_on = inl (omega arith)
      beside _ _ (of_record j o g) = records j o g
      beside _ _ (of_status j o g d) = statuses j o g d
      beside _ _ entries = journal
      beside _ _ residues = pool

  pub clear-status : 1 ≤ i → i ≤ issued b → Clear b i (status_place i) 4
  clear-status o g =
      let end : status_place i + 4 ≤ journal_offset b = omega (arith, record-end i o g, fields-inside) in
      clear_behind (status_place i) 4 (omega (arith, record-header i)) (omega (arith, journal-end, h.whole))
      (λ j p q.
      by_cases (leb j i)
      (λ e. inl (omega (arith, record-order j i (leb-true j i e))))
      (λ e. inr (omega (arith, record_apart i j o (leb-false j i e), fields-inside))))
      (λ j p q d.
      by_cases (ltb j i)
      (λ e. inl (omega (arith, record_apart j i p (ltb-true j i e), fields-inside)))
      (λ e.
      ⊎_elim (λ s. absurd (d (sym s))) (λ s. inr (omega (arith, record_apart i j o s, fields-inside)))
      (eq-or-lt_of_le (ltb-false j i e))))
      (inr end)
      (inr (omega (arith, journal-end)))

  pub clear-record : issued b < record_capacity b → Clear b i (record_place (issued b + 1)) record_size
  clear-record g =
      let n = issued b + 1 in
      let before = record-journal n (record_capacity b) (omega arith) (omega arith) in
      let end : record_place n + record_size ≤ journal_offset b = omega (arith, before, h.journal) in
      clear_behind (record_place n) record_size (record-header n) (omega (arith, journal-end, h.whole))
      (λ j p q. inl (omega (arith, record_apart j n p (omega arith), fields-inside)))
      (λ j p q _. inl (omega (arith, record_apart j n p (omega arith), fields-inside)))
      (inr end)
      (inr (omega (arith, journal-end)))

  pub clear-entry : journal_count b < journal_capacity b → Clear b i (entry_place b (journal_count b)) entry_size
  clear-entry g =
      clear_behind (entry_place b (journal_count b)) entry_size (omega (arith, h.after-header))
      (omega (arith, journal-end, h.whole))
      (λ j p q. inl (omega (arith, record-end j p q, fields-inside)))
      (λ j p q _. inl (omega (arith, record-end j p q, fields-inside)))
      (inl (omega arith))
      (inr (omega (arith, journal-end)))

  pub clear-residues : (n : ℕ) → pool_used b + n ≤ pool_capacity b → Clear b i (pool_offset b + pool_used b) n
  clear-residues n g =
      clear_behind (pool_offset b + pool_used b) n (omega (arith, h.after-header, h.pool)) (omega (arith, h.whole))
      (λ j p q. inl (omega (arith, record-end j p q, fields-inside, journal-end)))
      (λ j p q _. inl (omega (arith, record-end j p q, fields-inside, journal-end)))
      (inl (omega (arith, journal-end, h.journalled)))
      (inl (omega arith))
