-- A change that leaves the frame, the records and the journal keeps an image well formed: a mark, an undo, a
-- seal.
use Prim.Native.Nat.{ℕ, suc, ◌+◌, ◌<◌, ◌≤◌}
use native.Mathlib.Nat.{eq-or-lt_of_le}
use native.Mathlib.Omega.{arith}
use mathlib.Core.Logic.{⊎_elim}
use mathlib.Core.Path.{◌≡◌, ◌∙◌, sym, ap, subst}
use mathlib.Core.Bool.{true}
use mathlib.Core.List.{List}
use lib.Dec.{eqb}
use borrow.Author.Tests.{eqb-true, eqb-false}
use Rattle.stretch.proofs.Cases.{by_cases}
use Rattle.image.specs.Fields.{journal_place, record_capacity, issued, journal_capacity, journal_count, pool_capacity}
use Rattle.image.specs.Fields.{pool_used, status_of, entry_of}
use Rattle.image.specs.Formed.{lengths, well_formed}
use Rattle.image.specs.Header.{Header}
use Rattle.image.proofs.Lengths.{lengths-same}
use Rattle.image.proofs.WellFormed.{FormedRecord, FormedEntry, Formed, well_formed-formed, well-formed}
use Rattle.effects.proofs.Seen.{Stays, Restated, Journalled, TakenBack, Closed}

module _ (b c : List ℕ) (f : Formed b) (s : Stays b c) where
  pub lengths-stay : (k : ℕ) → k ≤ issued b → lengths c k ≡ lengths b k
  lengths-stay k h = lengths-same b c k (λ l g. (s.kept (suc l) (omega arith) (omega arith)).residues)

  -- a record that may have a new status
  pub record-stays : (k : ℕ) → k < issued b → status_of c (suc k) ≤ 1 → FormedRecord c k
  record-stays k h t =
      let r = f.records k h in
      let kept = s.kept (suc k) (omega arith) h in
      record {
        ordered = omega (arith, kept.start, kept.end, r.ordered);
        inside = omega (arith, kept.end, s.frame.reference, r.inside);
        status = t;
        offset = kept.offset ∙ r.offset ∙ sym (lengths-stay k (omega arith));
        residues = rw kept.replacement r.residues;
      }

  pub entry-stays : (j : ℕ) → j < journal_count b → issued b ≤ issued c → FormedEntry c j
  entry-stays j h g =
      let e = f.entries j h in
      let same = s.entries j h in
      record { some = omega (arith, same, e.some); numbered = omega (arith, same, e.numbered) }

  -- new counts within the old capacities
  pub header-stays : issued c ≤ record_capacity b → journal_count c ≤ journal_capacity b → pool_used c ≤ pool_capacity b
      → Header c
  header-stays i j p =
      let h = f.header in
      let frame = s.frame in
      record {
        journal = frame.journal-at ∙ h.journal ∙ ap journal_place (sym frame.records);
        after-header = omega (arith, frame.journal-at, h.after-header);
        pool = omega (arith, frame.pool-at, frame.journal-at, frame.journal, h.pool);
        records = omega (arith, frame.records);
        journalled = omega (arith, frame.journal);
        used = omega (arith, frame.pool);
        records-limit = omega (arith, frame.records, h.records-limit);
        journal-limit = omega (arith, frame.journal, h.journal-limit);
        pool-limit = omega (arith, frame.pool, h.pool-limit);
        reference-limit = omega (arith, frame.reference, h.reference-limit);
        whole = omega (arith, frame.pool-at, frame.pool, frame.long, h.whole);
      }

  pub stay-formed : Header c → ((k : ℕ) → k < issued c → FormedRecord c k) → lengths c (issued c) ≡ pool_used c
      → ((j : ℕ) → j < journal_count c → FormedEntry c j) → well_formed c ≡ true
  stay-formed header records used entries =
      let image : Formed c
      = record {
        header = header;
        edition = s.frame.edition ∙ f.edition;
        records-at = s.frame.records-at ∙ f.records-at;
        digest = rw s.frame.digest f.digest;
        records = records;
        used = used;
        entries = entries;
      } in
      well-formed c image

  -- with the numbers as they were
  same-numbers-formed : issued c ≡ issued b → pool_used c ≡ pool_used b
      → ((k : ℕ) → k < issued b → status_of c (suc k) ≤ 1)
      → journal_count c ≤ journal_capacity b
      → ((j : ℕ) → j < journal_count c → FormedEntry c j)
      → well_formed c ≡ true
  same-numbers-formed numbers used statuses count entries =
      stay-formed
      (header-stays (omega (arith, numbers, f.header.records)) count (omega (arith, used, f.header.used)))
      (λ k l. let g : k < issued b = omega (arith, numbers) in record-stays k g (statuses k g))
      (rw (numbers, used) (lengths-stay (issued b) (omega arith) ∙ f.used))
      entries

  -- the next entry of the journal
  pub entries_next : (i : ℕ) → 1 ≤ i → i ≤ issued c → issued b ≤ issued c → journal_count c ≡ journal_count b + 1
      → entry_of c (journal_count b) ≡ i → (j : ℕ) → j < journal_count c → FormedEntry c j
  entries_next i some numbered more count last j l =
      ⊎_elim
      (λ e. subst (FormedEntry c) (sym e) (record { some = omega (arith, last); numbered = omega (arith, last) }))
      (λ g. entry-stays j g more)
      (eq-or-lt_of_le (let h : j ≤ journal_count b = omega (arith, count) in h))

module _ (b c : List ℕ) (w : well_formed b ≡ true) where
  restated-status : (i s : ℕ) → Restated b c i s → s ≤ 1 → (k : ℕ) → k < issued b → status_of c (suc k) ≤ 1
  restated-status i s r t k l =
      by_cases (eqb (suc k) i)
      (λ e. subst (λ (j : ℕ). status_of c j ≤ 1) (sym (eqb-true (suc k) i e)) (omega (arith, r.now)))
      (λ e. omega (
        arith,
        r.others (suc k) (omega arith) l (eqb-false (suc k) i e),
        ((well_formed-formed b w).records k l).status,
      ))

  pub journalled-formed : (i s : ℕ) → Journalled b c i s → s ≤ 1 → 1 ≤ i → i ≤ issued b
      → journal_count b < journal_capacity b → well_formed c ≡ true
  journalled-formed i s r t some numbered room =
      let f = well_formed-formed b w in
      let now = r.restated in
      let same = now.numbers in
      same-numbers-formed b c f now.stays same now.used (restated-status i s now t) (omega (arith, r.count))
      (entries_next b c f now.stays i some (omega (arith, same)) (omega (arith, same)) r.count r.last)

  pub taken-back-formed : (i s : ℕ) → TakenBack b c i s → s ≤ 1 → well_formed c ≡ true
  taken-back-formed i s r t =
      let f = well_formed-formed b w in
      let now = r.restated in
      same-numbers-formed b c f now.stays now.numbers now.used (restated-status i s now t)
      (omega (arith, r.count, f.header.journalled))
      (λ j l. entry-stays b c f now.stays j (omega (arith, r.count)) (omega (arith, now.numbers)))

  pub closed-formed : Closed b c → well_formed c ≡ true
  closed-formed r =
      let f = well_formed-formed b w in
      same-numbers-formed b c f r.stays r.numbers r.used
      (λ k l. omega (arith, r.statuses (suc k) (omega arith) l, (f.records k l).status))
      (omega (arith, r.count))
      (λ j l. omega (arith, r.count))
