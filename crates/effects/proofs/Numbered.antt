-- What is read after an entry of a new form.
use Prim.Native.Nat.{ℕ, ◌+◌, ◌*◌, ◌^◌, ◌≤◌, ◌<◌}
use native.Mathlib.Nat.{add-zero}
use native.Mathlib.Omega.{arith}
use mathlib.Core.Logic.{inl, inr}
use mathlib.Core.Path.{◌≡◌, ◌∙◌, sym, ap}
use mathlib.Core.List.{List}
use lib.ListN.{length, get_or}
use Rattle.stretch.specs.Part.{part}
use Rattle.normal_form.specs.Form.{Normal}
use Rattle.image.specs.Numbers.{number}
use Rattle.image.specs.Fields.{header_size, record_capacity, issued, issued_place, journal_capacity}
use Rattle.image.specs.Fields.{journal_count, pool_capacity, pool_used, pool_used_place, pool_offset}
use Rattle.image.specs.Fields.{record_place, start_of, offset_of, length_of, replacement_of}
use Rattle.image.specs.Header.{Header}
use Rattle.image.proofs.Arranged.{fields-inside, record-header, record-journal}
use Rattle.image.proofs.Spared.{Spared, Aside, spared-on, spared-number}
use Rattle.changes.specs.Changes.{counted, numbered}
use Rattle.effects.proofs.Seen.{Stays, Issues}
use Rattle.effects.proofs.Spares.{Spares, spares-on}
use Rattle.effects.proofs.Read.{Inside, read_stays, read-status, read-entry-at}
use Rattle.effects.proofs.Stored.{laid, stored, stored-spares, stored-number, stored-residues}
use Rattle.effects.proofs.Counted.{counted-spares, counted-spared, counted-issued, counted-used}
use Rattle.effects.proofs.Journalled.{next_entry, journalled-spares, journalled-spared, journalled-number}
use Rattle.effects.proofs.Journalled.{journalled-count, journalled-entry}

module _ (b : List ℕ) (h : Header b) (f : Normal)
    (record-room : issued b < record_capacity b)
    (journal-room : journal_count b < journal_capacity b)
    (pool-room : pool_used b + length f.replacement ≤ pool_capacity b)
  where
    abbrev tally : List ℕ
    tally = counted b (stored b f) (length f.replacement)

    stored-long : length (stored b f) ≡ length b
    stored-long = (stored-spares b h f record-room pool-room).long

    tally-spares : Spares b 0 b tally
    tally-spares =
        spares-on b 0 b (stored b f) tally (stored-spares b h f record-room pool-room)
        (counted-spares b h 0 (stored b f) stored-long (length f.replacement))

    numbered-spares : Spares b 0 b (numbered b f)
    unfolding numbered
    numbered-spares =
        spares-on b 0 b tally (numbered b f) tally-spares
        (journalled-spares b h journal-room 0 tally tally-spares.long (issued b + 1))

    -- what is stored stays through the counts and the journal
    numbered-spared : (from to : ℕ) → header_size ≤ from → Aside (next_entry b) 4 from to
        → Spared (stored b f) (numbered b f) from to
    unfolding numbered
    numbered-spared from to l a =
        spared-on (counted-spared b h 0 (stored b f) stored-long (length f.replacement) from to l)
        (journalled-spared b h journal-room 0 tally tally-spares.long (issued b + 1) from to a (inr (omega arith)))

    next-number : (k : ℕ) → k < 5 → get_or (laid b f) k 0 < 2 ^ 32
        → number (numbered b f) (record_place (issued b + 1) + 4 * k) ≡ get_or (laid b f) k 0
    next-number k l g =
        let at = record_place (issued b + 1) + 4 * k in
        let end = record-journal (issued b + 1) (record_capacity b) (omega arith) (omega arith) in
        let s = numbered-spared at (at + 4) (omega (arith, record-header (issued b + 1)))
        (inl (omega (arith, end, h.journal, fields-inside))) in
        spared-number s at (omega arith) (omega arith) ∙ stored-number b h f record-room pool-room k l g

    next_start : f.start < 2 ^ 32 → start_of (numbered b f) (issued b + 1) ≡ f.start
    next_start l = ap (number (numbered b f)) (sym (add-zero (record_place (issued b + 1))))
        ∙ next-number 0 (omega arith) l

    next-offset : offset_of (numbered b f) (issued b + 1) ≡ pool_used b
    next-offset = next-number 2 (omega arith) (omega (arith, h.used, h.pool-limit))

    next-length : length_of (numbered b f) (issued b + 1) ≡ length f.replacement
    next-length = next-number 3 (omega arith) (omega (arith, h.pool-limit))

    next-residues : part (numbered b f) (pool_offset b + pool_used b)
        (pool_offset b + pool_used b + length f.replacement) ≡ f.replacement
    next-residues =
        let from = pool_offset b + pool_used b in
        let to = from + length f.replacement in
        let s = numbered-spared from to (omega (arith, h.after-header, h.pool)) (inr (omega (arith, h.pool))) in
        s.parts from to (omega arith) (omega arith) (omega arith) ∙ stored-residues b h f record-room pool-room

    next-replacement : Stays b (numbered b f) → replacement_of (numbered b f) (issued b + 1) ≡ f.replacement
    unfolding replacement_of
    next-replacement s = rw (s.frame.pool-at, next-offset, next-length) next-residues

    numbered-issued : issued (numbered b f) ≡ issued b + 1
    unfolding numbered
    numbered-issued =
        journalled-number b h journal-room 0 tally tally-spares.long (issued b + 1) issued_place
        (inl (omega (arith, h.after-header))) (inl (omega arith))
        ∙ counted-issued b h 0 (stored b f) stored-long (length f.replacement)

    numbered-used : pool_used (numbered b f) ≡ pool_used b + length f.replacement
    unfolding numbered
    numbered-used =
        journalled-number b h journal-room 0 tally tally-spares.long (issued b + 1) pool_used_place
        (inl (omega (arith, h.after-header))) (inr (omega arith))
        ∙ counted-used b h 0 (stored b f) stored-long (length f.replacement) pool-room

    numbered-count : journal_count (numbered b f) ≡ journal_count b + 1
    unfolding numbered
    numbered-count = journalled-count b h journal-room 0 tally tally-spares.long (issued b + 1)

    numbered-entry : number (numbered b f) (next_entry b) ≡ issued b + 1
    unfolding numbered
    numbered-entry = journalled-entry b h journal-room 0 tally tally-spares.long (issued b + 1)
        (omega (arith, h.records-limit))

    pub numbered-seen : Inside b → f.start < 2 ^ 32 → f.end < 2 ^ 32 → Issues b (numbered b f) f
    numbered-seen w l g =
        let c = numbered b f in
        let s = read_stays b 0 c numbered-spares w in
        record {
          stays = s;
          numbers = numbered-issued;
          used = numbered-used;
          statuses = λ j o q. read-status b 0 c numbered-spares j o q (λ e. omega arith);
          start = next_start l;
          end = next-number 1 (omega arith) g;
          offset = next-offset;
          residues = next-length;
          replacement = next-replacement s;
          now = next-number 4 (omega arith) (omega arith);
          count = numbered-count;
          last = read-entry-at b 0 c numbered-spares (journal_count b) ∙ numbered-entry;
        }
