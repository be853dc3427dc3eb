-- What is read after a withdrawal, an entry again, an undo and a seal.
use Prim.Native.Nat.{ℕ, ◌+◌, ◌-◌, ◌≤◌, ◌<◌}
use native.Mathlib.Omega.{arith}
use mathlib.Core.Logic.{inl, inr}
use mathlib.Core.Path.{◌≡◌, refl, ◌∙◌, ap}
use mathlib.Core.List.{List}
use lib.ListN.{length}
use Rattle.image.specs.Numbers.{number, put}
use Rattle.image.specs.Fields.{header_size, issued, issued_place, journal_capacity, journal_count, journal_count_place}
use Rattle.image.specs.Fields.{pool_used, pool_used_place, status_place, status_of, active, inactive}
use Rattle.image.specs.Header.{Header}
use Rattle.image.proofs.Numbers.{number_put}
use Rattle.image.proofs.Arranged.{fields-inside, record-header}
use Rattle.image.proofs.Spared.{number-aside}
use Rattle.changes.specs.Changes.{marked, journalled, withdrawn, reentered, latest, undone, sealed}
use Rattle.effects.proofs.Seen.{Restated, Journalled, TakenBack, Closed}
use Rattle.effects.proofs.Spares.{Spares, spares-put, spares-on}
use Rattle.effects.proofs.Clear.{record-end, clear-count, clear-status}
use Rattle.effects.proofs.Read.{Inside, read_stays, read-status, read-entry-at}
use Rattle.effects.proofs.Journalled.{journalled-spares, journalled-number, journalled-count, journalled-entry}

module _ (b : List ℕ) (h : Header b) (w : Inside b) where
  module _ (i : ℕ) (o : 1 ≤ i) (g : i ≤ issued b) (v : ℕ) (small : v ≤ 1) where
    marked-spares : Spares b i b (marked b i v)
    unfolding marked
    marked-spares = spares-put b i b (status_place i) v refl (clear-status b h i o g)

    marked-number : (p : ℕ) → p + 4 ≤ header_size → number (marked b i v) p ≡ number b p
    unfolding marked
    marked-number p l =
        number-aside b (status_place i) v (omega (arith, (clear-status b h i o g).room)) p
        (inl (omega (arith, record-header i)))

    marked-now : status_of (marked b i v) i ≡ v
    unfolding marked
    marked-now = number_put b (status_place i) v (omega (arith, (clear-status b h i o g).room)) (omega arith)

    -- a status, and then writes that leave it and the counts
    restated : (d : List ℕ) → Spares b i (marked b i v) d
        → issued d ≡ issued (marked b i v)
        → pool_used d ≡ pool_used (marked b i v)
        → status_of d i ≡ status_of (marked b i v) i
        → Restated b d i v
    restated d s numbers used now =
        let t = spares-on b i b (marked b i v) d marked-spares s in
        record {
          stays = read_stays b i d t w;
          numbers = numbers ∙ marked-number issued_place (omega arith);
          used = used ∙ marked-number pool_used_place (omega arith);
          others = read-status b i d t;
          now = now ∙ marked-now;
        }

    journalled-seen : journal_count b < journal_capacity b → Journalled b (journalled b (marked b i v) i) i v
    journalled-seen room =
        let c = marked b i v in
        let long : length c ≡ length b = marked-spares.long in
        let s = journalled-spares b h room i c long i in
        let same = journalled-number b h room i c long i in
        let end = record-end b h i i o g in
        record {
          restated = restated (journalled b c i) s
              (same issued_place (inl (omega (arith, h.after-header))) (inl (omega arith)))
              (same pool_used_place (inl (omega (arith, h.after-header))) (inr (omega arith)))
              (same (status_place i) (inl (omega (arith, end, fields-inside))) (inr (omega (arith, record-header i))));
          count = journalled-count b h room i c long i;
          last = read-entry-at b i (journalled b c i) (spares-on b i b c (journalled b c i) marked-spares s)
              (journal_count b)
              ∙ journalled-entry b h room i c long i (omega (arith, h.records, h.records-limit));
        }

    -- the status, and the journal's count lowered
    taken-seen : (m : ℕ) → m + 1 ≡ journal_count b → TakenBack b (put (marked b i v) journal_count_place m) i v
    taken-seen m e =
        let c = marked b i v in
        let clear = clear-count b h i in
        let room : journal_count_place ≤ length c = omega (arith, marked-spares.long, clear.room) in
        let same = number-aside c journal_count_place m room in
        record {
          restated = restated (put c journal_count_place m)
              (spares-put b i c journal_count_place m marked-spares.long clear)
              (same issued_place (inl (omega arith)))
              (same pool_used_place (inr (omega arith)))
              (same (status_place i) (inr (omega (arith, record-header i))));
          count = ap (λ (k : ℕ). k + 1)
              (number_put c journal_count_place m room (omega (arith, h.journalled, h.journal-limit))) ∙ e;
        }

  pub withdrawn-seen : (i : ℕ) → 1 ≤ i → i ≤ issued b → journal_count b < journal_capacity b
      → Journalled b (withdrawn b i) i inactive
  unfolding withdrawn
  withdrawn-seen i o g = journalled-seen i o g inactive (omega arith)

  pub reentered-seen : (i : ℕ) → 1 ≤ i → i ≤ issued b → journal_count b < journal_capacity b
      → Journalled b (reentered b i) i active
  unfolding reentered
  reentered-seen i o g = journalled-seen i o g active (omega arith)

  pub undone-seen : 1 ≤ journal_count b → 1 ≤ latest b → latest b ≤ issued b
      → TakenBack b (undone b) (latest b) (1 - status_of b (latest b))
  unfolding undone
  undone-seen l o g = taken-seen (latest b) o g (1 - status_of b (latest b)) (omega arith) (journal_count b - 1)
      (omega arith)

  -- no number is 0, so a seal leaves every status
  pub sealed-seen : Closed b (sealed b)
  unfolding sealed
  sealed-seen =
      let clear = clear-count b h 0 in
      let room : journal_count_place ≤ length b = omega (arith, clear.room) in
      let s = spares-put b 0 b journal_count_place 0 refl clear in
      let same = number-aside b journal_count_place 0 room in
      record {
        stays = read_stays b 0 (sealed b) s w;
        numbers = same issued_place (inl (omega arith));
        used = same pool_used_place (inr (omega arith));
        statuses = λ j o g. read-status b 0 (sealed b) s j o g (λ e. omega arith);
        count = number_put b journal_count_place 0 room (omega arith);
      }
