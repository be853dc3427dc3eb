-- What an image shows, and how the changes that are seen of it move that.
use Prim.Native.Nat.{ℕ, ◌+◌}
use native.Mathlib.Omega.{arith}
use native.Mathlib.Nat.{eq-or-lt_of_le}
use mathlib.Core.Path.{◌≡◌, ◌∙◌, sym, subst}
use mathlib.Core.Logic.{⊎_elim}
use mathlib.Core.List.{List}
use Rattle.normal_form.specs.Form.{Normal, altered, changed_form}
use Rattle.image.specs.Fields.{issued, journal_count, status_of, entry_of}
use Rattle.history.specs.Demand.{Live, sequence_of}
use Rattle.history.proofs.Proper.{Has, Proper}
use Rattle.effects.proofs.Seen.{Kept, Stays, Restated, Journalled, Closed, Issues}
use Rattle.history.proofs.View.{View, KeepsOthers, Changes, Sealed}

abbrev pub shows : List ℕ → List ℕ → View
shows r b =
    record {
      Live = Live b;
      sequence = sequence_of r b;
      status = status_of b;
      count = journal_count b;
      journal = entry_of b;
    }

module _ (r b c : List ℕ) (i : ℕ) (kept : Kept b c i) where
  pub kept-sequence : sequence_of r c i ≡ sequence_of r b i
  kept-sequence = λ k. altered r (kept.start k) (kept.end k) (kept.replacement k)

  kept-proper : Proper r b i → Proper r c i
  kept-proper p =
      let form = p.form in
      let has : Has c i (changed_form r (sequence_of r b i))
      = record {
        start = kept.start ∙ form.start;
        end = kept.end ∙ form.end;
        replacement = kept.replacement ∙ form.replacement;
      } in
      record {
        changed = rw kept-sequence p.changed;
        form = subst (λ (t : List ℕ). Has c i (changed_form r t)) (sym kept-sequence) has;
      }

-- what stays of a number's record: its sequence, and that it is proper
module _ (r b c : List ℕ) (s : Stays b c) (i : ℕ) (live : Live b i) where
  stays-kept : Kept b c i
  stays-kept = s.kept i live.from live.to

  stays-sequence : sequence_of r c i ≡ sequence_of r b i
  stays-sequence = kept-sequence r b c i stays-kept

  pub stays-proper : Proper r b i → Proper r c i
  stays-proper = kept-proper r b c i stays-kept

-- with the numbers as they were
module _ (b c : List ℕ) (same_numbers : issued c ≡ issued b) where
  pub live_on : (i : ℕ) → Live b i → Live c i
  live_on i l = record { from = l.from; to = rw same_numbers l.to }

  pub live_back : (i : ℕ) → Live c i → Live b i
  live_back i l = record { from = l.from; to = rw same_numbers at l.to }

  stays-keeps : (r : List ℕ) (i : ℕ) → Stays b c → ((j : ℕ) → Live b j → (j ≡ i → ⊥) → status_of c j ≡ status_of b j)
      → KeepsOthers (shows r b) (shows r c) i
  stays-keeps r i s statuses =
      record {
        lives = live_on;
        lived = λ j n. live_back j;
        sequences = stays-sequence r b c s;
        statuses = statuses;
        journals = s.entries;
      }

module _ (r b c : List ℕ) (i status : ℕ) where
  pub restated-keeps : Restated b c i status → KeepsOthers (shows r b) (shows r c) i
  restated-keeps s = stays-keeps b c s.numbers r i s.stays (λ j l. s.others j l.from l.to)

  pub journalled-changes : Live b i → Journalled b c i status → Changes (shows r b) (shows r c) i status
  journalled-changes l s =
      let now = s.restated in
      record {
        keeps = restated-keeps now;
        lives = live_on b c now.numbers i l;
        now = now.now;
        count = omega (arith, s.count);
        last = s.last;
      }

pub closed-sealed : (r b c : List ℕ) → Closed b c → Sealed (shows r b) (shows r c)
closed-sealed r b c s =
    record {
      count = s.count;
      nought = λ l. omega (arith, l.from);
      keeps = stays-keeps b c s.numbers r 0 s.stays (λ j l n. s.statuses j l.from l.to);
    }

module _ (r b c : List ℕ) (f : Normal) (s : Issues b c f) where
  issues-live : Live c (issued b + 1)
  issues-live = record { from = omega arith; to = rw s.numbers (omega arith) }

  -- a number is an old one or the one that is issued
  pub issues-cases : {C : Type 0} (j : ℕ) → Live c j → (Live b j → C) → (j ≡ issued b + 1 → C) → C
  issues-cases j l old next =
      ⊎_elim next
      (λ m. old (record { from = l.from; to = omega (arith, m) }))
      (eq-or-lt_of_le (rw s.numbers at l.to))

  pub issues-changes : Changes (shows r b) (shows r c) (issued b + 1) 1
  issues-changes =
      record {
        keeps = record {
          lives = λ j l. record { from = l.from; to = rw s.numbers (omega (arith, l.to)) };
          lived = λ j n l. issues-cases j l (λ m. m) (λ e. absurd (n e));
          sequences = stays-sequence r b c s.stays;
          statuses = λ j l n. s.statuses j l.from l.to;
          journals = s.stays.entries;
        };
        lives = issues-live;
        now = s.now;
        count = omega (arith, s.count);
        last = s.last;
      }

  pub issues-has : Has c (issued b + 1) f
  issues-has = record { start = s.start; end = s.end; replacement = s.replacement }
