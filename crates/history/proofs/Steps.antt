-- Each call that keeps its promise moves what its image shows as its event says, and leaves an image of the same kind.
use Prim.Native.Nat.{ℕ, zero, suc, ◌+◌, ◌-◌, ◌<◌, ◌≤◌}
use native.Mathlib.Omega.{arith}
use mathlib.Core.Path.{◌≡◌, refl, sym, ap, subst}
use mathlib.Core.Bool.{true}
use mathlib.Core.Logic.{◌⊎◌, inl, inr, ⊎_elim}
use mathlib.Core.List.{List, [], ◌∷◌}
use lib.ListN.{length}
use borrow.Author.Tests.{leb-false, ltb-false}
use Rattle.refusal.specs.Verdict.{Ground, Verdict, accepted, refused, verdict}
use Rattle.refusal.specs.declared.Refusal.{Refusal}
use Rattle.refusal.proofs.Verdict.{none-holds, verdict-later}
use Rattle.alphabets.specs.Alphabets.{residue, foreign, foreign_normal}
use Rattle.stretch.specs.Class.{every}
use Rattle.alphabets.proofs.Foreign.{foreign-le, foreign-none}
use Rattle.normal_form.specs.Form.{Allele, Normal, altered, normal}
use Rattle.normal_form.proofs.Laws.{normal-ordered, normal-inside}
use Rattle.moved.specs.declared.Moved.{Moved}
use Rattle.normal_form_calls.specs.Calls.{given_grounds, form_grounds}
use Rattle.normal_form_calls.proofs.Answers.{clean-allele}
use Rattle.image.specs.Fields.{issued, record_capacity, journal_count, journal_capacity, pool_used, pool_capacity}
use Rattle.image.specs.Fields.{reference_length, status_of, entry_of, active, inactive}
use Rattle.image.specs.Formed.{well_formed}
use Rattle.image.proofs.WellFormed.{FormedEntry, Formed, well_formed-formed}
use Rattle.image.proofs.Lengths.{formed-inside}
use Rattle.changes.specs.Changes.{withdrawn, reentered, numbered, undone, latest, sealed}
use Rattle.std.specs.Prelude.{Result, Ok, Err}
use Rattle.refusal.specs.Keeps.{Keeps}
use Rattle.effects.proofs.Seen.{Stays, Journalled, Issues}
use Rattle.effects.proofs.Read.{Inside}
use Rattle.effects.proofs.Marked.{withdrawn-seen, reentered-seen, undone-seen, sealed-seen}
use Rattle.effects.proofs.Numbered.{numbered-seen}
use Rattle.effects.proofs.StayFormed.{journalled-formed, taken-back-formed, closed-formed}
use Rattle.effects.proofs.NumberedFormed.{issues-formed}
use Rattle.form_entry.specs.declared.Way.TheVariants.{New as new, Again as again, Known as known}
use Rattle.form_entry.specs.Found.{◌under◌, found, answer_of, entered}
use Rattle.form_entry.specs.Calls.{room_grounds}
use Rattle.entry.specs.Calls.{Enters}
use Rattle.register.specs.Calls.{Withdraws, Undoes, Seals}
use Rattle.history.specs.Events.{Event, entry, withdrawal, undo, seal, refusal}
use Rattle.history.specs.Runs.{Call, enters, withdraws, undoes, seals, entry_event, undo_event, outcome_event}
use Rattle.history.specs.Demand.{Live, sequence_of}
use Rattle.history.proofs.View.{Moves}
use Rattle.history.proofs.Proper.{Proper, has-stands, has-proper, proper-has}
use Rattle.history.proofs.Found.{Match, Unmatched, Finding, active_as, withdrawn_as, nowhere, found-finding}
use Rattle.history.proofs.Shows.{shows, live_back, stays-proper, restated-keeps, journalled-changes}
use Rattle.history.proofs.Shows.{closed-sealed, issues-cases, issues-changes, issues-has}
use Rattle.register.proofs.Accepted.{Withdrawable, accepted-withdrawable, accepted-undoable}
use Rattle.history.proofs.Passed.{Enterable, accepted-enterable}

zero-or-one : (s : ℕ) → s ≤ 1 → (s ≡ 0) ⊎ (s ≡ 1)
zero-or-one zero h = inl refl
zero-or-one (suc s) h = inr (omega (arith, h))

-- a well-formed image whose records are normal forms of changed alleles on the reference
pub record State (r b : List ℕ) : Type 0 where
  pub formed : well_formed b ≡ true
  pub proper : (i : ℕ) → Live b i → Proper r b i

pub record Step (r b : List ℕ) (e : Event) (left : List ℕ) : Type 1 where
  pub state : State r left
  pub moves : Moves (shows r b) e (shows r left)

module _ (r b : List ℕ) (state : State r b) where
  image : Formed b
  image = well_formed-formed b state.formed

  inside : Inside b
  inside = formed-inside b image

  -- a change that keeps the numbers
  stays-state : (c : List ℕ) → well_formed c ≡ true → Stays b c → issued c ≡ issued b → State r c
  stays-state c formed s same =
      record {
        formed = formed;
        proper = λ i l. let m = live_back b c same i l in stays-proper r b c s i m (state.proper i m);
      }

  journalled-state : (c : List ℕ) (i s : ℕ) → Journalled b c i s → s ≤ 1 → Live b i
      → journal_count b < journal_capacity b → State r c
  journalled-state c i s j small l room =
      let now = j.restated in
      let formed = journalled-formed b c state.formed i s j small l.from l.to room in
      stays-state c formed now.stays now.numbers

  withdrawn-step : (i : ℕ) → Withdrawable b i → Step r b (withdrawal i) (withdrawn b i)
  withdrawn-step i w =
      let l : Live b i = record { from = w.issued.from; to = w.issued.to } in
      let s = withdrawn-seen b image.header inside i l.from l.to w.room in
      record {
        state = journalled-state (withdrawn b i) i inactive s (omega arith) l w.room;
        moves = record { live = l; on = w.on; changes = journalled-changes r b (withdrawn b i) i inactive l s };
      }

  latest-live : 1 ≤ journal_count b → Live b (latest b)
  unfolding latest
  latest-live some =
      let e : FormedEntry b (journal_count b - 1) = image.entries (journal_count b - 1) (omega (arith, some)) in
      record { from = e.some; to = e.numbered }

  -- the entry that an undo takes from the journal is the last
  taken-last : (c : List ℕ) → journal_count c + 1 ≡ journal_count b → entry_of b (journal_count c) ≡ latest b
  unfolding latest
  taken-last c e = let m : journal_count c ≡ journal_count b - 1 = omega (arith, e) in ap (entry_of b) m

  undone-step : 1 ≤ journal_count b → Step r b (undo (latest b)) (undone b)
  undone-step some =
      let c = undone b in
      let status = 1 - status_of b (latest b) in
      let live = latest-live some in
      let s = undone-seen b image.header inside some live.from live.to in
      let now = s.restated in
      let formed = taken-back-formed b c state.formed (latest b) status s (omega arith) in
      record {
        state = stays-state c formed now.stays now.numbers;
        moves = record {
          count = omega (arith, s.count);
          last = taken-last c s.count;
          live = live;
          turned = now.now;
          keeps = restated-keeps r b c (latest b) status now;
        };
      }

  sealed-step : Step r b seal (sealed b)
  sealed-step =
      let s = sealed-seen b image.header inside in
      record {
        state = stays-state (sealed b) (closed-formed b (sealed b) state.formed s) s.stays s.numbers;
        moves = closed-sealed r b (sealed b) s;
      }

  live-status : (j : ℕ) → Live b j → status_of b j ≤ 1
  live-status j l =
      let e : suc (j - 1) ≡ j = omega (arith, l.from) in
      let record_of = image.records (j - 1) (omega (arith, l.from, l.to)) in
      subst (λ (k : ℕ). status_of b k ≤ 1) e record_of.status

  module _ (start end : ℕ) (x : List ℕ) (ok : Enterable b r start end x) where
    abbrev f : Normal
    f = normal r start end x

    abbrev t : List ℕ
    t = altered r start end x

    known_step : (i : ℕ) → Match b f active i → Step r b (entry known i t) b
    known_step i m =
        let stands = has-stands r b i start end x m.has in
        record {
          state = state;
          moves = record { live = m.live; stands = stands; on = m.status-is; same = refl };
        }

    again-room : (i : ℕ) → found b f ≡ again under i → journal_count b < journal_capacity b
    again-room i e = leb-false _ _ (none-holds (room_grounds b f (again under i)) (rw e at ok.room) 0)

    again-step : (i : ℕ) → found b f ≡ again under i → Match b f inactive i → Step r b (entry again i t) (reentered b i)
    again-step i e m =
        let c = reentered b i in
        let l = m.live in
        let room = again-room i e in
        let s = reentered-seen b image.header inside i l.from l.to room in
        record {
          state = journalled-state c i active s (omega arith) l room;
          moves = record {
            live = l;
            stands = has-stands r b i start end x m.has;
            off = m.status-is;
            changes = journalled-changes r b c i active l s;
          };
        }

    -- the form that is new: within the reference, of residues, with room, and of a sequence that no number stands for
    allele : Allele r start end x
    allele = clean-allele r start end x ok.form

    ordered : f.start ≤ f.end
    ordered = normal-ordered r start end x allele.ordered

    within : f.end ≤ reference_length b
    within = omega (arith, normal-inside r start end x allele.inside, ok.reference)

    residues : every residue f.replacement ≡ true
    unfolding form_grounds
    residues =
        let xs = f.replacement in
        let five = foreign_normal xs ∷ [] in
        let clean = verdict-later (given_grounds r start end x) five ok.form in
        let none = ltb-false (foreign xs) (length xs) (none-holds five clean 0) in
        foreign-none xs (omega (arith, none, foreign-le xs))

    unlike : Unmatched b f active → Unmatched b f inactive → (j : ℕ) → Live b j → sequence_of r b j ≡ t → ⊥
    unlike none-active none-inactive j l e =
        let has = proper-has r b j start end x ok.changed (state.proper j l) e in
        ⊎_elim
        (λ off. none-inactive j (record { live = l; status-is = off; has = has }))
        (λ on. none-active j (record { live = l; status-is = on; has = has }))
        (zero-or-one (status_of b j) (live-status j l))

    module _ (e : found b f ≡ new under (issued b + 1)) where
      abbrev grounds : List Ground
      grounds = room_grounds b f (new under (issued b + 1))

      roomy : verdict grounds ≡ accepted
      roomy = rw e at ok.room

      record-free : issued b < record_capacity b
      record-free = leb-false _ _ (none-holds grounds roomy 0)

      pool-free : pool_used b + length f.replacement ≤ pool_capacity b
      pool-free = ltb-false _ _ (none-holds grounds roomy 1)

      journal-free : journal_count b < journal_capacity b
      journal-free = leb-false _ _ (none-holds grounds roomy 2)

      new-seen : Issues b (numbered b f) f
      new-seen =
          let h = image.header in
          numbered-seen b h f record-free journal-free pool-free inside
          (omega (arith, ordered, within, h.reference-limit))
          (omega (arith, within, h.reference-limit))

      new-formed : well_formed (numbered b f) ≡ true
      new-formed =
          issues-formed b (numbered b f) state.formed f new-seen ordered within residues
          record-free journal-free pool-free

      new-proper : (j : ℕ) → Live (numbered b f) j → Proper r (numbered b f) j
      new-proper j l =
          let c = numbered b f in
          let has = issues-has r b c f new-seen in
          issues-cases r b c f new-seen j l
          (λ m. stays-proper r b c new-seen.stays j m (state.proper j m))
          (λ q. subst (Proper r c) (sym q) (has-proper r c (issued b + 1) start end x ok.changed has))

      new-step : Unmatched b f active → Unmatched b f inactive → Step r b (entry new (issued b + 1) t) (numbered b f)
      new-step none-active none-inactive =
          let c = numbered b f in
          record {
            state = record { formed = new-formed; proper = new-proper };
            moves = record {
              fresh = λ l. omega (arith, l.to);
              unlike = unlike none-active none-inactive;
              stands = has-stands r c (issued b + 1) start end x (issues-has r b c f new-seen);
              changes = issues-changes r b c f new-seen;
            };
          }

    entry-step : (by : Moved) → Finding b f
        → Step r b (entry_event t (Ok (answer_of (found b f) by))) (entered b f (found b f))
    entry-step by (active_as i e m) = rw e (known_step i m)
    entry-step by (withdrawn_as i e m) = rw e (again-step i e m)
    entry-step by (nowhere e none-active none-inactive) = rw e (new-step e none-active none-inactive)

  -- an accepted call makes its step, and a refused one leaves all as it was
  by-verdict : {A : Type 0} {v : Verdict} {said : A} {answer : Result A Refusal} {changed left : List ℕ}
      (event : Result A Refusal → Event) → ((why : Refusal) → event (Err why) ≡ refusal)
      → Keeps v said b changed answer left
      → (v ≡ accepted → Step r b (event (Ok said)) changed)
      → Step r b (event answer) left
  by-verdict {v = accepted} event refuses p go = rw (p.leaves, p.answers) (go refl)
  by-verdict {v = refused why} event refuses p go =
      rw (p.leaves, p.answers, refuses why) (record { state = state; moves = refl })

  pub call_step : {e : Event} {left : List ℕ} → Call r b e left → Step r b e left
  unfolding Enters Withdraws Undoes Seals
  call_step (enters digest start end x answer p) =
      by-verdict (entry_event (altered r start end x)) (λ why. refl) p
      (λ v. entry-step start end x (accepted-enterable b digest r start end x v) _
      (found-finding b (normal r start end x)))
  call_step (withdraws i answer p) =
      by-verdict (outcome_event (withdrawal i)) (λ why. refl) p (λ v. withdrawn-step i (accepted-withdrawable b i v))
  call_step (undoes answer p) = by-verdict undo_event (λ why. refl) p (λ v. undone-step (accepted-undoable b v).some)
  call_step (seals answer p) = by-verdict (outcome_event seal) (λ why. refl) p (λ v. sealed-step)
