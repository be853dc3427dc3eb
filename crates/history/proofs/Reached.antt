-- Demand 3: along every run from a history and an image that agree, and so from a blank image.
use Prim.Native.Nat.{ℕ}
use native.Mathlib.Omega.{arith}
use mathlib.Core.Path.{◌≡◌}
use mathlib.Core.Bool.{true}
use mathlib.Core.List.{List, [], ◌∷◌, ◌++◌, append-nil}
use lib.ListN.{length}
use Rattle.std.specs.Prelude.{Ok}
use Rattle.image.specs.Formed.{well_formed}
use Rattle.refusal.proofs.Verdict.{told-accepted}
use Rattle.refusal.specs.Verdict.{verdict}
use Rattle.changes.specs.Changes.{blanked}
use Rattle.blank.specs.Calls.{Blanks, blank_grounds}
use Rattle.blank.proofs.BlankTests.{accepted-blankable}
use Rattle.effects.proofs.BlankedFormed.{blankable-seen, blankable-formed}
use Rattle.form_entry.specs.declared.Way.{Way}
use Rattle.history.specs.Events.{Event, entry, undo}
use Rattle.history.specs.Runs.{Call, Run, no_calls, ◌then◌}
use Rattle.history.specs.Demand.{Live, Demand, EntryDemand, UndoDemand}
use Rattle.history.proofs.Invariant.{Inv, inv-empty, inv-moved}
use Rattle.history.proofs.Shows.{shows}
use Rattle.history.proofs.Steps.{State, Step, call_step}
use Rattle.history.proofs.ImageDemand.{inv-demand, entry-demanded, undo-demanded}

-- a history and an image that agree
pub record Agree (r : List ℕ) (h : List Event) (b : List ℕ) : Type 0 where
  pub state : State r b
  pub inv : Inv h (shows r b)

module _ {r b left : List ℕ} {h : List Event} {e : Event} (a : Agree r h b) (call : Call r b e left) where
  called : Step r b e left
  called = call_step r b a.state call

  agree_then : Agree r (e ∷ h) left
  agree_then =
      record { state = called.state; inv = inv-moved e a.inv called.moves }

-- and stay so along every run
pub agree_on : {r b₀ b : List ℕ} {h₀ h : List Event} → Agree r h₀ b₀ → Run r b₀ h b → Agree r (h ++ h₀) b
agree_on a no_calls = a
agree_on a (run then call) = agree_then (agree_on a run) call

module _ {r b₀ b : List ℕ} {h₀ h : List Event} (a : Agree r h₀ b₀) where
  -- a run leads to well-formed images
  pub run-formed : Run r b₀ h b → well_formed b ≡ true
  run-formed run = (agree_on a run).state.formed

  -- that keep demand 3
  pub run-demand : Run r b₀ h b → Demand r (h ++ h₀) b
  run-demand run = inv-demand r b (agree_on a run).inv

  -- of its last call: an entry
  pub run-entry-demand : {way : Way} {i : ℕ} {t : List ℕ} → Run r b₀ (entry way i t ∷ h) b
      → EntryDemand r (h ++ h₀) b way i t
  run-entry-demand (run then call) =
      let before = agree_on a run in
      entry-demanded r b before.inv _ _ _ (called before call).moves

  -- an undo
  pub run-undo-demand : {i : ℕ} → Run r b₀ (undo i ∷ h) b → UndoDemand (h ++ h₀) i
  run-undo-demand (run then call) =
      let before = agree_on a run in
      undo-demanded r b before.inv _ (called before call).moves

-- from a blank image, whatever the reference
module _ (b : List ℕ) (n : ℕ) (digest : List ℕ) (records journal pool : ℕ) (blank : List ℕ)
    (p : Blanks b n digest records journal pool (Ok tt) blank) (r : List ℕ)
  where
    -- which agrees with the empty history
    pub blank-agrees : Agree r [] blank
    blank-agrees =
        let v = (told-accepted (verdict (blank_grounds (length b) n digest records journal pool)) tt tt p.answers).0 in
        let k = accepted-blankable (length b) n digest records journal pool v in
        let c = blanked b n digest records journal pool in
        let s = blankable-seen b n digest records journal pool k in
        let none : (i : ℕ) → Live c i → ⊥ = λ i l. omega (arith, l.from, l.to, s.numbers) in
        let e : blank ≡ c = rw v at p.leaves in
        rw e (record {
          state = record {
            formed = blankable-formed b n digest records journal pool k;
            proper = λ i l. absurd (none i l);
          };
          inv = inv-empty (shows r c) none s.count;
        })

    module _ (h : List Event) (left : List ℕ) where
      pub blank-run-formed : Run r blank h left → well_formed left ≡ true
      blank-run-formed = run-formed blank-agrees

      pub blank-run-demand : Run r blank h left → Demand r h left
      blank-run-demand run = rw (append-nil h) at (run-demand blank-agrees run)

      pub blank-run-entry-demand : (way : Way) (i : ℕ) (t : List ℕ) → Run r blank (entry way i t ∷ h) left
          → EntryDemand r h left way i t
      blank-run-entry-demand way i t run = rw (append-nil h) at (run-entry-demand blank-agrees run)

      pub blank-run-undo-demand : (i : ℕ) → Run r blank (undo i ∷ h) left → UndoDemand h i
      blank-run-undo-demand i run = rw (append-nil h) at (run-undo-demand blank-agrees run)
