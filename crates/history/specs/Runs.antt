-- How calls on an image make a history: by their own promises, one reference being lent to all of them.
use Rattle.std.specs.Prelude.{ℕ, List, [], ◌∷◌, Result, Ok, Err}
use Rattle.refusal.specs.declared.Refusal.{Refusal}
use Rattle.normal_form.specs.Form.{altered}
use Rattle.form_entry.specs.declared.Entered.{Entered}
use Rattle.entry.specs.Calls.{Enters}
use Rattle.register.specs.Calls.{Withdraws, Undoes, Seals}
use Rattle.history.specs.Events.{Event, entry, withdrawal, undo, seal, refusal}

-- what an answer is in the history
abbrev pub entry_event : List ℕ → Result Entered Refusal → Event
entry_event t (Ok a) = entry a.found a.number t
entry_event t (Err r) = refusal

abbrev pub undo_event : Result ℕ Refusal → Event
undo_event (Ok i) = undo i
undo_event (Err r) = refusal

abbrev pub outcome_event : Event → Result (Unit {0}) Refusal → Event
outcome_event e (Ok u) = e
outcome_event e (Err r) = refusal

-- a call that keeps its promise on an image b: what it comes to in the history, and the image that it leaves
pub data Call (r b : List ℕ) : Event → List ℕ → Type 0 where
  enters : (digest : List ℕ) (start end : ℕ) (x : List ℕ) (answer : Result Entered Refusal) {left : List ℕ}
      → Enters b digest r start end x answer left → Call r b (entry_event (altered r start end x) answer) left
  withdraws : (i : ℕ) (answer : Result (Unit {0}) Refusal) {left : List ℕ}
      → Withdraws b i answer left → Call r b (outcome_event (withdrawal i) answer) left
  undoes : (answer : Result ℕ Refusal) {left : List ℕ} → Undoes b answer left → Call r b (undo_event answer) left
  seals : (answer : Result (Unit {0}) Refusal) {left : List ℕ}
      → Seals b answer left → Call r b (outcome_event seal answer) left

-- calls that lead from an image b to another, and their history, the latest first
infixl 20 ◌then◌
pub data Run (r b : List ℕ) : List Event → List ℕ → Type 0 where
  no_calls : Run r b [] b
  ◌then◌ : {h : List Event} {e : Event} {image left : List ℕ}
      → Run r b h image → Call r image e left → Run r b (e ∷ h) left
