-- Demand 3, of an image that a history led to.
use Rattle.std.specs.Prelude.{ℕ, ◌≤◌, ◌≡◌, true, ◌↔◌, List, ◌∷◌, length}
use Rattle.normal_form.specs.Form.{altered}
use Rattle.image.specs.Fields.{issued, journal_count, start_of, end_of, status_of, replacement_of, active}
use Rattle.form_entry.specs.declared.Way.{Way}
use Rattle.form_entry.specs.declared.Way.TheVariants.{New as new}
use Rattle.history.specs.Events.{Event, entry, Occurs, Change, number_of, unsealed, standing, meant, replayed}

-- a number stands for something: it is issued
pub record Live (b : List ℕ) (i : ℕ) : Type 0 where
  pub from : 1 ≤ i
  pub to : i ≤ issued b

-- the altered sequence of a number's record
abbrev pub sequence_of : List ℕ → List ℕ → ℕ → List ℕ
sequence_of r b i = altered r (start_of b i) (end_of b i) (replacement_of b i)

-- a number stands for this sequence, and is active
pub record Active (r b : List ℕ) (i : ℕ) (t : List ℕ) : Type 0 where
  pub live : Live b i
  pub on : status_of b i ≡ active
  pub stands : sequence_of r b i ≡ t

-- some active number stands for it
pub record SomeActive (r b t : List ℕ) : Type 0 where
  pub number : ℕ
  pub shown : Active r b number t

-- what holds after every history
pub record Demand (r : List ℕ) (h : List Event) (b : List ℕ) : Type 0 where
  -- the changes that stand, replayed on an empty set, give exactly the altered sequences of the active numbers
  pub replays : (t : List ℕ) → (replayed (meant h) (standing h) t ≡ true) ↔ SomeActive r b t
  -- of two accepted entries, the numbers are one exactly when the altered sequences are
  pub one : (w v : Way) (i j : ℕ) (t u : List ℕ) → Occurs (entry w i t) h → Occurs (entry v j u) h → (i ≡ j) ↔ (t ≡ u)
  -- a number that was answered stands for that entry's altered sequence ever since
  pub stays : (w : Way) (i : ℕ) (t : List ℕ) → Occurs (entry w i t) h → Live b i × (sequence_of r b i ≡ t)
  -- every number issued was answered "new", by an entry that made the altered sequence that it stands for
  pub issuer : (i : ℕ) → Live b i → Occurs (entry new i (sequence_of r b i)) h
  -- and no two of them stand for one sequence
  pub distinct : (i j : ℕ) → Live b i → Live b j → sequence_of r b i ≡ sequence_of r b j → i ≡ j
  -- the journal count is the number of changes that can be undone
  pub journal : journal_count b ≡ length (unsealed h)

-- and of the entry that was accepted last
pub record EntryDemand (r : List ℕ) (h : List Event) (b : List ℕ) (w : Way) (i : ℕ) (t : List ℕ) : Type 0 where
  -- its number is active and has its sequence
  pub active : Active r b i t
  -- its number is an earlier one exactly when the entry that issued that one made the same sequence
  pub earlier : (j : ℕ) (u : List ℕ) → Occurs (entry new j u) h → (i ≡ j) ↔ (t ≡ u)
  -- and it is new exactly when no entry before it was answered with its number
  pub first : (w ≡ new) ↔ ((v : Way) (u : List ℕ) → Occurs (entry v i u) h → ⊥)

-- and of the undo that was accepted last
pub record UndoDemand (h : List Event) (i : ℕ) : Type 0 where
  pub taken : Change
  pub others : List Change
  -- the change that it took back is the latest that was not sealed
  pub latest : unsealed h ≡ taken ∷ others
  -- and its number was answered
  pub answered : number_of taken ≡ i
