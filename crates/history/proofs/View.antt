-- What a register shows of itself, and how each event of a history moves it.
use Prim.Native.Nat.{ℕ, suc, ◌-◌, ◌<◌}
use mathlib.Core.Path.{◌≡◌}
use mathlib.Core.List.{List}
use Rattle.form_entry.specs.declared.Way.TheVariants.{New as new, Again as again, Known as known}
use Rattle.history.specs.Events.{Event, entry, withdrawal, undo, seal, refusal}

pub record View : Type 1 where
  -- the number stands for something
  pub Live : ℕ → Type 0
  -- for this sequence, and with this status
  pub sequence : ℕ → List ℕ
  pub status : ℕ → ℕ
  -- the journal's length and its entries, from 0
  pub count : ℕ
  pub journal : ℕ → ℕ

-- all but the number i is as it was
pub record KeepsOthers (v w : View) (i : ℕ) : Type 0 where
  pub lives : (j : ℕ) → v.Live j → w.Live j
  pub lived : (j : ℕ) → (j ≡ i → ⊥) → w.Live j → v.Live j
  pub sequences : (j : ℕ) → v.Live j → w.sequence j ≡ v.sequence j
  pub statuses : (j : ℕ) → v.Live j → (j ≡ i → ⊥) → w.status j ≡ v.status j
  pub journals : (k : ℕ) → k < v.count → w.journal k ≡ v.journal k

-- the number i gets a status and is journalled
pub record Changes (v w : View) (i : ℕ) (status : ℕ) : Type 0 where
  pub keeps : KeepsOthers v w i
  pub lives : w.Live i
  pub now : w.status i ≡ status
  pub count : w.count ≡ suc v.count
  pub last : w.journal v.count ≡ i

-- an entry answered new: its number stood for nothing, and no number stood for its sequence
pub record New (v w : View) (i : ℕ) (t : List ℕ) : Type 1 where
  pub fresh : v.Live i → ⊥
  pub unlike : (j : ℕ) → v.Live j → v.sequence j ≡ t → ⊥
  pub stands : w.sequence i ≡ t
  pub changes : Changes v w i 1

-- an entry answered again: its number stood for its sequence and was inactive
pub record Again (v w : View) (i : ℕ) (t : List ℕ) : Type 1 where
  pub live : v.Live i
  pub stands : v.sequence i ≡ t
  pub off : v.status i ≡ 0
  pub changes : Changes v w i 1

-- an entry answered known: its number stood for its sequence and was active
pub record Known (v w : View) (i : ℕ) (t : List ℕ) : Type 1 where
  pub live : v.Live i
  pub stands : v.sequence i ≡ t
  pub on : v.status i ≡ 1
  pub same : w ≡ v

pub record Withdrawn (v w : View) (i : ℕ) : Type 1 where
  pub live : v.Live i
  pub on : v.status i ≡ 1
  pub changes : Changes v w i 0

-- an undo: the last number of the journal gets its other status
pub record Undone (v w : View) (i : ℕ) : Type 1 where
  pub count : v.count ≡ suc w.count
  pub last : v.journal w.count ≡ i
  pub live : v.Live i
  pub turned : w.status i ≡ 1 - v.status i
  pub keeps : KeepsOthers v w i

-- a seal empties the journal; no number is 0, so all of them are as they were
pub record Sealed (v w : View) : Type 1 where
  pub count : w.count ≡ 0
  pub nought : w.Live 0 → ⊥
  pub keeps : KeepsOthers v w 0

abbrev pub Moves : View → Event → View → Type 1
Moves v (entry new i t) w = New v w i t
Moves v (entry again i t) w = Again v w i t
Moves v (entry known i t) w = Known v w i t
Moves v (withdrawal i) w = Withdrawn v w i
Moves v (undo i) w = Undone v w i
Moves v seal w = Sealed v w
Moves v refusal w = w ≡ v
