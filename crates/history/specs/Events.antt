-- Histories: what each call came to, which changes stand, and the set of altered sequences that they make.
use Rattle.std.specs.Prelude.{ℕ, ◌≡◌, ◌⊎◌, Bool, true, false, cond, List, [], ◌∷◌, ◌++◌, eqb, drop}
use Rattle.stretch.specs.Same.{same}
use Rattle.form_entry.specs.declared.Way.{Way}
use Rattle.form_entry.specs.declared.Way.TheVariants.{New as new, Again as again, Known as known}

-- an accepted entry, with its answer, its number and the altered sequence that it made; an accepted withdrawal
-- of a number; an accepted undo, with the number answered; an accepted seal; a refused call
pub data Event : Type 0 where
  entry : Way → ℕ → List ℕ → Event
  withdrawal : ℕ → Event
  undo : ℕ → Event
  seal : Event
  refusal : Event

-- it occurs in a history
abbrev pub Occurs : Event → List Event → Type 0
Occurs e [] = ⊥
Occurs e (d ∷ h) = (e ≡ d) ⊎ Occurs e h

-- a change: a sequence entered under a number, or a number withdrawn
pub data Change : Type 0 where
  added : ℕ → List ℕ → Change
  removed : ℕ → Change

-- the number that it is about
abbrev pub number_of : Change → ℕ
number_of (added i t) = i
number_of (removed i) = i

-- the changes that stand and can be undone, the latest first, as in histories: "new", "again" and a withdrawal
-- make one, an undo takes the latest back, and a seal leaves none
abbrev pub unsealed : List Event → List Change
unsealed [] = []
unsealed (entry new i t ∷ h) = added i t ∷ unsealed h
unsealed (entry again i t ∷ h) = added i t ∷ unsealed h
unsealed (entry known i t ∷ h) = unsealed h
unsealed (withdrawal i ∷ h) = removed i ∷ unsealed h
unsealed (undo i ∷ h) = drop 1 (unsealed h)
unsealed (seal ∷ h) = []
unsealed (refusal ∷ h) = unsealed h

-- the changes that stand and can't be undone: a seal puts those above in front of these, and nothing else touches them
abbrev pub sealed : List Event → List Change
sealed [] = []
sealed (entry way i t ∷ h) = sealed h
sealed (withdrawal i ∷ h) = sealed h
sealed (undo i ∷ h) = sealed h
sealed (seal ∷ h) = unsealed h ++ sealed h
sealed (refusal ∷ h) = sealed h

-- all changes that stand
abbrev pub standing : List Event → List Change
standing h = unsealed h ++ sealed h

-- what a number stands for: the altered sequence of the entry that issued it
abbrev pub meant : List Event → ℕ → List ℕ
meant [] i = []
meant (entry new j t ∷ h) i = cond (eqb j i) t (meant h i)
meant (entry again j t ∷ h) i = meant h i
meant (entry known j t ∷ h) i = meant h i
meant (withdrawal j ∷ h) i = meant h i
meant (undo j ∷ h) i = meant h i
meant (seal ∷ h) i = meant h i
meant (refusal ∷ h) i = meant h i

-- whether a sequence is in the set that the changes make of the empty one: an entry puts its sequence in, a
-- withdrawal takes out what its number stands for
abbrev pub replayed : (ℕ → List ℕ) → List Change → List ℕ → Bool
replayed meaning [] t = false
replayed meaning (added i u ∷ cs) t = cond (same u t) true (replayed meaning cs t)
replayed meaning (removed i ∷ cs) t = cond (same (meaning i) t) false (replayed meaning cs t)
