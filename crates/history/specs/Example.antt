-- Document 01, "Worked alleles": the register with room for 2 records, 3 journal entries and 15 residues, and two
-- calls more, so that each kind of call is accepted once.
use Rattle.std.specs.Prelude.{ℕ, List, [], ◌∷◌, replicate, Result, Ok, Err}
use Prim.Native.String.{String}
use Rattle.stretch.specs.Ascii.{ascii}
use Rattle.refusal.specs.declared.Refusal.{Refusal}
use Rattle.refusal.specs.declared.Reason.TheVariants.{NoFreeRecord}
use Rattle.normal_form.specs.Form.{altered, normal}
use Rattle.moved.specs.declared.Moved.{Moved}
use Rattle.moved.specs.Moved.{by}
use Rattle.form_entry.specs.declared.Entered.{Entered}
use Rattle.form_entry.specs.declared.Way.{Way}
use Rattle.form_entry.specs.declared.Way.TheVariants.{New as new, Again as again, Known as known}
use Rattle.changes.specs.Changes.{blanked, numbered, reentered, withdrawn, undone, sealed}
use Rattle.entry.specs.Calls.{Enters}
use Rattle.blank.specs.Calls.{Blanks}
use Rattle.register.specs.Calls.{Withdraws, Undoes, Seals}
use Rattle.history.specs.Events.{Event, entry, undo, withdrawal, seal, refusal}

-- the reference, its digest, and a buffer of just the room, filled with some byte
abbrev pub reference : List ℕ
reference = ascii "TCAGCAGCAGT"

abbrev pub digest : List ℕ
digest = ascii "zR7HujP8jYfpROv-hBLZMHuR_5P4Zo0q"

abbrev pub room : List ℕ
room = replicate 143 0xAA

-- the images, one after another: blank; case 1; undo; case 4; case 2; withdrawal of 1; seal
unfoldable pub blank : List ℕ
blank = blanked room 11 digest 2 3 15

unfoldable pub one : List ℕ
one = numbered blank (normal reference 4 4 (ascii "CAG"))

unfoldable pub one_undone : List ℕ
one_undone = undone one

unfoldable pub two : List ℕ
two = numbered one_undone (normal reference 2 3 (ascii "T"))

unfoldable pub one_again : List ℕ
one_again = reentered two 1

unfoldable pub one_withdrawn : List ℕ
one_withdrawn = withdrawn one_again 1

unfoldable pub closed : List ℕ
closed = sealed one_withdrawn

-- an accepted entry's answer
abbrev pub answer : Way → ℕ → Moved → Entered
answer w i m = record { found = w; number = i; moved = m }

-- an entry on that reference
abbrev pub Entry : List ℕ → ℕ → ℕ → String → Result Entered Refusal → List ℕ → Type 0
Entry b start end x = Enters b digest reference start end (ascii x)

-- each call, its answer and the image that it leaves
pub record Played : Type 0 where
  pub first : Blanks room 11 digest 2 3 15 (Ok tt) blank
  pub case-1 : Entry blank 4 4 "CAG" (Ok (answer new 1 (by 3 0 6 0))) one
  pub undone-1 : Undoes one (Ok 1) one_undone
  pub case-4 : Entry one_undone 2 3 "T" (Ok (answer new 2 (by 0 0 0 0))) two
  pub case-2 : Entry two 1 2 "CAGC" (Ok (answer again 1 (by 0 0 8 0))) one_again
  pub case-6 : Entry one_again 3 5 "TTT" (Err (record { reason = NoFreeRecord; value = 2 })) one_again
  pub case-5 : Entry one_again 1 5 "CTGC" (Ok (answer known 2 (by 0 1 0 2))) one_again
  pub withdrawn-1 : Withdraws one_again 1 (Ok tt) one_withdrawn
  pub sealed-all : Seals one_withdrawn (Ok tt) closed

-- the altered sequence that an entry makes
abbrev pub made : ℕ → ℕ → String → List ℕ
made start end x = altered reference start end (ascii x)

-- the history of these calls, the latest first
abbrev pub events : List Event
events =
    seal
    ∷ withdrawal 1
    ∷ entry known 2 (made 1 5 "CTGC")
    ∷ refusal
    ∷ entry again 1 (made 1 2 "CAGC")
    ∷ entry new 2 (made 2 3 "T")
    ∷ undo 1
    ∷ entry new 1 (made 4 4 "CAG")
    ∷ []
