-- What an accepted entry tells of the image.
use Prim.Native.Nat.{ℕ}
use mathlib.Core.Path.{◌≡◌}
use mathlib.Core.Bool.{false}
use mathlib.Core.List.{List, [], ◌∷◌, ◌++◌}
use lib.ListN.{length}
use borrow.Author.Tests.{not-false, eqb-true}
use Rattle.stretch.specs.Same.{same}
use Rattle.refusal.specs.Verdict.{accepted, verdict}
use Rattle.refusal.proofs.Verdict.{none-holds, verdict-fewer, verdict-later}
use Rattle.normal_form.specs.Form.{altered, normal}
use Rattle.normal_form_calls.specs.Calls.{form_grounds}
use Rattle.image.specs.Fields.{reference_length}
use Rattle.form_entry.specs.Found.{found}
use Rattle.form_entry.specs.Calls.{room_grounds}
use Rattle.entry.specs.Calls.{image_grounds, unchanged_allele, change_grounds, entry_grounds}

-- an entry: an image of this reference, and a changed allele that passes the normal form's tests, with room for it
pub record Enterable (b r : List ℕ) (start end : ℕ) (x : List ℕ) : Type 0 where
  pub reference : length r ≡ reference_length b
  pub form : verdict (form_grounds r start end x) ≡ accepted
  pub changed : same r (altered r start end x) ≡ false
  pub room : verdict (room_grounds b (normal r start end x) (found b (normal r start end x))) ≡ accepted

pub accepted-enterable : (b digest r : List ℕ) (start end : ℕ) (x : List ℕ)
    → verdict (entry_grounds b digest r start end x) ≡ accepted → Enterable b r start end x
unfolding entry_grounds image_grounds change_grounds
accepted-enterable b digest r start end x v =
    let of_image = image_grounds b digest r in
    let of-form = form_grounds r start end x in
    let unchanged = unchanged_allele r start end x ∷ [] in
    let room = room_grounds b (normal r start end x) (found b (normal r start end x)) in
    let image = verdict-fewer of_image (change_grounds r start end x ++ room) v in
    let rest = verdict-later of_image (change_grounds r start end x ++ room) v in
    let change = verdict-fewer (change_grounds r start end x) room rest in
    record {
      reference = eqb-true _ _ (not-false _ (none-holds of_image image 2));
      form = verdict-fewer of-form unchanged change;
      changed = none-holds unchanged (verdict-later of-form unchanged change) 0;
      room = verdict-later (change_grounds r start end x) room rest;
    }
