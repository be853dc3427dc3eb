-- Document 01's register example, computed.
use mathlib.Core.Path.{refl}
use Rattle.stretch.specs.Below.{below}
use Rattle.stretch.specs.Common.{lcp, lcs}
use Rattle.stretch.specs.Over.{over}
use Rattle.stretch.specs.Same.{same}
use Rattle.std.specs.Prelude.{Ok}
use Rattle.stretch.specs.Class.{every, first_outside}
use Rattle.alphabets.specs.Alphabets.{letter, residue, base64url, digest_text_grounds}
use Rattle.normal_form.specs.Form.{altered, shorter, within, ahead, behind, kind_in, kind_of, changed_form, normal}
use Rattle.normal_form_calls.specs.Calls.{form_grounds}
use Rattle.image.specs.Numbers.{little, bytes, number, numbers, put}
use Rattle.image.specs.Fields.{record_size, journal_place, pool_place, header_of}
use Rattle.image.specs.Fields.{record_place, record_of, replacement_of}
use Rattle.image.specs.Formed.{laid_out, counts_within, within_limits, header_formed, lengths, record_good, entry_good}
use Rattle.image.specs.Formed.{well_formed}
use Rattle.moved.specs.Moved.{moved_by}
use Rattle.lookup.specs.Lookup.{holds, lowest, lowest_holding}
use Rattle.form_entry.specs.Found.{found}
use Rattle.changes.specs.Changes.{blanked, journalled, marked, withdrawn, reentered, recorded, pooled, counted}
use Rattle.changes.specs.Changes.{numbered, latest, undone, sealed}
use Rattle.entry.specs.Calls.{image_grounds, change_grounds, entry_grounds, Enters}
use Rattle.blank.specs.Calls.{blank_grounds}
use Rattle.record_reader.specs.Calls.{number_grounds}
use Rattle.register.specs.Calls.{active_grounds, withdrawal_grounds, Withdraws, undo_grounds, Undoes, Seals}
use Rattle.history.specs.Runs.{Run, no_calls, ◌then◌, enters, withdraws, undoes, seals}
use Rattle.history.specs.Example.{Played, reference, digest, events}
use Rattle.history.specs.Example.{blank, one, one_undone, two, one_again, one_withdrawn, closed}

pub worked-register : Played
unfolding below lcp lcs over same
    residue letter base64url every first_outside digest_text_grounds
    altered shorter within ahead behind kind_in kind_of changed_form normal moved_by form_grounds
    little bytes number numbers put
    record_size journal_place pool_place header_of record_place record_of replacement_of
    laid_out counts_within within_limits header_formed lengths record_good entry_good well_formed
    holds lowest lowest_holding found
    blanked journalled marked withdrawn reentered recorded pooled counted numbered latest undone sealed
    blank_grounds image_grounds change_grounds entry_grounds Enters
    number_grounds active_grounds withdrawal_grounds Withdraws undo_grounds Undoes Seals
    blank one one_undone two one_again one_withdrawn closed
worked-register =
    record {
      first = record { answers = refl; leaves = refl };
      case-1 = record { answers = refl; leaves = refl };
      undone-1 = record { answers = refl; leaves = refl };
      case-4 = record { answers = refl; leaves = refl };
      case-2 = record { answers = refl; leaves = refl };
      case-6 = record { answers = refl; leaves = refl };
      case-5 = record { answers = refl; leaves = refl };
      withdrawn-1 = record { answers = refl; leaves = refl };
      sealed-all = record { answers = refl; leaves = refl };
    }

-- so each kind of call is accepted in some run from a blank image
pub worked-run : Run reference blank events closed
worked-run =
    no_calls
    then enters digest 4 4 _ (Ok _) worked-register.case-1
    then undoes (Ok 1) worked-register.undone-1
    then enters digest 2 3 _ (Ok _) worked-register.case-4
    then enters digest 1 2 _ (Ok _) worked-register.case-2
    then enters digest 3 5 _ _ worked-register.case-6
    then enters digest 1 5 _ (Ok _) worked-register.case-5
    then withdraws 1 (Ok tt) worked-register.withdrawn-1
    then seals (Ok tt) worked-register.sealed-all
