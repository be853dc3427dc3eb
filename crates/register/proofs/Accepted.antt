-- What the tests of the calls tell of the image.
use Prim.Native.Nat.{ℕ, ◌<◌, ◌≤◌}
use native.Mathlib.Omega.{arith}
use mathlib.Core.Path.{◌≡◌}
use mathlib.Core.Bool.{true}
use mathlib.Core.List.{List}
use Rattle.std.specs.Prelude.{Ok}
use borrow.Author.Tests.{not-false, leb-false, eqb-true, eqb-false}
use Rattle.refusal.specs.Verdict.{accepted, verdict}
use Rattle.refusal.proofs.Verdict.{none-holds, verdict-fewer, verdict-later, told-accepted}
use Rattle.image.specs.Fields.{journal_capacity, journal_count, status_of, active}
use Rattle.image.specs.Formed.{well_formed}
use Rattle.record_reader.specs.Calls.{number_grounds}
use Rattle.record_reader.proofs.Issued.{Issued, accepted-issued}
use Rattle.register.specs.Calls.{active_grounds, withdrawal_grounds, undo_grounds}
use Rattle.register.specs.Inner.{withdrawal_answer, undo_answer}

pub record Withdrawable (b : List ℕ) (i : ℕ) : Type 0 where
  pub issued : Issued b i
  pub on : status_of b i ≡ active
  pub room : journal_count b < journal_capacity b

pub accepted-withdrawable : (b : List ℕ) (i : ℕ) → verdict (withdrawal_grounds b i) ≡ accepted → Withdrawable b i
unfolding withdrawal_grounds active_grounds
accepted-withdrawable b i v =
    let last = none-holds (active_grounds b i) (verdict-later (number_grounds b i) (active_grounds b i) v) in
    record {
      issued = accepted-issued b i (verdict-fewer (number_grounds b i) (active_grounds b i) v);
      on = eqb-true _ _ (not-false _ (last 0));
      room = leb-false _ _ (last 1);
    }

pub record Undoable (b : List ℕ) : Type 0 where
  pub formed : well_formed b ≡ true
  pub some : 1 ≤ journal_count b

pub accepted-undoable : (b : List ℕ) → verdict (undo_grounds b) ≡ accepted → Undoable b
unfolding undo_grounds
accepted-undoable b v =
    record {
      formed = not-false _ (none-holds (undo_grounds b) v 0);
      some = let e = eqb-false (journal_count b) 0 (none-holds (undo_grounds b) v 1) in omega (arith, e);
    }

-- what the tests tell where they pass
pub answered-withdrawable : (b : List ℕ) (i : ℕ) (u : Unit {0}) → Ok u ≡ withdrawal_answer b i → Withdrawable b i
answered-withdrawable b i u e = accepted-withdrawable b i (told-accepted (verdict (withdrawal_grounds b i)) tt u e).0

pub answered-undoable : (b : List ℕ) (u : Unit {0}) → Ok u ≡ undo_answer b → Undoable b
answered-undoable b u e = accepted-undoable b (told-accepted (verdict (undo_grounds b)) tt u e).0
