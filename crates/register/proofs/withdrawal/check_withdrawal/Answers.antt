-- The tests of the number, then the others.
use mathlib.Core.Path.{◌∙◌}
use Rattle.refusal.specs.Verdict.{verdict}
use Rattle.refusal.proofs.HandedOn.{handed_on}
use Rattle.refusal.proofs.Verdict.{verdict-first, verdict-then, told-accepted, told-refused}
use Rattle.image.proofs.WellFormed.{well_formed-formed}
use Rattle.record_reader.specs.Calls.{number_grounds}
use Rattle.record_reader.proofs.Issued.{answered-issued}
use Rattle.register.specs.Calls.{active_grounds, withdrawal_grounds}
use Rattle.register.proofs.withdrawal.check_withdrawal.Goals as goal

pub returns-in_err-check_number : goal.returns-in_err-check_number
unfolding withdrawal_grounds
returns-in_err-check_number c =
    let stopped = told-refused (verdict (number_grounds _ _)) tt _ c.in_err-check_number.ensures in
    handed_on _ _ c.from_residual.ensures.1 ∙ rw (verdict-first _ (active_grounds _ _) _ stopped)

pub check_active-requires : goal.check_active-requires
check_active-requires c =
    let k = answered-issued _ _ _ c.in_ok-check_number.ensures in
    record { header = (well_formed-formed _ k.formed).header; le_number = (k.from, k.to) }

pub returns : goal.returns
unfolding withdrawal_grounds
returns c =
    let passed = (told-accepted (verdict (number_grounds _ _)) tt _ c.in_ok-check_number.ensures).0 in
    rw (verdict-then _ (active_grounds _ _) passed, c.check_active.ensures)
