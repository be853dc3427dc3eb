-- The text is accepted where the last word is read and nothing follows it.
use mathlib.Core.Logic.{inl, inr}
use Rattle.std.proofs.Common.{refl}
use Rattle.text_reader.proofs.Exits.{at_exit}
use Rattle.text_reader.proofs.AlleleTexts.{location-refuses, sequence-refuses, behind-refuses}
use Rattle.text_reader.proofs.AlleleTexts.{allele-refuses, allele-accepts}
use Rattle.text_reader.proofs.allele.walk_allele.Goals as goal

pub returns-in_err-location-clause-stopped : goal.returns-in_err-location-clause-stopped
returns-in_err-location-clause-stopped c =
    at_exit _ _ c.from_residual.ensures.1
    (location-refuses c.in_err-location.ensures refl)

pub returns-in_err-sequence-clause-stopped : goal.returns-in_err-sequence-clause-stopped
returns-in_err-sequence-clause-stopped c =
    at_exit _ _ c.from_residual-in_err-sequence.ensures.1
    (sequence-refuses c.in_ok-location.ensures c.past_digest-middle.ensures c.in_err-sequence.ensures refl)

pub returns-in_err-behind-clause-stopped : goal.returns-in_err-behind-clause-stopped
returns-in_err-behind-clause-stopped c =
    at_exit _ _ c.from_residual-in_err-behind.ensures.1
    (behind-refuses c.in_ok-location.ensures c.past_digest-middle.ensures c.in_ok-sequence.ensures
    c.in_err-behind.ensures refl)

pub returns-in_err-close-clause-stopped : goal.returns-in_err-close-clause-stopped
returns-in_err-close-clause-stopped c =
    at_exit _ _ c.from_residual-in_err-close.ensures.1
    (allele-refuses c.in_ok-location.ensures c.past_digest-middle.ensures c.in_ok-sequence.ensures
    c.in_ok-behind.ensures c.in_err-close.ensures (inl refl))

pub returns-then-close-text-clause-stopped : goal.returns-then-close-text-clause-stopped
returns-then-close-text-clause-stopped c =
    allele-refuses c.in_ok-location.ensures c.past_digest-middle.ensures c.in_ok-sequence.ensures c.in_ok-behind.ensures
    c.in_ok-close.ensures (inr c.if-close-text.true)

pub returns-clause-accepted : goal.returns-clause-accepted
returns-clause-accepted c =
    allele-accepts c.in_ok-location.ensures c.past_digest-middle.ensures c.in_ok-sequence.ensures c.in_ok-behind.ensures
    c.in_ok-close.ensures refl c.if-close-text.false
