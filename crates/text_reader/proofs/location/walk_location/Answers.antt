-- The text is accepted where the last word is read and nothing follows it.
use mathlib.Core.Logic.{inl, inr}
use Rattle.std.proofs.Common.{refl}
use Rattle.text_reader.proofs.Exits.{at_exit}
use Rattle.text_reader.proofs.LocationTexts.{end-refuses, start-refuses, digest-refuses}
use Rattle.text_reader.proofs.LocationTexts.{location-refuses, location-accepts}
use Rattle.text_reader.proofs.location.walk_location.Goals as goal

pub returns-in_err-end-clause-stopped : goal.returns-in_err-end-clause-stopped
returns-in_err-end-clause-stopped c =
    at_exit _ _ c.from_residual.ensures.1
    (end-refuses c.past_word-head.ensures c.in_err-end.ensures refl)

pub returns-in_err-start-clause-stopped : goal.returns-in_err-start-clause-stopped
returns-in_err-start-clause-stopped c =
    at_exit _ _ c.from_residual-in_err-start.ensures.1
    (start-refuses c.past_word-head.ensures c.in_ok-end.ensures c.past_word-middle.ensures
    c.in_err-start.ensures refl)

pub returns-in_err-digest-clause-stopped : goal.returns-in_err-digest-clause-stopped
returns-in_err-digest-clause-stopped c =
    at_exit _ _ c.from_residual-in_err-digest.ensures.1
    (digest-refuses c.past_word-head.ensures c.in_ok-end.ensures c.past_word-middle.ensures c.in_ok-start.ensures
    c.in_err-digest.ensures refl)

pub returns-in_err-close-clause-stopped : goal.returns-in_err-close-clause-stopped
returns-in_err-close-clause-stopped c =
    at_exit _ _ c.from_residual-in_err-close.ensures.1
    (location-refuses c.past_word-head.ensures c.in_ok-end.ensures c.past_word-middle.ensures c.in_ok-start.ensures
    c.in_ok-digest.ensures c.past_digest-behind.ensures c.in_err-close.ensures (inl refl))

pub returns-then-close-text-clause-stopped : goal.returns-then-close-text-clause-stopped
returns-then-close-text-clause-stopped c =
    location-refuses c.past_word-head.ensures c.in_ok-end.ensures c.past_word-middle.ensures c.in_ok-start.ensures
    c.in_ok-digest.ensures c.past_digest-behind.ensures
    c.in_ok-close.ensures (inr c.if-close-text.true)

pub returns-clause-accepted : goal.returns-clause-accepted
returns-clause-accepted c =
    location-accepts c.past_word-head.ensures c.in_ok-end.ensures c.past_word-middle.ensures c.in_ok-start.ensures
    c.in_ok-digest.ensures c.past_digest-behind.ensures
    c.in_ok-close.ensures refl c.if-close-text.false
