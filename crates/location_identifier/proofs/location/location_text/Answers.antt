-- The tests, 6 after them by the length of the text, and the text.
use native.Mathlib.Omega.{arith}
use mathlib.Core.Path.{◌∙◌, sym}
use borrow.Author.Tests.{ltb-false}
use Rattle.refusal.proofs.HandedOn.{handed_on}
use Rattle.refusal.proofs.WritesUnless.{writes-unless-refused, writes-unless-then, writes-unless-short}
use Rattle.refusal.proofs.WritesUnless.{writes-unless-room}
use Rattle.decimals.proofs.Digits.{decimal-within}
use Rattle.location_identifier.proofs.Answers.{location-accepted, location-refused, text-long}
use Rattle.location_identifier.proofs.location.location_text.Goals as goal

pub returns-in_err-check_location : goal.returns-in_err-check_location
returns-in_err-check_location c =
    rw (handed_on _ _ c.from_residual.ensures.1)
    (writes-unless-refused _ _ _ _ _ (location-refused _ _ _ _ _ c.in_err-check_location.ensures))

pub overflow_add-needed : goal.overflow_add-needed
overflow_add-needed c =
    let first = decimal-within c.args.start c.ranges.start.fits in
    let second = decimal-within c.args.end c.ranges.end.fits in
    omega (arith, c.decimal_length.ensures, c.decimal_length-2.ensures, first, second)

pub overflow_add-needed-2 : goal.overflow_add-needed-2
overflow_add-needed-2 c =
    let first = decimal-within c.args.start c.ranges.start.fits in
    let second = decimal-within c.args.end c.ranges.end.fits in
    omega (arith, c.decimal_length.ensures, c.decimal_length-2.ensures, first, second)

pub returns-then-sum_exceeds : goal.returns-then-sum_exceeds
returns-then-sum_exceeds c =
    let e = c.in_ok-check_location.ensures in
    let long = text-long _ _ _ _ _ _ c.decimal_length.ensures c.decimal_length-2.ensures e in
    writes-unless-then _ _ _ _ _ _ (location-accepted _ _ _ _ e)
    (writes-unless-short _ _ _ _ long _ (rw c.refuse.ensures) (sym c.sum_exceeds.ensures ∙ c.if-sum_exceeds.true))

pub place_text-requires : goal.place_text-requires
place_text-requires c =
    let e = c.in_ok-check_location.ensures in
    let long = text-long _ _ _ _ _ _ c.decimal_length.ensures c.decimal_length-2.ensures e in
    omega (arith, long, ltb-false _ _ (sym c.sum_exceeds.ensures ∙ c.if-sum_exceeds.false))

pub returns : goal.returns
returns c =
    let e = c.in_ok-check_location.ensures in
    let long = text-long _ _ _ _ _ _ c.decimal_length.ensures c.decimal_length-2.ensures e in
    writes-unless-then _ _ _ _ _ _ (location-accepted _ _ _ _ e)
    (writes-unless-room _ _ _ _ long _ _ (sym c.sum_exceeds.ensures ∙ c.if-sum_exceeds.false) c.place_text.ensures)
