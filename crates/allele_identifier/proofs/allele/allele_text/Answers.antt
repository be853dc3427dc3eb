-- The tests, 6 after them, and the write.
use mathlib.Core.Path.{◌∙◌, sym}
use borrow.Author.Tests.{ltb-false}
use borrow.Author.Rules.{rules}
use Rattle.refusal.proofs.HandedOn.{handed_on}
use Rattle.refusal.proofs.WritesUnless.{writes-unless-refused}
use Rattle.allele_identifier.proofs.Answers.{allele-digest, allele-fits, allele-refused, text-short, text-laid}
use Rattle.allele_identifier.proofs.allele.allele_text.Goals as goal

pub returns-in_err-w : goal.returns-in_err-w
returns-in_err-w c =
    rw (handed_on _ _ c.from_residual.ensures.1)
    (writes-unless-refused _ _ _ _ _ (allele-refused _ _ _ _ _ _ c.in_err-w.ensures))

pub joined_length-requires : goal.joined_length-requires
joined_length-requires c =
    let f = allele-fits _ _ _ _ _ _ c.in_ok-w.ensures in
    search rules

pub overflow_add-length : goal.overflow_add-length
overflow_add-length c =
    let f = allele-fits _ _ _ _ _ _ c.in_ok-w.ensures in
    search rules

pub returns-then-sum_exceeds : goal.returns-then-sum_exceeds
returns-then-sum_exceeds c = let l = c.joined_length.ensures in
    let e = c.in_ok-w.ensures in
    let room = rw l at (sym c.sum_exceeds.ensures ∙ c.if-sum_exceeds.true) in
    text-short _ _ _ _ _ _ e _ _ _ (rw (c.refuse.ensures, l)) room

pub write_text-requires : goal.write_text-requires
write_text-requires c =
    let l = c.joined_length.ensures in
    let e = c.in_ok-w.ensures in
    let room = rw l at (sym c.sum_exceeds.ensures ∙ c.if-sum_exceeds.false) in
    record {
      fits = allele-fits _ _ _ _ _ _ e;
      digest_len = allele-digest _ _ _ _ _ _ e;
      around_sequence_in_bounds = ltb-false _ _ room;
    }

pub returns : goal.returns
returns c =
    let l = c.joined_length.ensures in
    let e = c.in_ok-w.ensures in
    let room = rw l at (sym c.sum_exceeds.ensures ∙ c.if-sum_exceeds.false) in
    rw l (text-laid _ _ _ _ _ _ e _ _ _ room c.write_text.ensures)
