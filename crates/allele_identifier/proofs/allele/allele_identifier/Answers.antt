-- The tests, 6 after them, and the identifier of the text's hash.
use native.Mathlib.Omega.{arith}
use mathlib.Core.Path.{◌≡◌, refl, ◌∙◌, sym}
use lib.ListN.{length}
use borrow.Author.Rules.{rules}
use borrow.Author.Tests.{ltb-false}
use Rattle.refusal.proofs.HandedOn.{handed_on}
use Rattle.refusal.proofs.WritesUnless.{writes-unless-refused, writes-unless-short, writes-unless-room}
use Rattle.digest_text.specs.Digest.{sha512t24u}
use Rattle.allele_identifier.specs.Identifier.{identifier_of}
use Rattle.allele_identifier.proofs.Hashing.{length-allele-identifier}
use Rattle.allele_identifier.proofs.Answers.{allele-digest, allele-fits, allele-moved, allele-refused}
use Rattle.allele_identifier.proofs.Answers.{identifier-then, identifies-form, identifies-nothing}
use Rattle.allele_identifier.proofs.allele.allele_identifier.Goals as goal

pub returns-in_err-w : goal.returns-in_err-w
returns-in_err-w c =
    rw (handed_on _ _ c.from_residual.ensures.1)
    (identifies-nothing _ _ _ _ _ _ _ _ _
    (writes-unless-refused _ _ _ _ _ (allele-refused _ _ _ _ _ _ c.in_err-w.ensures)))

pub returns-then-sum_exceeds : goal.returns-then-sum_exceeds
returns-then-sum_exceeds c =
    rw c.refuse.ensures
    (identifies-nothing _ _ _ _ _ _ _ _ _
    (identifier-then _ _ _ _ _ _ c.in_ok-w.ensures _ _ _ _
    (writes-unless-short _ _ _ _ (sym (length-allele-identifier _ _)) _ refl
    (sym c.sum_exceeds.ensures ∙ c.if-sum_exceeds.true))))

pub form_hash-hash-requires : goal.form_hash-hash-requires
form_hash-hash-requires c =
    let e = c.in_ok-w.ensures in
    record { fits = allele-fits _ _ _ _ _ _ e; digest_len = allele-digest _ _ _ _ _ _ e }

pub place_identifier-length-requires : goal.place_identifier-length-requires
place_identifier-length-requires c =
    let long : length c.form_hash-hash.result ≡ 64 = search rules in
    record {
      digest_length_in_bounds = ltb-false _ _ (sym c.sum_exceeds.ensures ∙ c.if-sum_exceeds.false);
      in_bounds = omega arith;
    }

pub returns : goal.returns
unfolding identifier_of sha512t24u
returns c =
    rw (c.moved_of.ensures, allele-moved _ _ _ _ _ _ c.in_ok-w.ensures)
    (identifies-form _ _ _ _ _ _ _ _ _
    (identifier-then _ _ _ _ _ _ c.in_ok-w.ensures _ _ _ _
    (writes-unless-room _ _ _ _ (sym (length-allele-identifier _ _)) _ _
    (sym c.sum_exceeds.ensures ∙ c.if-sum_exceeds.false)
    (rw (← c.form_hash-hash.ensures) c.place_identifier-length.ensures))))
