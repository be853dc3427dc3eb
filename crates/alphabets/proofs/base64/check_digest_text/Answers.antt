-- Each return is what the grounds say, by the tests that led there.
use borrow.Author.Tests.{eq-eqb, ne_eqb, lt-ltb, le-ltb}
use Rattle.alphabets.specs.Alphabets.{digest_text_grounds}
use Rattle.alphabets.proofs.base64.check_digest_text.Goals as goal

pub returns-then-text-ne-DIGEST_LENGTH : goal.returns-then-text-ne-DIGEST_LENGTH
unfolding digest_text_grounds
returns-then-text-ne-DIGEST_LENGTH c = rw c.refuse.ensures (simp (ne_eqb _ _ c.if-text-ne-DIGEST_LENGTH.true))

pub returns-then-at-text : goal.returns-then-at-text
unfolding digest_text_grounds
returns-then-at-text c = let e = c.first_outside_base64url-at.ensures in
    rw c.refuse-then-at-text.ensures
    (simp (eq-eqb _ _ c.if-text-ne-DIGEST_LENGTH.false, ← e, lt-ltb _ _ c.if-at-text.true))

pub returns : goal.returns
unfolding digest_text_grounds
returns c = simp (
  eq-eqb _ _ c.if-text-ne-DIGEST_LENGTH.false,
  ← c.first_outside_base64url-at.ensures,
  le-ltb _ _ c.if-at-text.false,
)
