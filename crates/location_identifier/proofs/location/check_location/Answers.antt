-- Each return is what the grounds say, by the tests that led there.
use borrow.Author.Tests.{lt-ltb, le-ltb}
use Rattle.location_identifier.specs.Calls.{location_grounds}
use Rattle.location_identifier.specs.Inner.{location_answer}
use Rattle.location_identifier.proofs.location.check_location.Goals as goal

pub returns-then-residues-gt-REFERENCE_LIMIT : goal.returns-then-residues-gt-REFERENCE_LIMIT
unfolding location_answer location_grounds
returns-then-residues-gt-REFERENCE_LIMIT c =
    rw c.refuse.ensures (simp (lt-ltb _ _ c.if-residues-gt-REFERENCE_LIMIT.true))

pub returns-then-end-start : goal.returns-then-end-start
unfolding location_answer location_grounds
returns-then-end-start c = rw c.refuse-then-end-start.ensures
    (simp (le-ltb _ _ c.if-residues-gt-REFERENCE_LIMIT.false, lt-ltb _ _ c.if-end-start.true))

pub returns-then-residues-end : goal.returns-then-residues-end
unfolding location_answer location_grounds
returns-then-residues-end c = rw c.refuse-then-residues-end.ensures
    (simp (
      le-ltb _ _ c.if-residues-gt-REFERENCE_LIMIT.false,
      le-ltb _ _ c.if-end-start.false,
      lt-ltb _ _ c.if-residues-end.true,
    ))

pub returns : goal.returns
unfolding location_answer location_grounds
returns c = rw c.check_digest_text.ensures
    (simp (
      le-ltb _ _ c.if-residues-gt-REFERENCE_LIMIT.false,
      le-ltb _ _ c.if-end-start.false,
      le-ltb _ _ c.if-residues-end.false,
    ))
