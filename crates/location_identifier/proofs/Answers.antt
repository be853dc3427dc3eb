-- What the answers of the tests tell.
use Prim.Native.Nat.{ℕ, ◌+◌}
use mathlib.Core.Path.{◌≡◌}
use mathlib.Core.List.{List}
use lib.ListN.{length}
use Rattle.std.specs.Prelude.{Ok, Err}
use Rattle.refusal.specs.declared.Refusal.{Refusal}
use Rattle.refusal.specs.Verdict.{accepted, refused, verdict}
use Rattle.refusal.proofs.Verdict.{verdict-later, told-accepted, told-refused}
use Rattle.alphabets.specs.Alphabets.{digest_length, digest_text_grounds}
use Rattle.alphabets.proofs.DigestText.{digest-long, digest-all}
use Rattle.decimals.specs.Decimal.{decimal}
use Rattle.text.specs.Layout.{location_text}
use Rattle.words.specs.Vocabulary.{Digest}
use Rattle.location_identifier.specs.Calls.{interval_grounds, location_grounds}
use Rattle.location_identifier.specs.Inner.{location_answer}
use Rattle.location_identifier.proofs.Lengths.{around_numbers, location-long}

pub digest-given : (d : List ℕ) → verdict (digest_text_grounds d) ≡ accepted → Digest d
digest-given d v = record { long = digest-long d v; characters = digest-all d v }

-- a location that the tests let through, and one that they do not
module _ (n start end : ℕ) (digest : List ℕ) where
  pub location-accepted : Ok tt ≡ location_answer n start end digest
      → verdict (location_grounds n start end digest) ≡ accepted
  unfolding location_answer
  location-accepted e = (told-accepted _ _ _ e).0

  pub location-refused : (why : Refusal) → Err why ≡ location_answer n start end digest
      → verdict (location_grounds n start end digest) ≡ refused why
  unfolding location_answer
  location-refused why e = told-refused _ _ why e

  pub location-digest : Ok tt ≡ location_answer n start end digest → length digest ≡ digest_length
  unfolding location_grounds
  location-digest e =
      digest-long digest
      (verdict-later (interval_grounds n start end) (digest_text_grounds digest) (location-accepted e))

  -- its text is as long as the code counts it
  pub text-long : (a b : ℕ) → a ≡ length (decimal start) → b ≡ length (decimal end)
      → Ok tt ≡ location_answer n start end digest → a + b + around_numbers ≡ length (location_text start end digest)
  text-long a b p q e = location-long start end digest a b p q (location-digest e)
