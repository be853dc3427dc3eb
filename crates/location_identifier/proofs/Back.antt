-- What a call has written is read back.
use Prim.Native.Nat.{ℕ, ◌+◌, ◌≤◌}
use native.Mathlib.Omega.{arith}
use mathlib.Core.Path.{◌≡◌}
use mathlib.Core.List.{List}
use lib.ListN.{length}
use borrow.Author.Tests.{ltb-false}
use Rattle.stretch.specs.Part.{part}
use Rattle.std.specs.Prelude.{Result, Ok}
use Rattle.refusal.specs.declared.Refusal.{Refusal}
use Rattle.refusal.specs.Limits.{reference_limit}
use Rattle.refusal.specs.Verdict.{accepted, verdict}
use Rattle.refusal.proofs.Verdict.{none-holds, verdict-fewer, verdict-later}
use Rattle.refusal.proofs.WritesUnless.{TextWritten, writes-unless-accepted}
use Rattle.alphabets.specs.Alphabets.{digest_text_grounds}
use Rattle.decimals.specs.Decimal.{decimal}
use Rattle.text.specs.Layout.{location_text, before_end, before_start, before_digest}
use Rattle.words.specs.Vocabulary.{Digest}
use Rattle.text_reader.specs.declared.LocationParts.{LocationParts}
use Rattle.text_reader.specs.Accepted.{LocationText, ReadsLocation, HandsBack}
use Rattle.text_reader.proofs.Promises.{reads-location-back, digest-of-back}
use Rattle.location_identifier.specs.Calls.{interval_grounds, location_grounds, WritesLocation}
use Rattle.location_identifier.proofs.Answers.{digest-given}

module _ (n start end : ℕ) (digest out : List ℕ) (place k : ℕ) (left : List ℕ)
    (p : WritesLocation n start end digest out place (Ok k) left) where
  said : TextWritten (location_grounds n start end digest) (location_text start end digest) out place k left
  said = writes-unless-accepted _ _ out place k left p

  given : Digest digest
  unfolding location_grounds
  given = digest-given digest (verdict-later (interval_grounds n start end) (digest_text_grounds digest) said.grounds)

  passed : verdict (interval_grounds n start end) ≡ accepted
  unfolding location_grounds
  passed = verdict-fewer (interval_grounds n start end) (digest_text_grounds digest) said.grounds

  ordered : start ≤ end
  ordered = ltb-false end start (none-holds (interval_grounds n start end) passed 1)

  inside : end ≤ reference_limit
  inside =
      omega (
        arith,
        ltb-false reference_limit n (none-holds (interval_grounds n start end) passed 0),
        ltb-false n end (none-holds (interval_grounds n start end) passed 2),
      )

  pub location-back : (answer : Result LocationParts Refusal) → ReadsLocation (part left place (place + k)) answer
      → answer ≡ Ok (record {
        start = start;
        end = end;
        digest = length before_end + length (decimal end) + length before_start + length (decimal start)
            + length before_digest;
      })
  location-back answer r = reads-location-back start end digest ordered inside given answer (rw said.stands at r)

  pub location-digest-back : (s : List ℕ) → HandsBack LocationText (λ t a. a.digest) (part left place (place + k)) s
      → s ≡ digest
  location-digest-back s h = digest-of-back start end digest ordered inside given s (rw said.stands at h)
