-- What a call has written is read back.
use Prim.Native.Nat.{ℕ, ◌+◌, ◌≤◌}
use native.Mathlib.Omega.{arith}
use mathlib.Core.Path.{◌≡◌}
use mathlib.Core.List.{List, [], ◌∷◌, ◌++◌}
use lib.ListN.{length}
use borrow.Author.Tests.{ltb-false}
use Rattle.stretch.specs.Part.{part}
use Rattle.std.specs.Prelude.{Result, Ok}
use Rattle.refusal.specs.declared.Refusal.{Refusal}
use Rattle.refusal.specs.Limits.{sequence_limit}
use Rattle.refusal.proofs.Verdict.{none-holds, verdict-fewer, verdict-later}
use Rattle.refusal.proofs.WritesUnless.{TextWritten, writes-unless-accepted}
use Rattle.alphabets.specs.Alphabets.{foreign, digest_text_grounds, foreign_normal, digest_length}
use Rattle.alphabets.proofs.Foreign.{foreign-le, foreign-none}
use Rattle.normal_form.specs.Form.{Allele, Normal, normal}
use Rattle.normal_form.proofs.Laws.{normal-short}
use Rattle.normal_form_calls.specs.Calls.{given_grounds}
use Rattle.normal_form_calls.proofs.Answers.{given-allele}
use Rattle.text.specs.Layout.{location_text, before_location, before_sequence}
use Rattle.words.specs.Vocabulary.{Digest, Residues}
use Rattle.text_reader.specs.declared.AlleleParts.{AlleleParts}
use Rattle.text_reader.specs.Accepted.{AlleleText, ReadsAllele, HandsBack}
use Rattle.text_reader.proofs.Promises.{reads-allele-back, location-of-back, sequence-of-back}
use Rattle.digest_text.specs.Digest.{sha512t24u}
use Rattle.digest_text.proofs.Encoding.{length-sha512t24u}
use Rattle.digest_text.proofs.Characters.{digest-characters}
use Rattle.allele_identifier.specs.Identifier.{text_of}
use Rattle.allele_identifier.specs.Calls.{allele_grounds, WritesAllele}

module _ (r : List ℕ) (start end : ℕ) (x digest out : List ℕ) (place k : ℕ) (left : List ℕ)
    (p : WritesAllele r start end x digest out place (Ok k) left) where
  abbrev form : Normal
  form = normal r start end x

  abbrev location : List ℕ
  location = sha512t24u (location_text form.start form.end digest)

  said : TextWritten (allele_grounds r start end x digest) (text_of form digest) out place k left
  said = writes-unless-accepted _ _ out place k left p

  allele : Allele r start end x
  unfolding allele_grounds
  allele = given-allele r start end x
      (verdict-fewer (given_grounds r start end x)
      (digest_text_grounds digest ++ (foreign_normal form.replacement ∷ [])) said.grounds)

  clean : length form.replacement ≤ foreign form.replacement
  unfolding allele_grounds
  clean =
      ltb-false (foreign form.replacement) (length form.replacement)
      (none-holds (foreign_normal form.replacement ∷ [])
      (verdict-later (digest_text_grounds digest) (foreign_normal form.replacement ∷ [])
      (verdict-later (given_grounds r start end x)
      (digest_text_grounds digest ++ (foreign_normal form.replacement ∷ [])) said.grounds)) 0)

  residues : Residues sequence_limit form.replacement
  residues =
      record {
        few = omega (
          arith,
          normal-short r start end x allele.ordered allele.inside,
          allele.reference,
          allele.replacement,
        );
        residues = foreign-none form.replacement (omega (arith, clean, foreign-le form.replacement));
      }

  located : Digest location
  located =
      record {
        long = length-sha512t24u (location_text form.start form.end digest);
        characters = digest-characters (location_text form.start form.end digest);
      }

  pub allele-back : (answer : Result AlleleParts Refusal) → ReadsAllele (part left place (place + k)) answer
      → answer ≡ Ok (record {
        location = length before_location;
        sequence = length before_location + digest_length + length before_sequence;
        length = length form.replacement;
      })
  unfolding text_of
  allele-back answer t = reads-allele-back location form.replacement located residues answer (rw said.stands at t)

  pub allele-location-back : (s : List ℕ) → HandsBack AlleleText (λ t a. a.location) (part left place (place + k)) s
      → s ≡ location
  unfolding text_of
  allele-location-back s h = location-of-back location form.replacement located residues s (rw said.stands at h)

  pub allele-sequence-back : (s : List ℕ) → HandsBack AlleleText (λ t a. a.sequence) (part left place (place + k)) s
      → s ≡ form.replacement
  unfolding text_of
  allele-sequence-back s h = sequence-of-back location form.replacement located residues s (rw said.stands at h)
