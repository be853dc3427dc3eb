-- Document 01, "Texts and identifiers": the texts that are accepted, and what reading one answers.
use Rattle.std.specs.Prelude.{ℕ, ◌+◌, ◌≤◌, ◌≡◌, List, [], length, Result, Ok, Err}
use Rattle.alphabets.specs.Alphabets.{digest_length}
use Rattle.refusal.specs.Limits.{reference_limit, sequence_limit}
use Rattle.decimals.specs.Decimal.{decimal}
use Rattle.text.specs.Layout.{before_end, before_start, before_digest, location_text, before_location, before_sequence}
use Rattle.text.specs.Layout.{allele_text}
use Rattle.words.specs.Prefix.{Refuses}
use Rattle.words.specs.Vocabulary.{Digest, Residues}
use Rattle.refusal.specs.declared.Reason.TheVariants.{TextNotAccepted}
use Rattle.refusal.specs.declared.Refusal.{Refusal}
use Rattle.text_reader.specs.declared.AlleleParts.{AlleleParts}
use Rattle.text_reader.specs.declared.LocationParts.{LocationParts}

-- T at most E at most 1,000,000,000, and D
pub record LocationText (text : List ℕ) : Type 0 where
  pub start : ℕ
  pub end : ℕ
  pub digest : List ℕ
  pub ordered : start ≤ end
  pub inside : end ≤ reference_limit
  pub digests : Digest digest
  pub laid : text ≡ location_text start end digest

-- L, and X of at most 1,001,000,000 residues
pub record AlleleText (text : List ℕ) : Type 0 where
  pub location : List ℕ
  pub sequence : List ℕ
  pub digests : Digest location
  pub residues : Residues sequence_limit sequence
  pub laid : text ≡ allele_text location sequence

-- start, end, and the offset of D
pub data ReadsLocation (text : List ℕ) : Result LocationParts Refusal → Type 0 where
  accepts : (a : LocationText text)
      → ReadsLocation text (Ok (record {
        start = a.start;
        end = a.end;
        digest = length before_end + length (decimal a.end) + length before_start + length (decimal a.start)
            + length before_digest;
      }))
  refuses : (i : ℕ) → Refuses LocationText text i
      → ReadsLocation text (Err (record { reason = TextNotAccepted; value = i }))

-- the offset of L, and the offset and the length of X
pub data ReadsAllele (text : List ℕ) : Result AlleleParts Refusal → Type 0 where
  accepts_allele : (a : AlleleText text)
      → ReadsAllele text (Ok (record {
        location = length before_location;
        sequence = length before_location + digest_length + length before_sequence;
        length = length a.sequence;
      }))
  refuses_allele : (i : ℕ) → Refuses AlleleText text i
      → ReadsAllele text (Err (record { reason = TextNotAccepted; value = i }))

-- a stretch of a text that is of the kind, or none: of a refused text the empty one
pub data HandsBack (Kind : List ℕ → Type 0) (stretch : (text : List ℕ) → Kind text → List ℕ) (text : List ℕ) : List ℕ
    → Type 0 where
  hands : (a : Kind text) → HandsBack Kind stretch text (stretch text a)
  nothing : (Kind text → ⊥) → HandsBack Kind stretch text []
