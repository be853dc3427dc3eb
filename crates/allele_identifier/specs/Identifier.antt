-- Document 01, "Texts and identifiers": the text and the identifier of an allele in its normal form.
use Rattle.std.specs.Prelude.{ℕ, ◌+◌, ◌≡◌, List, ◌++◌, length}
use Rattle.stretch.specs.Ascii.{ascii}
use Rattle.alphabets.specs.Alphabets.{digest_length}
use Rattle.normal_form.specs.Form.{Normal}
use Rattle.text.specs.Layout.{location_text, allele_text, allele_words}
use Rattle.digest_text.specs.Digest.{sha512t24u}

-- the text of a normal form, on a sequence of that digest: its location's digest, and its replacement
unfoldable pub text_of : Normal → List ℕ → List ℕ
text_of form digest = allele_text (sha512t24u (location_text form.start form.end digest)) form.replacement

-- the bytes of an allele text around its sequence: its words, and the location's digest
abbrev pub around_sequence : ℕ
around_sequence = allele_words + digest_length

abbrev pub allele_prefix : List ℕ
allele_prefix = ascii "ga4gh:VA."

-- over the allele text
unfoldable pub identifier_of : Normal → List ℕ → List ℕ
identifier_of form digest = allele_prefix ++ sha512t24u (text_of form digest)

-- 41
abbrev pub allele_identifier_length : ℕ
allele_identifier_length = length allele_prefix + digest_length

-- two texts that have one digest
pub record Collision (m₁ m₂ : List ℕ) : Type 0 where
  pub apart : m₁ ≡ m₂ → ⊥
  pub one : sha512t24u m₁ ≡ sha512t24u m₂
