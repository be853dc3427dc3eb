-- Document 01, "Texts and identifiers": the digest of 32 characters.
use Rattle.std.specs.Prelude.{ℕ, List, take}
use Rattle.sha512.specs.Message.{sha512}
use Rattle.digest_text.specs.Base64.{encoded}

-- the first 24 bytes of a SHA-512 digest, as 32 characters
unfoldable pub digest_text : List ℕ → List ℕ
digest_text d = encoded (take 24 d)

-- the 32 characters of a message's digest
unfoldable pub sha512t24u : List ℕ → List ℕ
sha512t24u m = digest_text (sha512 m)
