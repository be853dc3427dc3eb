-- Document 01's alphabets: letters and residues, base64url (RFC 4648 section 5), and the check of a digest text.
use Rattle.std.specs.Prelude.{ℕ, Bool, true, false, not, cond, List, [], ◌∷◌, leb, ltb, eqb, length, Result}
use Rattle.stretch.specs.Ascii.{ascii}
use Rattle.stretch.specs.Class.{first_outside}
use Rattle.refusal.specs.Verdict.{Ground, ground, verdict, tell}
use Rattle.refusal.specs.declared.Reason.TheVariants.{ForeignByte, ForeignNormalByte, BadDigestText}
use Rattle.refusal.specs.declared.Refusal.{Refusal}

-- a letter is a byte from A to Z
unfoldable pub letter : ℕ → Bool
letter b = cond (leb 0x41 b) (leb b 0x5A) false

-- a character is one of these
abbrev pub occurs : ℕ → List ℕ → Bool
occurs c [] = false
occurs c (x ∷ xs) = cond (eqb c x) true (occurs c xs)

-- a residue is a letter, a stop or a gap
unfoldable pub residue : ℕ → Bool
residue b = cond (letter b) true (occurs b (ascii "*-"))

-- the characters of the values 0 to 63
abbrev pub alphabet : List ℕ
alphabet = ascii "ABCDEFGHIJKLMNOPQRSTUVWXYZabcdefghijklmnopqrstuvwxyz0123456789-_"

-- a base64url character
unfoldable pub base64url : ℕ → Bool
base64url c = occurs c alphabet

-- the offset of the first foreign byte
abbrev pub foreign : List ℕ → ℕ
foreign s = first_outside residue s

-- 4: a foreign byte in what is given
abbrev pub foreign_given : List ℕ → Ground
foreign_given s = ground (ltb (foreign s) (length s)) ForeignByte (foreign s)

-- 5: a foreign byte in the normal replacement
abbrev pub foreign_normal : List ℕ → Ground
foreign_normal s = ground (ltb (foreign s) (length s)) ForeignNormalByte (foreign s)

-- the characters of a digest text
abbrev pub digest_length : ℕ
digest_length = 32

-- 7: a digest text of another length, and one with a character outside base64url
abbrev pub digest_text_length : List ℕ → Ground
digest_text_length d = ground (not (eqb (length d) digest_length)) BadDigestText digest_length

abbrev pub digest_text_character : List ℕ → Ground
digest_text_character d = ground (ltb (first_outside base64url d) (length d)) BadDigestText (first_outside base64url d)

-- 7: its length first
unfoldable pub digest_text_grounds : List ℕ → List Ground
digest_text_grounds d = digest_text_length d ∷ digest_text_character d ∷ []

-- what the check of a digest text answers
abbrev pub digest_text_answer : List ℕ → Result (Unit {0}) Refusal
digest_text_answer d = tell (verdict (digest_text_grounds d)) tt
