-- Document 01, "Texts and identifiers": the words that texts are made of. Words of one kind are a predicate on lists.
use Rattle.std.specs.Prelude.{ℕ, ◌≤◌, ◌≡◌, true, List, length}
use Rattle.stretch.specs.Class.{every}
use Rattle.alphabets.specs.Alphabets.{residue, base64url, digest_length}
use Rattle.decimals.specs.Decimal.{decimal}

-- this one alone
abbrev pub Word : List ℕ → List ℕ → Type 0
Word w s = s ≡ w

-- a digest text: so many base64url characters
pub record Digest (s : List ℕ) : Type 0 where
  pub long : length s ≡ digest_length
  pub characters : every base64url s ≡ true

-- at most so many residues
pub record Residues (most : ℕ) (s : List ℕ) : Type 0 where
  pub few : length s ≤ most
  pub residues : every residue s ≡ true

-- the decimals of the numbers from a lower to an upper limit
pub record DecimalFrom (least most : ℕ) (s : List ℕ) : Type 0 where
  pub number : ℕ
  pub large : least ≤ number
  pub small : number ≤ most
  pub digits : s ≡ decimal number

-- those of the numbers up to a limit
abbrev pub DecimalTo : ℕ → List ℕ → Type 0
DecimalTo most = DecimalFrom 0 most
