-- RFC 4648, section 5: base64url of whole groups of three bytes.
use Rattle.std.specs.Prelude.{ℕ, ◌+◌, ◌*◌, ◌/◌, ◌%◌, List, [], ◌∷◌, ◌++◌, get_or}
use Rattle.alphabets.specs.Alphabets.{alphabet}

-- the character of a value below 64
unfoldable pub character : ℕ → ℕ
character n = get_or alphabet n 0

-- the four characters of three bytes: their 24 bits, six to a character
abbrev pub group : ℕ → ℕ → ℕ → List ℕ
group a b c =
    character (a / 4)
    ∷ character (a % 4 * 16 + b / 16)
    ∷ character (b % 16 * 4 + c / 64)
    ∷ character (c % 64)
    ∷ []

-- group after group; fewer than three bytes, which 24 never leave, are dropped
unfoldable pub encoded : List ℕ → List ℕ
encoded [] = []
encoded (a ∷ []) = []
encoded (a ∷ b ∷ []) = []
encoded (a ∷ b ∷ c ∷ bytes) = group a b c ++ encoded bytes
