-- A digest text is of base64url characters.
use Prim.Native.Nat.{ℕ, zero, suc, ◌+◌, ◌*◌, ◌/◌, ◌%◌, ◌<◌, ◌≤◌}
use native.Mathlib.Omega.{arith}
use mathlib.Core.Path.{◌≡◌, refl}
use mathlib.Core.Bool.{Bool, true}
use mathlib.Core.List.{List}
use lib.ListN.{length, get_or, take}
use Rattle.stretch.specs.Below.{below}
use Rattle.stretch.proofs.Below.{below_at}
use Rattle.stretch.specs.Class.{every}
use Rattle.alphabets.specs.Alphabets.{base64url}
use Rattle.stretch.proofs.Class.{every_append}
use Rattle.sha512.specs.Message.{sha512}
use Rattle.sha512.proofs.Bytes.{length-sha512, sha512-bytes}
use Rattle.digest_text.specs.Base64.{character, group, encoded}
use Rattle.digest_text.specs.Digest.{digest_text, sha512t24u}
use Rattle.digest_text.proofs.Encoding.{encoded-more}

-- the alphabet has the character of every value: one computed test of all values, and the rule at each
belongs : ℕ → Bool
belongs n = base64url (character n)

every_value : below belongs 64 ≡ true
unfolding below belongs base64url character
every_value = refl

character-in : (n : ℕ) → n < 64 → base64url (character n) ≡ true
unfolding belongs
character-in = below_at belongs 64 every_value

group-characters : (a b c : ℕ) → a < 256 → b < 256 → c < 256 → every base64url (group a b c) ≡ true
unfolding every
group-characters a b c h g k =
    rw (
      character-in (a / 4) (omega arith),
      character-in (a % 4 * 16 + b / 16) (omega arith),
      character-in (b % 16 * 4 + c / 64) (omega arith),
      character-in (c % 64) (omega arith),
    )

encoded-characters : (i : ℕ) (d : List ℕ) → i * 3 ≤ length d → ((k : ℕ) → get_or d k 0 < 256)
    → every base64url (encoded (take (i * 3) d)) ≡ true
unfolding encoded every
encoded-characters zero d h f = refl
encoded-characters (suc i) d h f =
    rw (encoded-more i d h, every_append base64url (encoded (take (i * 3) d)) _, encoded-characters i d (omega arith) f)
    (group-characters _ _ _ (f (i * 3)) (f (suc (i * 3))) (f (suc (suc (i * 3)))))

pub digest_text-characters : (d : List ℕ) → 24 ≤ length d → ((k : ℕ) → get_or d k 0 < 256)
    → every base64url (digest_text d) ≡ true
unfolding digest_text
digest_text-characters = encoded-characters 8

pub digest-characters : (m : List ℕ) → every base64url (sha512t24u m) ≡ true
unfolding sha512t24u
digest-characters m = digest_text-characters (sha512 m) (omega (arith, length-sha512 m)) (sha512-bytes m)
