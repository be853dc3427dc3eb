-- Classes of bytes said in two ways: one computed test of all bytes, and the rule at each. Letters and the base64url
-- alphabet as std says them, and the residues as a list.
use Prim.Native.Nat.{ℕ, ◌<◌}
use mathlib.Core.Path.{◌≡◌, refl}
use mathlib.Core.Bool.{Bool, true, false, beq, ◌||◌}
use Rattle.std.specs.Prelude.{◌==◌}
use Rattle.std.specs.Char.{is_ascii_uppercase, is_ascii_alphanumeric}
use mathlib.Core.List.{List}
use Rattle.stretch.specs.Ascii.{ascii}
use Rattle.stretch.specs.Below.{below}
use Rattle.stretch.proofs.Below.{below_at}
use Rattle.alphabets.specs.Alphabets.{letter, residue, occurs, base64url}

beq-eq : (a b : Bool) → beq a b ≡ true → a ≡ b
beq-eq true true h = refl
beq-eq true false h = cc
beq-eq false true h = cc
beq-eq false false h = refl

module _ (p q : ℕ → Bool) where
  agrees : ℕ → Bool
  agrees c = beq (p c) (q c)

  at_byte : below agrees 256 ≡ true → (c : ℕ) → c < 256 → p c ≡ q c
  unfolding agrees
  at_byte every_byte c h = beq-eq (p c) (q c) (below_at agrees 256 every_byte c h)

-- the classes as std's words for ASCII say them
pub uppercase-letter : (b : ℕ) → b < 256 → is_ascii_uppercase b ≡ letter b
unfolding below agrees letter
uppercase-letter = at_byte is_ascii_uppercase letter refl

pub alphanumeric-base64url : (b : ℕ) → b < 256 → ((is_ascii_alphanumeric b || (b == 45)) || (b == 95)) ≡ base64url b
unfolding below agrees base64url
alphanumeric-base64url = at_byte (λ (b : ℕ). (is_ascii_alphanumeric b || (b == 45)) || (b == 95)) base64url refl

-- the characters that the schema of VRS lets a sequence have
abbrev pub pattern : List ℕ
pattern = ascii "ABCDEFGHIJKLMNOPQRSTUVWXYZ*-"

pub residue-pattern : (b : ℕ) → b < 256 → residue b ≡ occurs b pattern
unfolding below agrees residue letter
residue-pattern = at_byte residue (λ (b : ℕ). occurs b pattern) refl
