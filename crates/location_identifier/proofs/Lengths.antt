-- How long a location's text and its identifier are, the longest text, and the room that one takes.
use Prim.Native.Nat.{ℕ, ◌+◌, ◌-◌, ◌*◌, ◌^◌, ◌<◌, ◌≤◌}
use native.Mathlib.Omega.{arith}
use mathlib.Core.Path.{◌≡◌, refl}
use mathlib.Core.List.{List, ◌++◌}
use lib.ListN.{length, take, drop, length-drop}
use Rattle.stretch.specs.Over.{Wrote}
use Rattle.stretch.proofs.Over.{over-tail-front}
use Rattle.stretch.proofs.Tail.{lent-tail}
use Rattle.std.specs.Prelude.{Ok}
use Rattle.refusal.specs.Verdict.{accepted}
use Rattle.refusal.specs.Writes.{Writes}
use Rattle.refusal.proofs.Writes.{writes-all}
use Rattle.alphabets.specs.Alphabets.{digest_length}
use Rattle.decimals.specs.Decimal.{decimal}
use Rattle.text.specs.Layout.{location_text, location_words}
use Rattle.decimals.proofs.Digits.{decimal-within}
use Rattle.text.proofs.Layouts.{length-location}
use Rattle.digest_text.proofs.Encoding.{length-sha512t24u}
use Rattle.location_identifier.specs.Identifier.{location_identifier, location_identifier_length}

-- the bytes of a location text around its numbers
abbrev pub around_numbers : ℕ
around_numbers = location_words + digest_length

-- two numbers of 64 bits, of at most 20 digits, and a digest
pub location-room : (start end n : ℕ) → start < 2 ^ 64 → end < 2 ^ 64 → n ≡ digest_length
    → length (decimal end) + (length (decimal start) + (n + location_words)) ≤ location_words + digest_length + 2 * 20
location-room start end n h g e = omega (arith, decimal-within start h, decimal-within end g)

pub length-location-identifier : (start end : ℕ) (digest : List ℕ)
    → length (location_identifier start end digest) ≡ location_identifier_length
unfolding location_identifier
length-location-identifier start end digest = rw (length-sha512t24u (location_text start end digest))

-- a location text is as long as the code counts it
pub location-long : (start end : ℕ) (digest : List ℕ) (a b : ℕ) → a ≡ length (decimal start) → b ≡ length (decimal end)
    → length digest ≡ digest_length → a + b + around_numbers ≡ length (location_text start end digest)
location-long start end digest a b p q e = omega (arith, length-location start end digest)

-- a text that is laid over the tail of a buffer
module _ (out : List ℕ) (place : ℕ) where
  pub tail-holds : (start end : ℕ) (digest : List ℕ) → place + length (location_text start end digest) ≤ length out
      → length (decimal end) + (length (decimal start) + (length digest + location_words))
      ≤ length (take (length out - place) (drop place out))
  tail-holds start end digest room =
      rw (lent-tail out place, length-drop place out) (omega (arith, length-location start end digest))

  pub tail_written : (text tail : List ℕ) (n : ℕ) → place + length text ≤ length out
      → Wrote (take (length out - place) (drop place out)) 0 text tail n
      → Writes accepted text out place (Ok n)
      (take place out ++ (tail ++ drop (length out - place) (drop place out)))
  tail_written text tail n room w =
      writes-all accepted text out place n _ refl (omega (arith, w.next))
      (rw w.laid (over-tail-front out place text room))
