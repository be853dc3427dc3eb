-- A digest text that is accepted: so many characters, each of base64url.
use Prim.Native.Nat.{ℕ, ◌≤◌}
use native.Mathlib.Omega.{arith}
use mathlib.Core.Path.{◌≡◌}
use mathlib.Core.Bool.{true}
use mathlib.Core.List.{List}
use lib.Dec.{eqb}
use lib.ListN.{length}
use borrow.Author.Tests.{eqb-true, ltb-false, not-false}
use Rattle.refusal.specs.Verdict.{accepted, verdict}
use Rattle.refusal.proofs.Verdict.{none-holds}
use Rattle.stretch.specs.Class.{every, first_outside}
use Rattle.alphabets.specs.Alphabets.{base64url, digest_text_grounds, digest_length}
use Rattle.stretch.proofs.Outside.{first_outside-le, first_outside-all}

module _ (d : List ℕ) (v : verdict (digest_text_grounds d) ≡ accepted) where
  pub digest-long : length d ≡ digest_length
  unfolding digest_text_grounds
  digest-long =
      eqb-true (length d) digest_length
      (not-false (eqb (length d) digest_length) (none-holds (digest_text_grounds d) v 0))

  pub digest-all : every base64url d ≡ true
  unfolding digest_text_grounds
  digest-all =
      let passed : length d ≤ first_outside base64url d =
      ltb-false (first_outside base64url d) (length d) (none-holds (digest_text_grounds d) v 1) in
      first_outside-all base64url d (omega (arith, first_outside-le base64url d))
