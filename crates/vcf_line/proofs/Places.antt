-- The alternate at a place of ALT: it lies where it is found, or there is no such place.
use Prim.Native.Nat.{ℕ, zero, suc, ◌-◌, ◌<◌}
use native.Mathlib.Nat.{not-suc-le-zero}
use native.Mathlib.Omega.{arith}
use mathlib.Core.Path.{◌≡◌, sym}
use mathlib.Core.List.{List, []}
use lib.ListN.{get_or-eq_default}
use Rattle.stretch.specs.Part.{part}
use Rattle.std.specs.Prelude.{Some, None}
use Rattle.fields.specs.declared.Extent.{Extent}
use Rattle.fields.specs.Cut.{parted, piece_of}
use Rattle.fields.proofs.Pieces.{Lies, piece-lies, piece-absent}
use Rattle.vcf_line.specs.Line.{comma, at_place}

module _ (alts : List ℕ) where
  pub place-lies : (k : ℕ) {e : Extent} → piece_of comma alts 0 k ≡ Some e → Lies comma alts 0 k e
  place-lies k p = piece-lies comma alts 0 k (omega arith) p

  pub at-place : (place : ℕ) {e : Extent} → 0 < place → piece_of comma alts 0 (place - 1) ≡ Some e
      → part alts e.from e.to ≡ at_place (parted comma alts) place
  at-place zero h p = absurd (not-suc-le-zero h)
  at-place (suc k) h p =
      let n : suc k - 1 ≡ k = omega arith in
      sym (place-lies k (rw n at p)).piece

  pub no_place : (place : ℕ) → 0 < place → piece_of comma alts 0 (place - 1) ≡ None
      → [] ≡ at_place (parted comma alts) place
  no_place zero h p = absurd (not-suc-le-zero h)
  no_place (suc k) h p =
      let n : suc k - 1 ≡ k = omega arith in
      sym (get_or-eq_default (parted comma alts) [] {n = k} (piece-absent comma alts 0 k (omega arith) (rw n at p)))
