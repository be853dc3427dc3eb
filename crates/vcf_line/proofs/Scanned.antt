-- Where the columns of a line lie that are read: POS, REF and ALT, or there are fewer than five.
use Prim.Native.Nat.{ℕ, ◌<◌, ◌≤◌}
use native.Mathlib.Omega.{arith}
use mathlib.Core.Path.{◌≡◌, refl, ◌∙◌, sym}
use mathlib.Core.Bool.{true, false}
use mathlib.Core.List.{List}
use lib.Dec.{ltb}
use lib.ListN.{length}
use borrow.Author.Tests.{lt-ltb, le-ltb}
use Rattle.std.specs.Prelude.{Option, Some, None}
use Rattle.fields.specs.declared.Extent.{Extent}
use Rattle.fields.specs.Cut.{piece_of, piece_after}
use Rattle.fields.proofs.Pieces.{Lies, piece-lies, piece-absent, piece-after}
use Rattle.vcf_line.specs.declared.Columns.{Columns}
use Rattle.vcf_line.specs.Line.{tab, columns}
use Rattle.vcf_line.specs.Inner.{five_of, columns_of, extent_in}

module _ (line : List ℕ) where
  -- POS is found, then REF behind it, then ALT behind that
  pub no-pos : piece_of tab line 0 1 ≡ None → None ≡ columns_of line
  unfolding columns_of
  no-pos e = rw e

  pub no_ref : {p : Extent} → piece_of tab line 0 1 ≡ Some p → piece_after tab line p.to 1 ≡ None
      → None ≡ columns_of line
  unfolding columns_of
  no_ref p e = rw (p, piece-after tab line 0 1 p 1, e)

  pub ref-behind : {p r : Extent} → piece_of tab line 0 1 ≡ Some p → piece_after tab line p.to 1 ≡ Some r
      → piece_of tab line 0 3 ≡ Some r
  ref-behind p e = piece-after tab line 0 1 p 1 ∙ e

  alt-behind : {r : Extent} {a : Option Extent} → piece_of tab line 0 3 ≡ Some r → piece_after tab line r.to 0 ≡ a
      → piece_of tab line 0 4 ≡ a
  alt-behind p e = piece-after tab line 0 3 p 0 ∙ e

  pub no-alt : {p r : Extent} → piece_of tab line 0 1 ≡ Some p → piece_of tab line 0 3 ≡ Some r
      → piece_after tab line r.to 0 ≡ None → None ≡ columns_of line
  unfolding columns_of
  no-alt p q e = rw (p, q, alt-behind q e)

  pub all-five : {p r a : Extent} → piece_of tab line 0 1 ≡ Some p → piece_of tab line 0 3 ≡ Some r
      → piece_after tab line r.to 0 ≡ Some a
      → Some (record { pos = p; reference = r; alternates = a }) ≡ columns_of line
  unfolding columns_of
  all-five p q e = rw (p, q, alt-behind q e)

-- where the three lie
pub record Found (line : List ℕ) (w : Columns) : Type 0 where
  pub pos : Lies tab line 0 1 w.pos
  pub reference : Lies tab line 0 3 w.reference
  pub alternates : Lies tab line 0 4 w.alternates
  pub third : piece_of tab line 0 4 ≡ Some w.alternates

module _ (line : List ℕ) where
  found_as : (x y z : Option Extent) (w : Columns) → Some w ≡ five_of x y z
      → (x ≡ Some w.pos) × (y ≡ Some w.reference) × (z ≡ Some w.alternates)
  found_as (Some x) (Some y) (Some z) w e = (cc, cc, cc)
  found_as (Some x) (Some y) None w e = (cc, cc, cc)
  found_as (Some x) None z w e = (cc, cc, cc)
  found_as None y z w e = (cc, cc, cc)

  pub columns-found : (w : Columns) → columns_of line ≡ Some w → Found line w
  unfolding columns_of
  columns-found w e =
      let t = found_as (piece_of tab line 0 1) (piece_of tab line 0 3) (piece_of tab line 0 4) w (sym e) in
      record {
        pos = piece-lies tab line 0 1 (omega arith) t.0;
        reference = piece-lies tab line 0 3 (omega arith) t.1;
        alternates = piece-lies tab line 0 4 (omega arith) t.2;
        third = t.2;
      }

  few : (x y z : Option Extent) → x ≡ piece_of tab line 0 1 → y ≡ piece_of tab line 0 3 → z ≡ piece_of tab line 0 4
      → None ≡ five_of x y z → length (columns line) < 5
  few (Some x) (Some y) (Some z) i j k e = let n : ◌≡◌ {A = ℕ} 0 1 = cc in absurd (omega arith)
  few (Some x) (Some y) None i j k e = omega (arith, piece-absent tab line 0 4 (omega arith) (sym k))
  few (Some x) None z i j k e = omega (arith, piece-absent tab line 0 3 (omega arith) (sym j))
  few None y z i j k e = omega (arith, piece-absent tab line 0 1 (omega arith) (sym i))

  pub columns-few : columns_of line ≡ None → ltb (length (columns line)) 5 ≡ true
  unfolding columns_of
  columns-few e = lt-ltb _ _ (few _ _ _ refl refl refl (sym e))

  pub columns-enough : {w : Columns} → Found line w → ltb (length (columns line)) 5 ≡ false
  columns-enough f = le-ltb (length (columns line)) 5 (omega (arith, f.alternates.exists))

-- ALT, where the line has five columns
module _ (line : List ℕ) (enough : 5 ≤ length (columns line)) where
  alt-as : (x : Option Extent) → piece_of tab line 0 4 ≡ x → Lies tab line 0 4 (extent_in x)
  alt-as (Some e) p = piece-lies tab line 0 4 (omega arith) p
  alt-as None p = absurd (omega (arith, piece-absent tab line 0 4 (omega arith) p))

  pub alt-found : Lies tab line 0 4 (extent_in (piece_of tab line 0 4))
  alt-found = alt-as (piece_of tab line 0 4) refl
