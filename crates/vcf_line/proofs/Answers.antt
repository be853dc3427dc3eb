-- What is answered of a line's site, by the tests passed so far.
use Prim.Native.Nat.{ℕ, ◌<◌, ◌≤◌}
use mathlib.Core.Path.{◌≡◌, refl, sym, ap}
use mathlib.Core.Bool.{true, false}
use mathlib.Core.List.{List}
use lib.Dec.{ltb}
use lib.ListN.{length}
use borrow.Author.Tests.{lt-ltb, le-ltb, ltb-false}
use Rattle.stretch.specs.Part.{part}
use Rattle.std.specs.Prelude.{Option, Some, None, Ok, Err}
use Rattle.std.specs.Option.{option_map}
use Rattle.refusal.specs.declared.Reason.TheVariants.{OverLimit, NoDataLine}
use Rattle.refusal.specs.declared.Refusal.{Refusal}
use Rattle.refusal.specs.Limits.{reference_limit}
use Rattle.refusal.specs.Verdict.{accepted, refused, verdict}
use Rattle.refusal.proofs.Verdict.{none-holds, told-accepted, told-refused}
use Rattle.decimals.specs.Number.{value, number_within}
use Rattle.decimals.proofs.Reading.{Within, number-value}
use Rattle.fields.specs.declared.Extent.{Extent}
use Rattle.fields.specs.Cut.{parted, piece_of}
use Rattle.fields.proofs.Pieces.{Lies}
use Rattle.upper_case.specs.Upper.{lettered}
use Rattle.vcf_line.specs.declared.ResiduePosition.{ResiduePosition}
use Rattle.vcf_line.specs.declared.Site.{Site}
use Rattle.vcf_line.specs.Line.{tab, comma, columns, pos_column, ref_column, before}
use Rattle.vcf_line.specs.Calls.{line_grounds, counted}
use Rattle.vcf_line.specs.Inner.{residue_of, position_within, compared, site_of, sited}
use Rattle.vcf_line.proofs.Scanned.{alt-found}

position-none : (a : Option ℕ) → option_map residue_of a ≡ None → a ≡ None
position-none (Some n) e = cc
position-none None e = refl

position_at : (a : Option ℕ) (p : ResiduePosition) → option_map residue_of a ≡ Some p → a ≡ Some p.0
position_at (Some n) p e = let d : residue_of n ≡ p = cc in ap (λ (q : ResiduePosition). Some q.0) d
position_at None p e = cc

-- a residue that POS names, and that the code takes for the position before it
module _ (n : ℕ) (text : List ℕ) (p : ResiduePosition) (e : position_within n text ≡ Some p) where
  pub position-within : Within 1 n (value text) p.0
  position-within = number-value 1 n text p.0 (position_at (number_within 1 n text) p e)

module _ (r line : List ℕ) where
  pub sited-over : reference_limit < length r
      → Err (record { reason = OverLimit; value = 0 }) ≡ sited r line
  unfolding line_grounds
  sited-over h = rw (lt-ltb reference_limit (length r) h)

  module _ (small : length r ≤ reference_limit) where
    passed : ltb reference_limit (length r) ≡ false
    passed = le-ltb reference_limit (length r) small

    pub sited-few : ltb (length (columns line)) 5 ≡ true
        → Err (record { reason = NoDataLine; value = 0 }) ≡ sited r line
    unfolding line_grounds
    sited-few h = rw (passed, h)

    module _ (enough : ltb (length (columns line)) 5 ≡ false) where
      pub sited-unlettered : lettered (ref_column line) ≡ false
          → Err (record { reason = NoDataLine; value = 0 }) ≡ sited r line
      unfolding line_grounds
      sited-unlettered h = rw (passed, enough, h)

      pub sited-no-position : lettered (ref_column line) ≡ true → position_within (length r) (pos_column line) ≡ None
          → Err (record { reason = NoDataLine; value = 0 }) ≡ sited r line
      unfolding line_grounds
      sited-no-position h e =
          rw (passed, enough, h, position-none (number_within 1 (length r) (pos_column line)) e)

      pub sited-compared : lettered (ref_column line) ≡ true → (p : ResiduePosition)
          → position_within (length r) (pos_column line) ≡ Some p → (a : Extent) → piece_of tab line 0 4 ≡ Some a
          → compared r (before p) (ref_column line) a ≡ sited r line
      unfolding line_grounds
      sited-compared h p e a k =
          let n : p.0 ≡ value (pos_column line) = sym (position-within (length r) (pos_column line) p e).is in
          rw (
            passed,
            enough,
            h,
            position_at (number_within 1 (length r) (pos_column line)) p e,
            k,
            n,
          )

-- what a site tells
module _ (r line : List ℕ) where
  pub site-is : (s : Site) → Ok s ≡ sited r line → s ≡ site_of line
  site-is s e = (told-accepted (verdict (line_grounds r line)) (site_of line) s e).1

  pub site-passed : (s : Site) → Ok s ≡ sited r line → verdict (line_grounds r line) ≡ accepted
  site-passed s e = (told-accepted (verdict (line_grounds r line)) (site_of line) s e).0

  pub site-refused : (why : Refusal) → Err why ≡ sited r line → verdict (line_grounds r line) ≡ refused why
  site-refused why e = told-refused (verdict (line_grounds r line)) (site_of line) why e

  -- its alternates are those of ALT
  pub site-alternates : (s : Site) → Ok s ≡ sited r line → Lies tab line 0 4 s.alternates
  unfolding line_grounds
  site-alternates s e =
      rw (site-is s e) (alt-found line
      (ltb-false (length (columns line)) 5 (none-holds (line_grounds r line) (site-passed s e) 1)))

  -- so many places
  pub counts-places : (s : Site) → Ok s ≡ sited r line → (n : ℕ) (alts : List ℕ)
      → alts ≡ part line s.alternates.from s.alternates.to → n ≡ length (parted comma alts)
      → Ok n ≡ counted r line
  counts-places s e n alts d l =
      rw (site-passed s e, l, d, ← (site-alternates s e).piece)

  pub counts-refused : (why : Refusal) → Err why ≡ sited r line → Err why ≡ counted r line
  counts-refused why e = rw (site-refused why e)
