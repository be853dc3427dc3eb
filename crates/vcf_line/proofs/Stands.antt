-- A line that passes 1, 19 and 20 stands on the reference: REF, in upper case, is what lies from its start to its end.
use Prim.Native.Nat.{ℕ, ◌≤◌}
use native.Mathlib.Nat.{add-sub_cancel_left}
use native.Mathlib.Omega.{arith}
use mathlib.Core.Path.{◌≡◌, ◌∙◌}
use mathlib.Core.Bool.{true}
use mathlib.Core.List.{List}
use lib.ListN.{length, drop, length-drop}
use lib.Seq.{take_all}
use borrow.Author.Tests.{ltb-false, not-false}
use Rattle.stretch.specs.Class.{every}
use Rattle.stretch.specs.Common.{lcp}
use Rattle.stretch.specs.Part.{part}
use Rattle.stretch.proofs.Common.{lcp-le-left, lcp-take}
use Rattle.refusal.specs.Limits.{reference_limit}
use Rattle.refusal.specs.Verdict.{accepted, verdict}
use Rattle.refusal.proofs.Verdict.{none-holds}
use Rattle.alphabets.specs.Alphabets.{letter}
use Rattle.upper_case.specs.Upper.{folded, lettered}
use Rattle.upper_case.proofs.Folded.{length-folded}
use Rattle.upper_case.proofs.Lettered.{lettered-some, lettered-every}
use Rattle.vcf_line.specs.Line.{ref_column, start_of, end_of}
use Rattle.vcf_line.specs.Calls.{line_grounds}

module _ (r line : List ℕ) (v : verdict (line_grounds r line) ≡ accepted) where
  pub stands-small : length r ≤ reference_limit
  unfolding line_grounds
  stands-small = ltb-false reference_limit (length r) (none-holds (line_grounds r line) v 0)

  ref-lettered : lettered (ref_column line) ≡ true
  unfolding line_grounds
  ref-lettered = not-false (lettered (ref_column line)) (none-holds (line_grounds r line) v 2)

  shared : length (ref_column line) ≤ lcp (drop (start_of line).0 r) (folded (ref_column line))
  unfolding line_grounds
  shared = ltb-false _ _ (none-holds (line_grounds r line) v 4)

  pub stands-inside : (end_of line).0 ≤ length r
  stands-inside =
      let s = (start_of line).0 in
      omega (
        arith,
        shared,
        lcp-le-left (drop s r) (folded (ref_column line)),
        length-drop s r,
        lettered-some (ref_column line) ref-lettered,
      )

  pub stands-there : part r (start_of line).0 (end_of line).0 ≡ folded (ref_column line)
  stands-there =
      let s = (start_of line).0 in
      let ref = ref_column line in
      rw (add-sub_cancel_left s (length ref))
      (lcp-take (drop s r) (folded ref) (length ref) shared
      ∙ take_all (length ref) (folded ref) (omega (arith, length-folded ref)))

  pub stands-letters : every letter (part r (start_of line).0 (end_of line).0) ≡ true
  stands-letters = rw stands-there (lettered-every (ref_column line) ref-lettered)
