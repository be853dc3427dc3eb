-- The way from a line to a number: what the call answers and writes, offered to entry or to an identifier, is the
-- allele of the line.
use Prim.Native.Nat.{ℕ, ◌+◌, ◌≤◌}
use mathlib.Core.Path.{◌≡◌}
use mathlib.Core.List.{List, [], ◌∷◌}
use lib.ListN.{length}
use Rattle.std.specs.Prelude.{Ok}
use Rattle.stretch.specs.Part.{part}
use Rattle.refusal.specs.Limits.{replacement_limit}
use Rattle.refusal.specs.Verdict.{accepted, verdict}
use Rattle.refusal.proofs.Verdict.{verdict-later}
use Rattle.normal_form.specs.Form.{altered, normal}
use Rattle.normal_form.proofs.Laws.{altered-normal, normal-normal}
use Rattle.moved.specs.Moved.{moved_by, still}
use Rattle.moved.proofs.Ends.{normal-still}
use Rattle.normal_form_calls.specs.declared.Formed.{Formed}
use Rattle.normal_form_calls.specs.Calls.{form_grounds, normal_grounds}
use Rattle.normal_form_calls.proofs.Again.{FormWritten, form-written, form-passed, room-passed, normal-passes}
use Rattle.vcf_line.specs.Line.{start_of, end_of}
use Rattle.vcf_line.specs.Calls.{no_alternate, line_grounds}
use Rattle.vcf_form.specs.Calls.{named_at, replacement_at, line_form, line_moved, vcf_grounds, VcfForms}

module _ (r line : List ℕ) (alternate : ℕ) where
  -- an accepted call has passed the tests of its allele
  allele-passed : (room place : ℕ) → verdict (vcf_grounds r line alternate room place) ≡ accepted
      → verdict (normal_grounds r (start_of line).0 (end_of line).0 (replacement_at line alternate) room place)
      ≡ accepted
  unfolding vcf_grounds
  allele-passed room place v =
      verdict-later (no_alternate (named_at line alternate) alternate ∷ [])
      (normal_grounds r (start_of line).0 (end_of line).0 (replacement_at line alternate) room place)
      (verdict-later (line_grounds r line) _ v)

  module _ (out : List ℕ) (place : ℕ) (a : Formed) (left : List ℕ)
      (p : VcfForms r line alternate out place (Ok a) left) where
    written : FormWritten (verdict (vcf_grounds r line alternate (length out) place)) (line_form r line alternate) place
        a.form left
    written =
        form-written (vcf_grounds r line alternate (length out) place) (line_form r line alternate)
        (line_moved r line alternate) out place a left
        (λ v. room-passed r _ _ _ (length out) place (allele-passed (length out) place v)) p

    -- it has the allele's normal form
    pub onward-normal : normal r a.form.start a.form.end (part left place (place + a.form.length))
        ≡ line_form r line alternate
    onward-normal =
        rw (written.stands, written.numbers)
        (normal-normal r (start_of line).0 (end_of line).0 (replacement_at line alternate))

    -- which moves no further
    pub onward-still : moved_by r a.form.start a.form.end (part left place (place + a.form.length)) ≡ still
    onward-still =
        rw (written.stands, written.numbers)
        (normal-still r (start_of line).0 (end_of line).0 (replacement_at line alternate))

    -- and its altered sequence
    pub onward-altered : altered r a.form.start a.form.end (part left place (place + a.form.length))
        ≡ altered r (start_of line).0 (end_of line).0 (replacement_at line alternate)
    onward-altered =
        rw (written.stands, written.numbers)
        (altered-normal r (start_of line).0 (end_of line).0 (replacement_at line alternate))

    -- and passes the tests 1 to 5, where it is within the limit of a replacement
    pub onward-passes : a.form.length ≤ replacement_limit
        → verdict (form_grounds r a.form.start a.form.end (part left place (place + a.form.length))) ≡ accepted
    onward-passes short =
        rw (written.stands, written.numbers)
        (normal-passes r (start_of line).0 (end_of line).0 (replacement_at line alternate)
        (form-passed r _ _ _ (length out) place (allele-passed (length out) place written.passed))
        (rw written.numbers at short))
