-- The worked alleles: the call answers each as the table does.
use Prim.Native.Nat.{ℕ, ◌+◌, ◌≤◌}
use mathlib.Core.Path.{◌≡◌, refl, ◌∙◌}
use mathlib.Core.List.{List, [], ◌∷◌, map}
use lib.ListN.{length}
use borrow.Author.Tests.{le-ltb}
use Rattle.stretch.specs.Common.{lcp, lcs}
use Rattle.stretch.specs.Over.{over}
use Rattle.stretch.specs.Same.{same}
use Rattle.refusal.specs.Verdict.{Verdict, accepted, verdict}
use Rattle.refusal.specs.Grounds.{output_too_short}
use Rattle.refusal.proofs.Verdict.{verdict-then}
use Rattle.stretch.specs.Class.{first_outside}
use Rattle.alphabets.specs.Alphabets.{letter, residue}
use Rattle.normal_form.specs.Form.{altered, shorter, within, ahead, behind, kind_in, kind_of, changed_form, normal}
use Rattle.normal_form.specs.Worked.{Case, cases}
use Rattle.normal_form.proofs.Worked.{formed, worked-normal}
use Rattle.moved.specs.Moved.{moved_by}
use Rattle.normal_form_calls.specs.Calls.{form_grounds, normal_grounds}
use Rattle.normal_form_calls.specs.Worked.{Promised, Works, AllWork, answer_to, how_far, distances}
use Rattle.normal_form_calls.proofs.Promises.{normalises-once}

abbrev judged : Case → Verdict
judged c = verdict (form_grounds c.reference c.start c.end c.replacement)

-- none is turned away by 1 to 5
accepted-cases : map judged cases ≡ map (λ (c : Case). accepted) cases
unfolding lcp lcs same altered shorter within ahead behind kind_in kind_of changed_form normal residue letter
    first_outside
    form_grounds
accepted-cases = refl

-- nor by 6 where there is room
works : (c : Case) → formed c ≡ c.answer → judged c ≡ accepted
    → (out : List ℕ) (place : ℕ) → place + length c.answer.replacement ≤ length out → Works c out place
unfolding normal_grounds moved_by
works c form passed out place room =
    let six : verdict (output_too_short (length out) place (length c.answer.replacement) ∷ []) ≡ accepted
    = rw (le-ltb (length out) (place + length c.answer.replacement) room) in
    let v : verdict (normal_grounds c.reference c.start c.end c.replacement (length out) place) ≡ accepted
    = verdict-then (form_grounds c.reference c.start c.end c.replacement) _ passed ∙ rw form six in
    let met : Promised c out place (answer_to c) (over out place c.answer.replacement)
    = record { answers = rw (v, form); leaves = rw (v, form) } in
    record { met = met; only = λ answer left p. normalises-once _ _ _ _ out place _ _ _ _ p met }

all-work : (cs : List Case) → map formed cs ≡ map (λ (c : Case). c.answer) cs
    → map judged cs ≡ map (λ (c : Case). accepted) cs → AllWork cs
all-work [] p q = tt
all-work (c ∷ cs) p q = (works c (cc) (cc), all-work cs (cc) (cc))

-- cases 1 to 12
pub worked-calls : AllWork cases
worked-calls = all-work cases worked-normal accepted-cases

-- and how far each form moved
pub worked-moves : map how_far cases ≡ distances
worked-moves = refl
