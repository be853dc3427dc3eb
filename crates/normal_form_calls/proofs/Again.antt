-- A normal form offered again: it passes the tests 1 to 5 where its replacement is within the limit, and is its own
-- normal form.
use Prim.Native.Nat.{ℕ, ◌+◌, ◌≤◌}
use native.Mathlib.Omega.{arith}
use mathlib.Core.Path.{◌≡◌, ap}
use mathlib.Core.Bool.{false}
use mathlib.Core.List.{List, [], ◌∷◌}
use lib.Dec.{ltb}
use lib.ListN.{length}
use borrow.Author.Tests.{le-ltb, ltb-false}
use Rattle.std.specs.Prelude.{Ok}
use Rattle.stretch.specs.Part.{part}
use Rattle.stretch.proofs.Over.{part-over}
use Rattle.refusal.specs.Limits.{reference_limit, replacement_limit}
use Rattle.refusal.specs.Verdict.{Ground, Verdict, accepted, verdict}
use Rattle.refusal.specs.Grounds.{output_too_short}
use Rattle.refusal.proofs.Verdict.{none-holds, verdict-fewer, verdict-later, told-accepted}
use Rattle.alphabets.specs.Alphabets.{foreign, foreign_normal}
use Rattle.normal_form.specs.Form.{Normal, normal}
use Rattle.normal_form.proofs.Laws.{normal-ordered, normal-inside, normal-normal}
use Rattle.moved.specs.declared.Moved.{Moved}
use Rattle.normal_form_calls.specs.declared.Form.{Form}
use Rattle.normal_form_calls.specs.declared.Formed.{Formed}
use Rattle.normal_form_calls.specs.Calls.{given_grounds, form_grounds, normal_grounds, numbers_of, Forms}
use Rattle.normal_form_calls.proofs.Answers.{clean-allele}

module _ (r : List ℕ) (start end : ℕ) (x : List ℕ) (v : verdict (form_grounds r start end x) ≡ accepted) where
  normal-clean : ltb (foreign (normal r start end x).replacement) (length (normal r start end x).replacement) ≡ false
  unfolding form_grounds
  normal-clean =
      let five = foreign_normal (normal r start end x).replacement ∷ [] in
      none-holds five (verdict-later (given_grounds r start end x) five v) 0

  pub normal-passes : length (normal r start end x).replacement ≤ replacement_limit
      → verdict (form_grounds r (normal r start end x).start (normal r start end x).end
      (normal r start end x).replacement) ≡ accepted
  unfolding form_grounds
  normal-passes short =
      let n = normal r start end x in
      let a = clean-allele r start end x v in
      rw (
        normal-normal r start end x,
        le-ltb reference_limit (length r) a.reference,
        le-ltb replacement_limit (length n.replacement) short,
        le-ltb n.end n.start (normal-ordered r start end x a.ordered),
        le-ltb (length r) n.end (normal-inside r start end x a.inside),
        normal-clean,
      )

pub record FormWritten (v : Verdict) (f : Normal) (place : ℕ) (form : Form) (left : List ℕ) : Type 0 where
  pub passed : v ≡ accepted
  pub numbers : form ≡ numbers_of f
  pub stands : part left place (place + form.length) ≡ f.replacement

pub form-written : (gs : List Ground) (f : Normal) (m : Moved) (out : List ℕ) (place : ℕ) (a : Formed)
    (left : List ℕ) → (verdict gs ≡ accepted → place + length f.replacement ≤ length out)
    → Forms (verdict gs) f m out place (Ok a) left → FormWritten (verdict gs) f place a.form left
form-written gs f m out place a left room p =
    let t = told-accepted (verdict gs) (record { form = numbers_of f; moved = m }) a p.answers in
    let numbers : a.form ≡ numbers_of f = ap (λ (b : Formed). b.form) t.1 in
    let long : a.form.length ≡ length f.replacement = ap (λ (g : Form). g.length) numbers in
    record {
      passed = t.0;
      numbers = numbers;
      stands =
          rw (p.leaves, t.0)
          (part-over out place f.replacement a.form.length (omega (arith, room t.0)) long);
    }

-- 6 is passed where all are
pub room-passed : (r : List ℕ) (start end : ℕ) (x : List ℕ) (room place : ℕ)
    → verdict (normal_grounds r start end x room place) ≡ accepted
    → place + length (normal r start end x).replacement ≤ room
unfolding normal_grounds
room-passed r start end x room place v =
    let six = output_too_short room place (length (normal r start end x).replacement) ∷ [] in
    ltb-false _ _ (none-holds six (verdict-later (form_grounds r start end x) six v) 0)

pub form-passed : (r : List ℕ) (start end : ℕ) (x : List ℕ) (room place : ℕ)
    → verdict (normal_grounds r start end x room place) ≡ accepted → verdict (form_grounds r start end x) ≡ accepted
unfolding normal_grounds
form-passed r start end x room place v =
    verdict-fewer (form_grounds r start end x)
    (output_too_short room place (length (normal r start end x).replacement) ∷ []) v
