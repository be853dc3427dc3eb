-- What the answers of the calls tell: of the allele, of where its form lies, and of the tests that follow.
use Prim.Native.Nat.{ℕ, ◌+◌, ◌<◌, ◌≤◌}
use native.Mathlib.Omega.{arith}
use mathlib.Core.Path.{◌≡◌, ap, subst}
use mathlib.Core.Bool.{true, false}
use mathlib.Core.List.{List, [], ◌∷◌}
use lib.Dec.{ltb}
use lib.ListN.{length}
use borrow.Author.Tests.{lt-ltb, le-ltb, ltb-false}
use Rattle.std.specs.Prelude.{Result, Ok, Err}
use Rattle.stretch.specs.Over.{over}
use Rattle.refusal.specs.declared.Refusal.{Refusal}
use Rattle.refusal.specs.declared.Reason.TheVariants.{ForeignNormalByte, OutputTooShort}
use Rattle.refusal.specs.Limits.{reference_limit, replacement_limit}
use Rattle.refusal.specs.Verdict.{accepted, refused, verdict}
use Rattle.refusal.proofs.Verdict.{none-holds, verdict-first, verdict-fewer, verdict-then}
use Rattle.refusal.proofs.Verdict.{told-accepted, told-refused}
use Rattle.refusal.specs.Grounds.{output_too_short}
use Rattle.alphabets.specs.Alphabets.{foreign, foreign_normal}
use Rattle.normal_form.specs.declared.Stretches.{Stretches}
use Rattle.normal_form.specs.Form.{Allele, Normal, normal}
use Rattle.normal_form.specs.Stretches.{Fits, joined, joined_length, stretches_of, form_in}
use Rattle.normal_form.proofs.Join.{stretches-fit, stretches-join}
use Rattle.normal_form.proofs.Joined.{length-joined}
use Rattle.moved.specs.Moved.{moved_by, moved_in}
use Rattle.moved.proofs.Ends.{stretches-moved}
use Rattle.normal_form_calls.specs.declared.Formed.{Formed}
use Rattle.normal_form_calls.specs.Calls.{given_grounds, form_grounds, normal_grounds, given_answer, located}
use Rattle.normal_form_calls.specs.Calls.{located_clean}
use Rattle.normal_form_calls.specs.Calls.{cleanly, form_of, Forms, Lays, Normalises}

-- 5 and 6 alone, of stretches that lie in range, by the length that the code sums up
module _ (r x : List ℕ) (w : Stretches) (f : Fits r x w) where
  long : joined_length w ≡ length (joined r x w)
  long = length-joined r x w f

  pub clean-refuses : (k : ℕ) → k ≡ foreign (joined r x w) → k < joined_length w
      → Err (record { reason = ForeignNormalByte; value = k }) ≡ cleanly r x w
  clean-refuses k e l = rw (← e, lt-ltb k (length (joined r x w)) (omega (arith, long)))

  pub clean-accepts : (k : ℕ) → k ≡ foreign (joined r x w) → joined_length w ≤ k
      → Ok w ≡ cleanly r x w
  clean-accepts k e l = rw (← e, le-ltb k (length (joined r x w)) (omega (arith, long)))

  module _ (out : List ℕ) (place : ℕ) where
    pub lays-nothing : ltb (length out) (place + joined_length w) ≡ true
        → Lays r x w out place (Err (record { reason = OutputTooShort; value = joined_length w })) out
    lays-nothing t =
        let v : ltb (length out) (place + length (joined r x w)) ≡ true = rw long at t in
        record { answers = rw (v, long); leaves = rw v }

    pub lays_all : ltb (length out) (place + joined_length w) ≡ false
        → Lays r x w out place (Ok (record { form = form_of w; moved = moved_in w })) (over out place (joined r x w))
    lays_all t =
        let v : ltb (length out) (place + length (joined r x w)) ≡ false = rw long at t in
        record { answers = rw (v, long); leaves = rw v }

module _ (r : List ℕ) (start end : ℕ) (x : List ℕ) where
  -- the tests 1 to 3 leave an allele on the reference
  pub given-allele : verdict (given_grounds r start end x) ≡ accepted → Allele r start end x
  given-allele v =
      let passed = none-holds (given_grounds r start end x) v in
      record {
        ordered = ltb-false end start (passed 2);
        inside = ltb-false (length r) end (passed 3);
        reference = ltb-false reference_limit (length r) (passed 0);
        replacement = ltb-false replacement_limit (length x) (passed 1);
      }

  pub given-accepted : Ok tt ≡ given_answer r start end x → Allele r start end x
  given-accepted e = given-allele (told-accepted _ _ _ e).0

  -- the form is located where they let it through
  pub given-located : Ok tt ≡ given_answer r start end x
      → Ok (stretches_of r start end x) ≡ located r start end x
  given-located e = rw (told-accepted (verdict (given_grounds r start end x)) tt tt e).0

  pub given-refused : (why : Refusal) → Err why ≡ given_answer r start end x
      → Err why ≡ located r start end x
  given-refused why e = rw (told-refused (verdict (given_grounds r start end x)) tt why e)

  -- and is the normal form
  pub located_fits : (w : Stretches) → Ok w ≡ located r start end x → Fits r x w
  located_fits w e =
      let t = told-accepted (verdict (given_grounds r start end x)) (stretches_of r start end x) w e in
      rw t.1 (stretches-fit r start end x (given-allele t.0))

  pub located-form : (w : Stretches) → Ok w ≡ located r start end x → form_in r x w ≡ normal r start end x
  located-form w e =
      let t = told-accepted (verdict (given_grounds r start end x)) (stretches_of r start end x) w e in
      rw t.1 (stretches-join r start end x (given-allele t.0))

  -- 5 after 1 to 4
  pub clean-located : (w : Stretches) → Ok w ≡ located r start end x → cleanly r x w ≡ located_clean r start end x
  unfolding form_grounds
  clean-located w e =
      let t = told-accepted (verdict (given_grounds r start end x)) (stretches_of r start end x) w e in
      let j : joined r x w ≡ (normal r start end x).replacement =
      ap (λ (f : Normal). f.replacement) (located-form w e) in
      rw (j, verdict-then (given_grounds r start end x) _ t.0, t.1)

  pub refused-located : (why : Refusal) → Err why ≡ located r start end x
      → Err why ≡ located_clean r start end x
  unfolding form_grounds
  refused-located why e =
      rw (verdict-first (given_grounds r start end x) _ why
      (told-refused (verdict (given_grounds r start end x)) (stretches_of r start end x) why e))

  -- 6 after 1 to 5
  pub clean-allele : verdict (form_grounds r start end x) ≡ accepted → Allele r start end x
  unfolding form_grounds
  clean-allele v = given-allele
      (verdict-fewer (given_grounds r start end x) (foreign_normal (normal r start end x).replacement ∷ []) v)

  pub clean-accepted : (w : Stretches) → Ok w ≡ located_clean r start end x
      → (verdict (form_grounds r start end x) ≡ accepted) × (w ≡ stretches_of r start end x)
  clean-accepted w e = told-accepted (verdict (form_grounds r start end x)) (stretches_of r start end x) w e

  pub clean-refused : (why : Refusal) → Err why ≡ located_clean r start end x
      → verdict (form_grounds r start end x) ≡ refused why
  clean-refused why e = told-refused (verdict (form_grounds r start end x)) (stretches_of r start end x) why e

  pub clean-fits : (w : Stretches) → Ok w ≡ located_clean r start end x → Fits r x w
  clean-fits w e = let t = clean-accepted w e in rw t.1 (stretches-fit r start end x (clean-allele t.0))

  pub clean-form : (w : Stretches) → Ok w ≡ located_clean r start end x → form_in r x w ≡ normal r start end x
  clean-form w e = let t = clean-accepted w e in rw t.1 (stretches-join r start end x (clean-allele t.0))

  pub clean-moved : (w : Stretches) → Ok w ≡ located_clean r start end x → moved_in w ≡ moved_by r start end x
  clean-moved w e = let t = clean-accepted w e in rw t.1 (stretches-moved r start end x (clean-allele t.0))

  pub lays-normal : (w : Stretches) (out : List ℕ) (place : ℕ) (answer : Result Formed Refusal) (left : List ℕ)
      → Ok w ≡ located_clean r start end x → Lays r x w out place answer left
      → Normalises r start end x out place answer left
  unfolding normal_grounds
  lays-normal w out place answer left e p =
      let six = output_too_short (length out) place (length (normal r start end x).replacement) ∷ [] in
      let v = verdict-then (form_grounds r start end x) six (clean-accepted w e).0 in
      rw v (subst
      (λ (f : Normal). Forms (verdict (output_too_short (length out) place (length f.replacement) ∷ [])) f
      (moved_by r start end x) out place answer left)
      (clean-form w e) (rw (clean-moved w e) at p))

  pub formed : (w : Stretches) (out : List ℕ) (place : ℕ) → Ok w ≡ located_clean r start end x
      → ltb (length out) (place + joined_length w) ≡ false
      → Normalises r start end x out place (Ok (record { form = form_of w; moved = moved_in w }))
      (over out place (joined r x w))
  formed w out place e t = lays-normal w out place _ _ e (lays_all r x w (clean-fits w e) out place t)

  pub no_room : (w : Stretches) (out : List ℕ) (place : ℕ) → Ok w ≡ located_clean r start end x
      → ltb (length out) (place + joined_length w) ≡ true
      → Normalises r start end x out place (Err (record { reason = OutputTooShort; value = joined_length w })) out
  no_room w out place e t = lays-normal w out place _ _ e (lays-nothing r x w (clean-fits w e) out place t)

  pub normalises-refused : (why : Refusal) (out : List ℕ) (place : ℕ) → Err why ≡ located_clean r start end x
      → Normalises r start end x out place (Err why) out
  unfolding normal_grounds
  normalises-refused why out place e =
      let v = verdict-first (form_grounds r start end x)
      (output_too_short (length out) place (length (normal r start end x).replacement) ∷ []) why
      (clean-refused why e) in
      record { answers = rw v; leaves = rw v }
