-- How long an answer is: at most `beyond` bytes more than the reference and the line together.
use Prim.Native.Nat.{ℕ, zero, suc, ◌+◌, ◌-◌, ◌<◌, ◌≤◌, ◌^◌}
use native.Mathlib.Omega.{arith}
use mathlib.Core.Path.{◌≡◌, refl, ap}
use mathlib.Core.Bool.{Bool, true, false, cond}
use mathlib.Core.List.{List, [], ◌∷◌}
use lib.Dec.{leb, eqb}
use lib.ListN.{length, get_or, length-append}
use borrow.Author.Tests.{leb-true}
use Rattle.std.specs.Prelude.{Option, Some, None}
use Rattle.stretch.specs.Ascii.{ascii}
use Rattle.stretch.specs.Same.{same}
use Rattle.stretch.proofs.Cases.{by_cases}
use Rattle.refusal.specs.declared.Refusal.{Refusal}
use Rattle.refusal.specs.Numbers.{number_of}
use Rattle.refusal.specs.Verdict.{Ground, Verdict, accepted, refused, unless, verdict}
use Rattle.normal_form.specs.declared.Interval.{Interval}
use Rattle.normal_form.specs.Form.{Normal, normal}
use Rattle.normal_form.proofs.Laws.{normal-ordered, normal-inside, normal-short}
use Rattle.moved.specs.Moved.{moved, interval, interval_of, moved_by}
use Rattle.normal_form_calls.specs.Calls.{form_grounds}
use Rattle.normal_form_calls.proofs.Answers.{clean-allele}
use Rattle.decimals.specs.Number.{number_of as decimal_number}
use Rattle.decimals.proofs.Digits.{decimal-within}
use Rattle.fields.specs.Cut.{parted, on_first}
use Rattle.input_line.specs.Meaning.{Meaning, unread, allele, space, replacement_of, numbered, meaning_of_fields}
use Rattle.input_line.specs.Meaning.{meaning_of}
use Rattle.answer_line.specs.Answers.{shown, form_reply, verdict_text, meaning_text, answer_line}
use Rattle.answer_line.specs.Answers.{front_room, moves_room, beyond}
use Rattle.answer_line.proofs.Laying.{word-short}

-- no piece is longer than the text
on_first-short : (c n : ℕ) (ps : List (List ℕ)) → ((i : ℕ) → length (get_or ps i []) ≤ n) → (i : ℕ)
    → length (get_or (on_first c ps) i []) ≤ suc n
on_first-short c n [] f zero = omega arith
on_first-short c n [] f (suc i) = omega arith
on_first-short c n (p ∷ ps) f zero = omega (arith, f 0)
on_first-short c n (p ∷ ps) f (suc i) = omega (arith, f (suc i))

parted-short : (mark : ℕ) (s : List ℕ) (i : ℕ) → length (get_or (parted mark s) i []) ≤ length s
unfolding parted
parted-short mark [] zero = omega arith
parted-short mark [] (suc i) = omega arith
parted-short mark (c ∷ s) zero =
    by_cases (eqb c mark) (λ e. rw e (omega arith))
    (λ e. rw e (on_first-short c (length s) (parted mark s) (parted-short mark s) 0))
parted-short mark (c ∷ s) (suc i) =
    by_cases (eqb c mark) (λ e. rw e (omega (arith, parted-short mark s i)))
    (λ e. rw e (on_first-short c (length s) (parted mark s) (parted-short mark s) (suc i)))

replacement-short : (f : List ℕ) → length (replacement_of f) ≤ length f
unfolding replacement_of
replacement-short f = by_cases (same f (ascii ".")) (λ e. rw e (omega arith)) (λ e. rw e (omega arith))

numbered_is : (a b : Option ℕ) (y : List ℕ) (start end : ℕ) (x : List ℕ) → numbered a b y ≡ allele start end x → y ≡ x
numbered_is (Some m) (Some n) y start end x e = cc
numbered_is (Some m) None y start end x e = cc
numbered_is None b y start end x e = cc

meaning-short : (fields : List (List ℕ)) (start end : ℕ) (x : List ℕ) → meaning_of_fields fields ≡ allele start end x
    → length x ≤ length (get_or fields 2 [])
meaning-short [] start end x e = let z : ◌≡◌ {A = ℕ} 0 1 = cc in absurd (omega arith)
meaning-short (a ∷ []) start end x e = let z : ◌≡◌ {A = ℕ} 0 1 = cc in absurd (omega arith)
meaning-short (a ∷ b ∷ []) start end x e = let z : ◌≡◌ {A = ℕ} 0 1 = cc in absurd (omega arith)
meaning-short (a ∷ b ∷ [] ∷ []) start end x e = let z : ◌≡◌ {A = ℕ} 0 1 = cc in absurd (omega arith)
meaning-short (a ∷ b ∷ (c ∷ y) ∷ []) start end x e =
    omega (
      arith,
      replacement-short (c ∷ y),
      ap length (numbered_is (decimal_number a) (decimal_number b) (replacement_of (c ∷ y)) start end x e),
    )
meaning-short (a ∷ b ∷ y ∷ w ∷ fields) start end x e = let z : ◌≡◌ {A = ℕ} 0 1 = cc in absurd (omega arith)

-- a refusal has the number of one of its grounds
numbers : ℕ → List Ground → Bool
numbers k [] = true
numbers k (g ∷ gs) = cond (leb (number_of g.reason) k) (numbers k gs) false

first-number : (b : Bool) (p q : Refusal) (v : Verdict) (k : ℕ) → number_of p.reason ≤ k
    → (v ≡ refused q → number_of q.reason ≤ k)
    → unless b p v ≡ refused q → number_of q.reason ≤ k
first-number true p q v k h f e = let z : number_of p.reason ≡ number_of q.reason = cc in omega arith
first-number false p q v k h f e = f e

number-within : (k : ℕ) (gs : List Ground) (q : Refusal) → numbers k gs ≡ true → verdict gs ≡ refused q
    → number_of q.reason ≤ k
unfolding numbers
number-within k [] q h e = let z : ◌≡◌ {A = ℕ} 0 1 = cc in absurd (omega arith)
number-within k (g ∷ gs) q h e =
    by_cases (leb (number_of g.reason) k)
    (λ t. first-number g.holds (record { reason = g.reason; value = g.value }) q (verdict gs) k
    (leb-true (number_of g.reason) k t) (number-within k gs q (rw t at h)) e)
    (λ t. let f : false ≡ true = rw t at h in let z : ◌≡◌ {A = ℕ} 0 1 = cc in absurd (omega arith))

shown-short : (x : List ℕ) → length (shown x) ≤ length x + 1
shown-short [] = omega arith
shown-short (c ∷ x) = omega arith

-- a form whose ends, and those given, fit a machine word
form-short : (given : Interval) (f : Normal) → given.start < 2 ^ 64 → given.end < 2 ^ 64 → f.start < 2 ^ 64
    → f.end < 2 ^ 64
    → length (form_reply f (moved given (interval_of f))) ≤ front_room + length f.replacement + moves_room
form-short given f a b c d = simp length-append
    (omega (
      arith,
      decimal-within f.start c,
      decimal-within f.end d,
      word-short f.kind,
      shown-short f.replacement,
      decimal-within (given.start - f.start) (omega arith),
      decimal-within (f.start - given.start) (omega arith),
      decimal-within (f.end - given.end) (omega arith),
      decimal-within (given.end - f.end) (omega arith),
    ))

module _ (r : List ℕ) (start end : ℕ) (x : List ℕ) where
  five : numbers 5 (form_grounds r start end x) ≡ true
  unfolding numbers form_grounds
  five = refl

  verdict-short : (v : Verdict) → verdict (form_grounds r start end x) ≡ v
      → length (verdict_text v (normal r start end x) (moved_by r start end x))
      ≤ length r + length x + front_room + moves_room
  unfolding moved_by
  verdict-short (refused q) e =
      let l : number_of q.reason ≤ 5 = number-within 5 (form_grounds r start end x) q five e in
      simp length-append (omega (arith, decimal-within (number_of q.reason) (omega arith)))
  verdict-short accepted e =
      let a = clean-allele r start end x e in
      let o = normal-ordered r start end x a.ordered in
      let i = normal-inside r start end x a.inside in
      omega (
        arith,
        form-short (interval start end) (normal r start end x)
            (omega arith) (omega arith) (omega arith) (omega arith),
        normal-short r start end x a.ordered a.inside,
      )

text-short : (r line : List ℕ) (s : Meaning) → meaning_of line ≡ s
    → length (meaning_text r s) ≤ length r + length line + front_room + moves_room
unfolding meaning_of
text-short r line unread e = omega arith
text-short r line (allele start end x) e =
    omega (
      arith,
      verdict-short r start end x (verdict (form_grounds r start end x)) refl,
      meaning-short (parted space line) start end x e,
      parted-short space line 2,
    )

pub answer-short : (r line : List ℕ) → length (answer_line r line) ≤ length r + length line + beyond
unfolding answer_line
answer-short r line = simp length-append (omega (arith, text-short r line (meaning_of line) refl))
