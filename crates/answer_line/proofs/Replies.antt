-- The answer to a line, by what the line says and by what the normaliser answers.
use Prim.Native.Nat.{ℕ, ◌-◌}
use native.Mathlib.Omega.{arith}
use mathlib.Core.Path.{◌≡◌, ◌∙◌, sym, ap}
use mathlib.Core.List.{List, [], ◌∷◌, ◌++◌, append_assoc}
use lib.ListN.{length, take, drop}
use borrow.Author.Tests.{ne_eqb}
use Rattle.stretch.specs.Ascii.{ascii}
use Rattle.stretch.proofs.Tail.{lent-tail}
use Rattle.std.specs.Prelude.{Ok, Err}
use Rattle.refusal.specs.declared.Refusal.{Refusal}
use Rattle.refusal.specs.Numbers.{number_of}
use Rattle.normal_form.specs.declared.Kind.{Kind}
use Rattle.normal_form.specs.declared.Stretches.{Stretches}
use Rattle.normal_form.specs.Stretches.{form_in}
use Rattle.moved.specs.declared.Moved.{Moved}
use Rattle.moved.specs.Moved.{moved_in}
use Rattle.normal_form_calls.specs.Calls.{located_clean}
use Rattle.normal_form_calls.proofs.Answers.{clean-accepted, clean-refused, clean-form, clean-moved}
use Rattle.decimals.specs.Decimal.{decimal}
use Rattle.input_line.specs.Meaning.{space, line_feed, unread, allele, meaning_of}
use Rattle.answer_line.specs.Answers.{word, shown_moves, form_reply, allele_reply, answer_line}
use Rattle.answer_line.specs.Inner.{head, refused_line, stop}

-- a form's line in its parts
front-line : (start end : ℕ) (k : Kind) (behind rest : List ℕ)
    → head start end k behind ++ rest ≡ decimal start
    ++ (space ∷ (decimal end ++ (space ∷ (word k ++ (behind ++ rest)))))
front-line start end k behind rest =
    append_assoc (decimal start) _ rest
    ∙ ap (λ (l : List ℕ). decimal start ++ (space ∷ l)) (append_assoc (decimal end) _ rest
    ∙ ap (λ (l : List ℕ). decimal end ++ (space ∷ l)) (append_assoc (word k) behind rest))

pub form-line : (k : Kind) (start end : ℕ) (t : List ℕ) (m : Moved) (n : ℕ) → n ≡ length t
    → form_reply (record { kind = k; start = start; end = end; replacement = t }) m
    ++ (line_feed ∷ []) ≡ head start end k (stop n) ++ (t ++ (shown_moves m ++ (line_feed ∷ [])))
form-line k start end [] m n e = rw (e, front-line start end k (stop 0)) (simp append_assoc)
form-line k start end (c ∷ t) m n e =
    rw (e, ne_eqb (length (c ∷ t)) 0 (λ z. omega arith), front-line start end k (ascii " ")) (simp append_assoc)

module _ (r : List ℕ) (start end : ℕ) (x : List ℕ) where
  pub accepted-line : (w : Stretches) → Ok w ≡ located_clean r start end x
      → allele_reply r start end x ++ (line_feed ∷ []) ≡ form_reply (form_in r x w) (moved_in w) ++ (line_feed ∷ [])
  accepted-line w e =
      let f = sym (clean-form r start end x w e) in
      let m = sym (clean-moved r start end x w e) in
      rw (clean-accepted r start end x w e).0 (λ i. form_reply (f i) (m i) ++ (line_feed ∷ []))

  pub refused-line : (why : Refusal) → Err why ≡ located_clean r start end x
      → allele_reply r start end x ++ (line_feed ∷ []) ≡ refused_line (number_of why.reason)
  refused-line why e = rw (clean-refused r start end x why e)

module _ (r line : List ℕ) where
  pub unread-line : unread ≡ meaning_of line → answer_line r line ≡ ascii "unread" ++ (line_feed ∷ [])
  unfolding answer_line
  unread-line e = rw (← e)

  -- the replacement is the rest of the line from a place on, as it is lent
  pub allele-line : (start end from : ℕ) → allele start end (drop from line) ≡ meaning_of line
      → answer_line r line ≡ allele_reply r start end (take (length line - from) (drop from line)) ++ (line_feed ∷ [])
  unfolding answer_line
  allele-line start end from e = rw (lent-tail line from, ← e)
