-- What the answers of the tests tell.
use Prim.Native.Nat.{ℕ, ◌+◌}
use mathlib.Core.Path.{◌≡◌, refl, ap, subst}
use mathlib.Core.Bool.{true, false}
use mathlib.Core.List.{List, [], ◌∷◌, ◌++◌}
use lib.Dec.{ltb}
use lib.ListN.{length}
use Rattle.stretch.specs.Over.{over}
use Rattle.std.specs.Prelude.{Result, Ok, Err}
use Rattle.refusal.specs.declared.Reason.TheVariants.{OutputTooShort}
use Rattle.refusal.specs.declared.Refusal.{Refusal}
use Rattle.refusal.specs.Verdict.{Ground, accepted, refused, verdict}
use Rattle.refusal.specs.Writes.{WritesUnless}
use Rattle.refusal.proofs.Keeps.{keeps-result}
use Rattle.refusal.proofs.WritesUnless.{writes-unless-then, writes-unless-short, writes-unless-room}
use Rattle.refusal.proofs.Writes.{writes-all}
use Rattle.refusal.proofs.Verdict.{verdict-first, verdict-then, verdict-fewer, verdict-later}
use Rattle.refusal.proofs.Verdict.{told-accepted, told-refused}
use Rattle.alphabets.specs.Alphabets.{digest_text_grounds, digest_text_answer, foreign_normal, digest_length}
use Rattle.alphabets.proofs.DigestText.{digest-long}
use Rattle.normal_form.specs.declared.Stretches.{Stretches}
use Rattle.normal_form.specs.Form.{Normal, normal}
use Rattle.normal_form.specs.Stretches.{Fits, joined, joined_length, stretches_of, form_in}
use Rattle.normal_form.proofs.Join.{stretches-fit, stretches-join}
use Rattle.moved.specs.declared.Moved.{Moved}
use Rattle.moved.specs.Moved.{moved_by, moved_in}
use Rattle.moved.proofs.Ends.{stretches-moved}
use Rattle.normal_form_calls.specs.Calls.{given_grounds, located, cleanly}
use Rattle.normal_form_calls.proofs.Answers.{given-allele, located-form}
use Rattle.allele_identifier.specs.declared.Identified.{Identified}
use Rattle.allele_identifier.specs.Identifier.{text_of, identifier_of, around_sequence}
use Rattle.allele_identifier.specs.Calls.{allele_grounds, WritesAllele, IdentifiesAllele}
use Rattle.allele_identifier.specs.Inner.{allele_answer}
use Rattle.allele_identifier.proofs.Hashing.{allele-long}

module _ (r : List ℕ) (start end : ℕ) (x digest : List ℕ) where
  abbrev form : Normal
  form = normal r start end x

  abbrev rest : List Ground
  rest = digest_text_grounds digest ++ (foreign_normal form.replacement ∷ [])

  -- 7 and 5 after 1 to 4, and 5 after 7
  pub allele-then : (w : Stretches) → Ok w ≡ located r start end x → Ok tt ≡ digest_text_answer digest
      → cleanly r x w ≡ allele_answer r start end x digest
  unfolding allele_grounds allele_answer
  allele-then w e d =
      let t = told-accepted (verdict (given_grounds r start end x)) (stretches_of r start end x) w e in
      let j : joined r x w ≡ form.replacement = ap (λ (f : Normal). f.replacement) (located-form r start end x w e) in
      rw (
        j,
        verdict-then (given_grounds r start end x) rest t.0,
        verdict-then (digest_text_grounds digest) (foreign_normal form.replacement ∷ []) (told-accepted _ tt tt d).0,
        t.1,
      )

  pub allele-unread : (w : Stretches) (why : Refusal) → Ok w ≡ located r start end x
      → Err why ≡ digest_text_answer digest → Err why ≡ allele_answer r start end x digest
  unfolding allele_grounds allele_answer
  allele-unread w why e d =
      let t = told-accepted (verdict (given_grounds r start end x)) (stretches_of r start end x) w e in
      rw (
        verdict-then (given_grounds r start end x) rest t.0,
        verdict-first (digest_text_grounds digest) (foreign_normal form.replacement ∷ []) why
            (told-refused _ tt why d),
      )

  pub allele-unfound : (why : Refusal) → Err why ≡ located r start end x → Err why ≡ allele_answer r start end x digest
  unfolding allele_grounds allele_answer
  allele-unfound why e =
      rw (verdict-first (given_grounds r start end x) rest why
      (told-refused (verdict (given_grounds r start end x)) (stretches_of r start end x) why e))

  -- an allele that the tests let through
  module _ (w : Stretches) (e : Ok w ≡ allele_answer r start end x digest) where
    found : (verdict (allele_grounds r start end x digest) ≡ accepted) × (w ≡ stretches_of r start end x)
    unfolding allele_answer
    found = told-accepted (verdict (allele_grounds r start end x digest)) (stretches_of r start end x) w e

    given : verdict (given_grounds r start end x) ≡ accepted
    unfolding allele_grounds
    given = verdict-fewer (given_grounds r start end x) rest found.0

    pub allele-accepted : verdict (allele_grounds r start end x digest) ≡ accepted
    allele-accepted = found.0

    pub allele-digest : length digest ≡ digest_length
    unfolding allele_grounds
    allele-digest = digest-long digest
        (verdict-fewer (digest_text_grounds digest) (foreign_normal form.replacement ∷ [])
        (verdict-later (given_grounds r start end x) rest found.0))

    pub allele-fits : Fits r x w
    allele-fits = rw found.1 (stretches-fit r start end x (given-allele r start end x given))

    pub allele-form : form_in r x w ≡ normal r start end x
    allele-form = rw found.1 (stretches-join r start end x (given-allele r start end x given))

    pub allele-moved : moved_in w ≡ moved_by r start end x
    allele-moved = rw found.1 (stretches-moved r start end x (given-allele r start end x given))

    -- 6 after them: the text
    text-long : joined_length w + around_sequence ≡ length (text_of form digest)
    text-long =
        subst (λ (f : Normal). joined_length w + around_sequence ≡ length (text_of f digest)) allele-form
        (allele-long r x w allele-fits digest)

    module _ (out : List ℕ) (place : ℕ) where
      pub text-short : (answer : Result ℕ Refusal)
          → answer ≡ Err (record { reason = OutputTooShort; value = joined_length w + around_sequence })
          → ltb (length out) (place + (joined_length w + around_sequence)) ≡ true
          → WritesAllele r start end x digest out place answer out
      text-short answer a t =
          writes-unless-then _ _ out place answer out allele-accepted
          (writes-unless-short _ out place _ text-long answer a t)

      pub text-laid : (left : List ℕ) → ltb (length out) (place + (joined_length w + around_sequence)) ≡ false
          → left ≡ over out place (text_of (form_in r x w) digest)
          → WritesAllele r start end x digest out place (Ok (joined_length w + around_sequence)) left
      text-laid left t l =
          let n = joined_length w + around_sequence in
          let e : left ≡ over out place (text_of form digest)
          = subst (λ (f : Normal). left ≡ over out place (text_of f digest)) allele-form l in
          writes-unless-then _ _ out place (Ok n) left allele-accepted
          (writes-unless-room _ out place n text-long (Ok n) left t
          (writes-all accepted _ out place n left refl text-long e))

    -- 6 after them: the identifier
    pub identifier-then : (out : List ℕ) (place : ℕ) (answer : Result ℕ Refusal) (left : List ℕ)
        → WritesUnless [] (identifier_of (form_in r x w) digest) out place answer left
        → WritesUnless (allele_grounds r start end x digest) (identifier_of form digest) out place answer left
    identifier-then out place answer left p =
        writes-unless-then (allele_grounds r start end x digest) _ out place answer left allele-accepted
        (subst (λ (f : Normal). WritesUnless [] (identifier_of f digest) out place answer left) allele-form p)

  pub allele-refused : (why : Refusal) → Err why ≡ allele_answer r start end x digest
      → verdict (allele_grounds r start end x digest) ≡ refused why
  unfolding allele_answer
  allele-refused why e = told-refused (verdict (allele_grounds r start end x digest)) (stretches_of r start end x) why e

  -- what is written of the identifier, with how far the form moved
  abbrev identified : Moved → Result ℕ Refusal → Result Identified Refusal
  identified m (Ok n) = Ok (record { length = n; moved = m })
  identified m (Err why) = Err why

  module _ (out : List ℕ) (place : ℕ) (left : List ℕ) where
    pub identifies-form : (n : ℕ)
        → WritesUnless (allele_grounds r start end x digest) (identifier_of form digest) out place (Ok n) left
        → IdentifiesAllele r start end x digest out place
        (Ok (record { length = n; moved = moved_by r start end x })) left
    unfolding IdentifiesAllele WritesUnless
    identifies-form n p =
        keeps-result (identified (moved_by r start end x)) _ _ refl (λ why. refl) _ out _ (Ok n) left p

    pub identifies-nothing : (why : Refusal)
        → WritesUnless (allele_grounds r start end x digest) (identifier_of form digest) out place (Err why) left
        → IdentifiesAllele r start end x digest out place (Err why) left
    unfolding IdentifiesAllele WritesUnless
    identifies-nothing why p =
        keeps-result (identified (moved_by r start end x)) _ _ refl (λ why. refl) _ out _ (Err why) left p
