-- The parts of an allele text, hashed as they lie, and how long it and its identifier are.
use Prim.Native.Nat.{ℕ, ◌+◌, ◌^◌, ◌<◌}
use native.Mathlib.Omega.{arith}
use mathlib.Core.Path.{◌≡◌, ◌∙◌, sym, ap, subst}
use mathlib.Core.List.{List, [], ◌∷◌, ◌++◌, append_assoc}
use lib.ListN.{length, length-append, drop, get_or}
use Rattle.std.proofs.lemmas.List.{drop_more}
use Rattle.std.proofs.Common.{Bor}
use Rattle.normal_form.specs.declared.Stretches.{Stretches}
use Rattle.normal_form.specs.Form.{Normal}
use Rattle.normal_form.specs.Stretches.{Fits, joined as joined_stretches, joined_length, form_in}
use Rattle.normal_form.proofs.Joined.{length-joined}
use Rattle.text.specs.Layout.{location_text, allele_text, allele_words, before_location}
use Rattle.text.specs.Layout.{before_sequence, after_sequence}
use Rattle.text.proofs.Layouts.{length-allele}
use Rattle.sha512.specs.Message.{sha512}
use Rattle.sha512.specs.declared.Running.{Running}
use Rattle.sha512.specs.Feeding.{begun, fed, joined, fed_all, finished}
use Rattle.sha512.proofs.Join.{parts_join}
use Rattle.digest_text.specs.Digest.{sha512t24u}
use Rattle.digest_text.proofs.Encoding.{length-sha512t24u}
use Rattle.allele_identifier.specs.Identifier.{text_of, identifier_of, around_sequence, allele_identifier_length}

-- the bytes of stretches that are lent
abbrev pub lent : List (Bor (List ℕ)) → List (List ℕ)
lent [] = []
lent (part ∷ parts) = part.now ∷ lent parts

-- one more of them
pub fed-next : (state : Running) (parts : List (Bor (List ℕ))) (i : ℕ) (d : Bor (List ℕ)) → i < length parts
    → fed_all (fed state (get_or parts i d).now) (lent (drop (i + 1) parts)) ≡ fed_all state (lent (drop i parts))
fed-next state parts i d h = ap (λ (l : List (Bor (List ℕ))). fed_all state (lent l)) (sym (drop_more parts i d h))

abbrev pieces : List ℕ → List ℕ → List ℕ → List ℕ → List (List ℕ)
pieces location a b c = before_location ∷ location ∷ before_sequence ∷ a ∷ b ∷ c ∷ after_sequence ∷ []

pieces-join : (location a b c : List ℕ) → joined (pieces location a b c) ≡ allele_text location (a ++ (b ++ c))
unfolding allele_text
pieces-join location a b c =
    let inner : a ++ (b ++ (c ++ (after_sequence ++ []))) ≡ (a ++ (b ++ c)) ++ after_sequence
    = sym (append_assoc a (b ++ c) after_sequence ∙ ap (λ (l : List ℕ). a ++ l) (append_assoc b c after_sequence)) in
    ap (λ (l : List ℕ). before_location ++ (location ++ (before_sequence ++ l))) inner

pub allele-hashed : (location a b c : List ℕ)
    → length location + (length a + (length b + (length c + allele_words))) < 2 ^ 64
    → finished (fed_all begun (pieces location a b c)) ≡ sha512 (allele_text location (a ++ (b ++ c)))
allele-hashed location a b c h =
    let long : length (allele_text location (a ++ (b ++ c))) < 2 ^ 64 =
    rw (length-allele location (a ++ (b ++ c)), length-append a (b ++ c), length-append b c) (omega arith) in
    parts_join (pieces location a b c)
    (subst (λ (l : List ℕ). length l < 2 ^ 64) (sym (pieces-join location a b c)) long)
    ∙ ap sha512 (pieces-join location a b c)

pub length-allele-identifier : (form : Normal) (digest : List ℕ)
    → length (identifier_of form digest) ≡ allele_identifier_length
unfolding identifier_of
length-allele-identifier form digest = rw (length-sha512t24u (text_of form digest))

-- an allele text as long as the code counts it
pub allele-long : (r x : List ℕ) (w : Stretches) → Fits r x w → (digest : List ℕ)
    → joined_length w + around_sequence ≡ length (text_of (form_in r x w) digest)
unfolding text_of
allele-long r x w f digest =
    let location = sha512t24u (location_text w.start w.end digest) in
    omega (
      arith,
      length-joined r x w f,
      length-allele location (joined_stretches r x w),
      length-sha512t24u (location_text w.start w.end digest),
    )
