-- Base64url, a character and a group at a time.
use Prim.Native.Nat.{ℕ, zero, suc, ◌+◌, ◌-◌, ◌*◌, ◌<◌, ◌≤◌}
use native.Mathlib.Omega.{arith}
use native.Mathlib.Numerals.{add-one}
use mathlib.Core.Path.{◌≡◌, refl, sym, ap, ◌∙◌}
use mathlib.Core.Bool.{Bool, true, cond}
use mathlib.Core.List.{List, [], ◌∷◌, ◌++◌}
use lib.Dec.{ltb, eqb}
use lib.ListN.{length, get_or, take, drop, length-append}
use borrow.Author.Tests.{eqb-true}
use lib.Seq.{get_or-drop}
use Rattle.std.proofs.Common.{◌/◌, get_or-take, length-take}
use Rattle.std.specs.Simd.{first_chunks}
use Rattle.stretch.proofs.Words.{chunk-at}
use Rattle.stretch.specs.Over.{over}
use Rattle.stretch.proofs.Over.{over-next, over-tail-front}
use Rattle.stretch.specs.Below.{below}
use Rattle.stretch.proofs.Below.{below_at}
use Rattle.alphabets.specs.Alphabets.{digest_length}
use Rattle.sha512.specs.Message.{sha512}
use Rattle.sha512.proofs.Bytes.{length-sha512}
use Rattle.digest_text.specs.Base64.{character, group, encoded}
use Rattle.digest_text.specs.Digest.{digest_text, sha512t24u}

-- the alphabet as five ranges of values
unfoldable pub ranged : ℕ → ℕ
ranged n = cond (ltb n 26) (65 + n)
    (cond (ltb n 52) (97 + (n - 26)) (cond (ltb n 62) (48 + (n - 52)) (cond (eqb n 62) 45 95)))

agrees : ℕ → Bool
agrees n = eqb (ranged n) (character n)

every_value : below agrees 64 ≡ true
unfolding below agrees ranged character
every_value = refl

pub ranged-right : (n : ℕ) → n < 64 → ranged n ≡ character n
unfolding agrees
ranged-right n h = eqb-true (ranged n) (character n) (below_at agrees 64 every_value n h)

pub encoded-more : (i : ℕ) (d : List ℕ) → suc i * 3 ≤ length d
    → encoded (take (suc i * 3) d) ≡ encoded (take (i * 3) d)
    ++ group (get_or d (i * 3) 0) (get_or d (suc (i * 3)) 0) (get_or d (suc (suc (i * 3))) 0)
unfolding encoded
encoded-more i [] h = absurd (omega arith)
encoded-more i (a ∷ []) h = absurd (omega arith)
encoded-more i (a ∷ b ∷ []) h = absurd (omega arith)
encoded-more zero (a ∷ b ∷ c ∷ d) h = refl
encoded-more (suc i) (a ∷ b ∷ c ∷ d) h =
    let l = a ∷ b ∷ c ∷ d in
    let e : suc (suc i) * 3 ≡ suc (suc (suc (suc i * 3))) = omega arith in
    let f : suc (suc (suc (i * 3))) ≡ suc i * 3 = omega arith in
    ap (λ (k : ℕ). encoded (take k l)) e
    ∙ ap (λ (x : List ℕ). group a b c ++ x) (encoded-more i d (omega arith))
    ∙ ap (λ (k : ℕ). encoded (take k l) ++ group (get_or l k 0) (get_or l (suc k) 0) (get_or l (suc (suc k)) 0)) f

pub length-encoded : (i : ℕ) (d : List ℕ) → i * 3 ≤ length d → length (encoded (take (i * 3) d)) ≡ i * 4
unfolding encoded
length-encoded zero d h = refl
length-encoded (suc i) d h =
    ap length (encoded-more i d h) ∙ length-append (encoded (take (i * 3) d)) _
    ∙ ap (λ (n : ℕ). n + 4) (length-encoded i d (omega arith)) ∙ omega arith

-- byte j of group i of the first n bytes
abbrev pub byte_of : ℕ → List ℕ → ℕ → ℕ → ℕ
byte_of n d i j = get_or (get_or (first_chunks 3 (length (take n d) / 3) (take n d)) i []) j 0

byte_of-is : (n : ℕ) (d : List ℕ) (i j k : ℕ) → i < length (take n d) / 3 → j < 3 → k ≡ i * 3 + j
    → byte_of n d i j ≡ get_or d k 0
byte_of-is n d i j k h g e =
    rw (
      chunk-at 3 _ i (take n d) h,
      get_or-take 3 (drop (i * 3) (take n d)) j 0 g,
      get_or-drop (i * 3) (take n d) j 0,
      get_or-take n d (i * 3 + j) 0 (omega (arith, length-take n d)),
      e,
    )

-- one more group is written
pub encode-turn : (l d : List ℕ) (n i : ℕ) → i < length (take n d) / 3
    → over (over l 0 (encoded (take (i * 3) d))) (i * 4)
    (group (byte_of n d i 0) (byte_of n d i 1) (byte_of n d i 2))
    ≡ over l 0 (encoded (take ((i + 1) * 3) d))
encode-turn l d n i h =
    let whole : suc i * 3 ≤ length d = omega (arith, length-take n d) in
    rw (
      byte_of-is n d i 0 (i * 3) h (omega arith) (omega arith),
      byte_of-is n d i 1 (suc (i * 3)) h (omega arith) (omega arith),
      byte_of-is n d i 2 (suc (suc (i * 3))) h (omega arith) (omega arith),
    )
    (over-next l 0 (i * 4) (encoded (take (i * 3) d)) _ (omega arith)
    (sym (length-encoded i d (omega arith)) ∙ omega arith)
    ∙ rw (add-one i, encoded-more i d whole))

pub length-digest_text : (d : List ℕ) → 24 ≤ length d → length (digest_text d) ≡ digest_length
unfolding digest_text
length-digest_text d h = length-encoded 8 d h

pub length-sha512t24u : (m : List ℕ) → length (sha512t24u m) ≡ digest_length
unfolding sha512t24u
length-sha512t24u m = length-digest_text (sha512 m) (omega (arith, length-sha512 m))

pub length-identifier : (prefix d : List ℕ) → 24 ≤ length d
    → length (prefix ++ digest_text d) ≡ length prefix + digest_length
length-identifier prefix d h = rw (length-append prefix (digest_text d), length-digest_text d h)

-- an identifier written into a tail that was lent and comes back
pub identifier-laid : (out prefix d : List ℕ) (place : ℕ)
    → place + (length prefix + digest_length) ≤ length out → 24 ≤ length d
    → take place out ++ (over (take (length out - place) (drop place out)) 0 (prefix ++ digest_text d)
    ++ drop (length out - place) (drop place out)) ≡ over out place (prefix ++ digest_text d)
identifier-laid out prefix d place h n =
    over-tail-front out place (prefix ++ digest_text d) (omega (arith, length-identifier prefix d n))
