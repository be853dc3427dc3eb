-- The two texts: the pieces that they are written in, their lengths, and the parts of one allele text.
use Prim.Native.Nat.{ℕ, ◌+◌}
use native.Mathlib.Omega.{arith}
use mathlib.Core.Path.{◌≡◌, ap}
use mathlib.Core.List.{List, ◌++◌, append_assoc}
use lib.ListN.{length, drop, length-append}
use Rattle.stretch.proofs.Join.{append-same}
use Rattle.decimals.specs.Decimal.{decimal}
use Rattle.text.specs.Layout.{location_text, location_words, allele_text, allele_words, before_location}
use Rattle.text.specs.Layout.{before_sequence, after_sequence}

pub allele-pieces : (location x : List ℕ)
    → (before_location ++ (location ++ before_sequence)) ++ (x ++ after_sequence) ≡ allele_text location x
unfolding allele_text
allele-pieces location x =
    ap (λ (l : List ℕ). before_location ++ l) (append_assoc location before_sequence (x ++ after_sequence))

pub length-location : (start end : ℕ) (digest : List ℕ)
    → length (location_text start end digest)
    ≡ length (decimal end) + (length (decimal start) + (length digest + location_words))
unfolding location_text
length-location start end digest = simp length-append (omega arith)

pub length-allele : (location x : List ℕ)
    → length (allele_text location x) ≡ length location + (length x + allele_words)
unfolding allele_text
length-allele location x = simp length-append (omega arith)

-- allele texts with location digests of one length are one only where their parts are
pub allele-same : (l₁ l₂ x₁ x₂ : List ℕ) → length l₁ ≡ length l₂ → allele_text l₁ x₁ ≡ allele_text l₂ x₂ → (l₁ ≡ l₂)
    × (x₁ ≡ x₂)
unfolding allele_text
allele-same l₁ l₂ x₁ x₂ n e =
    let cut = append-same l₁ l₂ (before_sequence ++ (x₁ ++ after_sequence))
    (before_sequence ++ (x₂ ++ after_sequence)) n
    (ap (drop (length before_location)) e) in
    let tails : x₁ ++ after_sequence ≡ x₂ ++ after_sequence = ap (drop (length before_sequence)) cut.1 in
    let long : length x₁ ≡ length x₂ =
    omega (arith, ap length tails, length-append x₁ after_sequence, length-append x₂ after_sequence) in
    (cut.0, (append-same x₁ x₂ after_sequence after_sequence long tails).0)
