-- Reading a decimal: what its digits stand for, and that a number is read exactly where the text is its decimal.
use Prim.Native.Nat.{ℕ, ◌+◌, ◌-◌, ◌*◌, ◌/◌, ◌%◌, ◌^◌, ◌<◌, ◌≤◌}
use native.Mathlib.Omega.{arith}
use mathlib.Core.Path.{◌≡◌, refl, ◌∙◌, sym, ap}
use mathlib.Core.List.{List, [], ◌∷◌, ◌++◌}
use lib.Dec.{leb}
use borrow.Author.Tests.{le-leb, leb-true, leb-false}
use Rattle.stretch.specs.Same.{same}
use Rattle.stretch.proofs.Cases.{by_cases}
use Rattle.stretch.proofs.Same.{same_refl, same-eq, same-apart}
use Rattle.std.specs.Prelude.{Option, Some, None}
use Rattle.decimals.specs.Decimal.{digit, decimal}
use Rattle.decimals.specs.Number.{value_from, value, number_within, number_of, Reads, is, absent}
use Rattle.decimals.proofs.Digits.{decimal-below, decimal-tenth, by-tenths}

value_from-append : (v : ℕ) (s t : List ℕ) → value_from v (s ++ t) ≡ value_from (value_from v s) t
unfolding value_from
value_from-append v [] t = refl
value_from-append v (c ∷ s) t = value_from-append (v * 10 + (c - 0x30)) s t

value_from-le : (v : ℕ) (s : List ℕ) → v ≤ value_from v s
unfolding value_from
value_from-le v [] = omega arith
value_from-le v (c ∷ s) = omega (arith, value_from-le (v * 10 + (c - 0x30)) s)

-- more digits do not stand for less
pub value_on : (s t : List ℕ) → value s ≤ value (s ++ t)
unfolding value
value_on s t = rw (value_from-append 0 s t) (value_from-le (value_from 0 s) t)

-- one byte more
pub value-snoc : (s : List ℕ) (c : ℕ) → value (s ++ (c ∷ [])) ≡ value s * 10 + (c - 0x30)
unfolding value value_from
value-snoc s c = value_from-append 0 s (c ∷ [])

-- a decimal stands for its number
pub value-decimal : (n : ℕ) → value (decimal n) ≡ n
unfolding value value_from
value-decimal =
    by-tenths (λ n. value (decimal n) ≡ n)
    (λ n h. rw (decimal-below n h) (omega arith))
    (λ n h e. rw (decimal-tenth n h, value_from-append 0 (decimal (n / 10)) (digit (n % 10) ∷ []), e) (omega arith))

pub decimal_injective : (m n : ℕ) → decimal m ≡ decimal n → m ≡ n
decimal_injective m n e = sym (value-decimal m) ∙ ap value e ∙ value-decimal n

-- a value that is a number within limits
pub record Within (least most v n : ℕ) : Type 0 where
  pub is : v ≡ n
  pub low : least ≤ n
  pub high : n ≤ most

module _ (least most : ℕ) (s : List ℕ) where
  -- the number of a text that is a decimal
  pub number_is : (n : ℕ) → least ≤ n → n ≤ most → s ≡ decimal n → number_within least most s ≡ Some n
  unfolding number_within
  number_is n l h e = let v : value s ≡ n = ap value e ∙ value-decimal n in
      rw (v, le-leb least n l, le-leb n most h, e, same_refl)

  -- a text that is the decimal of no number within the limits
  pub number-none : ((n : ℕ) → least ≤ n → n ≤ most → s ≡ decimal n → ⊥) → number_within least most s ≡ None
  unfolding number_within
  number-none f =
      by_cases (leb least (value s))
      (λ l. by_cases (leb (value s) most)
      (λ h. by_cases (same s (decimal (value s)))
      (λ t. absurd
      (f (value s) (leb-true least (value s) l) (leb-true (value s) most h) (same-eq s (decimal (value s)) t)))
      (λ t. rw (l, h, t)))
      (λ h. rw (l, h)))
      (λ l. rw l)

  -- what is read is the decimal of a number within the limits, and such a decimal is read
  pub number_of-reads : Reads least most s (number_within least most s)
  number_of-reads =
      by_cases (leb least (value s))
      (λ l. by_cases (leb (value s) most)
      (λ h. by_cases (same s (decimal (value s)))
      (λ t. found (leb-true least (value s) l) (leb-true (value s) most h) (same-eq s (decimal (value s)) t))
      (λ t. none (λ n _ _ e. same-apart s (decimal (value s)) t (own n e))))
      (λ h. none (λ n _ g e. omega (arith, leb-false (value s) most h, number n e))))
      (λ l. none (λ n g _ e. omega (arith, leb-false least (value s) l, number n e)))
    where
      number : (n : ℕ) → s ≡ decimal n → value s ≡ n
      number n e = ap value e ∙ value-decimal n

      own : (n : ℕ) → s ≡ decimal n → s ≡ decimal (value s)
      own n e = e ∙ ap decimal (sym (number n e))

      found : least ≤ value s → value s ≤ most → s ≡ decimal (value s) → Reads least most s (number_within least most s)
      found l h e = rw (number_is (value s) l h e) (is (value s) l h e)

      none : ((n : ℕ) → least ≤ n → n ≤ most → s ≡ decimal n → ⊥) → Reads least most s (number_within least most s)
      none f = rw (number-none f) (absent f)

  -- a text has one answer
  reads-value : (a : Option ℕ) → Reads least most s a → (n : ℕ) → a ≡ Some n → Within least most (value s) n
  reads-value _ (is m l h e) n d =
      let v : m ≡ n = cc in
      record { is = ap value e ∙ value-decimal m ∙ v; low = rw v at l; high = rw v at h }
  reads-value _ (absent f) n d = let z : ◌≡◌ {A = ℕ} 0 1 = cc in absurd (omega arith)

  -- a number that is read is what the digits stand for, within the limits
  pub number-value : (n : ℕ) → number_within least most s ≡ Some n → Within least most (value s) n
  number-value n e = reads-value (number_within least most s) number_of-reads n e

  pub reads-once : (a₁ a₂ : Option ℕ) → Reads least most s a₁ → Reads least most s a₂ → a₁ ≡ a₂
  reads-once _ _ (is m _ _ p) (is n _ _ q) = ap Some (decimal_injective m n (sym p ∙ q))
  reads-once _ _ (is m l h p) (absent f) = absurd (f m l h p)
  reads-once _ _ (absent f) (is n l h q) = absurd (f n l h q)
  reads-once _ _ (absent f) (absent g) = refl

-- a decimal that is written is read back
pub read_back : (n : ℕ) → n < 2 ^ 64 → number_of (decimal n) ≡ Some n
unfolding number_of
read_back n h = number_is 0 (2 ^ 64 - 1) (decimal n) n (omega arith) (omega arith) refl
