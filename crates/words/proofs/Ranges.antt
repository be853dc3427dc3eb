-- Digits that begin the decimal of some number of a range: by the tenth parts of its limits, without the last digit.
use Rattle.std.proofs.Common.{rules}
use Prim.Native.Nat.{ℕ, ◌+◌, ◌-◌, ◌*◌, ◌/◌, ◌%◌, ◌<◌, ◌≤◌}
use native.Mathlib.Omega.{arith}
use mathlib.Core.Path.{◌≡◌, refl, ◌∙◌, sym, ap}
use mathlib.Core.Bool.{Bool, false}
use mathlib.Core.List.{List, [], ◌∷◌, ◌++◌, append_assoc, append-nil}
use lib.Dec.{leb, ltb}
use lib.ListN.{length, get_or, take, length-append}
use lib.Seq.{take_all, take-take, length-take-le, take-append-le, take-append-add, take-append_seam}
use borrow.Author.Tests.{leb-true, leb-false, ltb-true, ltb-false}
use Rattle.stretch.proofs.Cases.{by_cases}
use Rattle.decimals.specs.Decimal.{digit, decimal}
use Rattle.decimals.specs.Number.{value}
use Rattle.decimals.proofs.Digits.{decimal-below, decimal-tenth, decimal-on, decimal-long, decimal-front, length-tenth}
use Rattle.decimals.proofs.Reading.{value_on, value-decimal, decimal_injective}
use Rattle.words.specs.Prefix.{Begins, Longest}
use Rattle.words.specs.Vocabulary.{DecimalFrom}
use Rattle.words.specs.Walk.{Reaches}

-- how far a list goes: one byte less far, and in a longer list
module _ (Kind : List ℕ → Type 0) where
  longest-snoc : (s : List ℕ) (c i : ℕ) → Longest Kind s i → (Begins Kind (s ++ (c ∷ [])) → ⊥)
      → Longest Kind (s ++ (c ∷ [])) i
  longest-snoc s c i l f = search (rules, length-append, take-append-le, take_all)

  pub longest-front : (s : List ℕ) (k i : ℕ) → k ≤ length s → Longest Kind (take k s) i
      → ((j : ℕ) → k < j → j ≤ length s → Begins Kind (take j s) → ⊥) → Longest Kind s i
  longest-front s k i h l f = search (rules, length-take-le, take-take)

-- what begins with the digits of a number is no less
begins-le : {least most : ℕ} (v : ℕ) (b : Begins (DecimalFrom least most) (decimal v)) → v ≤ b.whole.number
begins-le v b =
    let n = b.whole.number in
    omega (arith, value_on (decimal v) b.rest, ap value b.whole.digits, value-decimal v, value-decimal n)

module _ (least most v : ℕ) where
  begins-itself : least ≤ v → v ≤ most → Begins (DecimalFrom least most) (decimal v)
  begins-itself l h = search rules

  -- one digit more than a number within the tenth parts of the limits
  begins-on : 0 < v → least ≤ most → Begins (DecimalFrom (least / 10) (most / 10)) (decimal v)
      → Begins (DecimalFrom least most) (decimal v)
  begins-on p o b =
      by_cases (leb least (b.whole.number * 10))
      (λ e. let high : least ≤ b.whole.number * 10 = leb-true least (b.whole.number * 10) e in
      longer 0 (omega arith) (omega arith) (omega (arith, b.whole.small)))
      (λ e. let low : b.whole.number * 10 < least = leb-false least (b.whole.number * 10) e in
      longer (least - b.whole.number * 10) (omega (arith, b.whole.large)) (omega arith) (omega arith))
    where
      longer : (d : ℕ) → d < 10 → least ≤ b.whole.number * 10 + d → b.whole.number * 10 + d ≤ most
          → Begins (DecimalFrom least most) (decimal v)
      longer d h l g =
          record {
            rest = b.rest ++ (digit d ∷ []);
            whole = record {
              number = b.whole.number * 10 + d;
              large = l;
              small = g;
              digits = sym (append_assoc (decimal v) b.rest (digit d ∷ []))
                  ∙ ap (λ (s : List ℕ). s ++ (digit d ∷ [])) b.whole.digits
                  ∙ sym (decimal-on b.whole.number d (omega (arith, begins-le v b)) h);
            };
          }

  -- one digit less than a number above v
  begins-tenth : v < least → Begins (DecimalFrom least most) (decimal v)
      → Begins (DecimalFrom (least / 10) (most / 10)) (decimal v)
  begins-tenth h b =
      let n = b.whole.number in
      let long : length (decimal v) + length b.rest ≡ length (decimal n)
      = sym (length-append (decimal v) b.rest) ∙ ap length b.whole.digits in
      let some : 1 ≤ length b.rest = nonempty b.rest n (omega (arith, b.whole.large)) b.whole.digits in
      let high : 10 ≤ n = two_digits n (omega (arith, decimal-long v)) in
      let k = length (decimal (n / 10)) - length (decimal v) in
      let far : length (decimal (n / 10)) ≡ length (decimal v) + k = omega (arith, length-tenth n high) in
      record {
        rest = take k b.rest;
        whole = record {
          number = n / 10;
          large = omega (arith, b.whole.large);
          small = omega (arith, b.whole.small);
          digits = sym (take-append-add (decimal v) b.rest k)
              ∙ ap (λ (i : ℕ). take i (decimal v ++ b.rest)) (sym far)
              ∙ ap (take (length (decimal (n / 10)))) (b.whole.digits ∙ decimal-tenth n high)
              ∙ take-append_seam (decimal (n / 10)) (digit (n % 10) ∷ []);
        };
      }
    where
      nonempty : (rest : List ℕ) (n : ℕ) → v < n → decimal v ++ rest ≡ decimal n → 1 ≤ length rest
      nonempty [] n l e = absurd (omega (arith, decimal_injective v n (sym (append-nil (decimal v)) ∙ e)))
      nonempty (c ∷ rest) n l e = omega arith

      two_digits : (n : ℕ) → 2 ≤ length (decimal n) → 10 ≤ n
      two_digits n l = by_cases (ltb n 10)
          (λ e. absurd (omega (arith, ap length (decimal-below n (ltb-true n 10 e)))))
          (λ e. ltb-false n 10 e)

  -- at the lower limit or above, and below it
  pub reaches_here : least ≤ v → Reaches least most v (leb v most)
  reaches_here l =
      record {
        some = λ e. begins-itself l (leb-true v most e);
        none = λ e b. omega (arith, leb-false v most e, begins-le v b, b.whole.small);
      }

  pub reaches-below : 0 < v → least ≤ most → v < least → (answer : Bool) → Reaches (least / 10) (most / 10) v answer
      → Reaches least most v answer
  reaches-below p o h answer q =
      record { some = λ e. begins-on p o (q.some e); none = λ e b. q.none e (begins-tenth h b) }

-- the longest of the digits that begin one
module _ (least most : ℕ) (order : least ≤ most) where
  pub begins-nothing : Begins (DecimalFrom least most) []
  begins-nothing =
      record {
        rest = decimal least;
        whole = record { number = least; large = omega arith; small = order; digits = refl };
      }

  one-digit : (c : ℕ) → (Begins (DecimalFrom least most) (c ∷ []) → ⊥) → Longest (DecimalFrom least most) (c ∷ []) 0
  one-digit c f = search (rules, longest-snoc, begins-nothing)

  pub longest-zero : 0 < least → Longest (DecimalFrom least most) (decimal 0) 0
  longest-zero h =
      rw zero-digit
      (one-digit 0x30 (λ b. other b.whole.number b.rest (omega (arith, b.whole.large)) b.whole.digits))
    where
      zero-digit : decimal 0 ≡ 0x30 ∷ []
      zero-digit = decimal-below 0 (omega arith)

      other : (n : ℕ) (rest : List ℕ) → 0 < n → (0x30 ∷ []) ++ rest ≡ decimal n → ⊥
      other n rest l e = let front : 0x31 ≤ get_or (decimal n) 0 0 = decimal-front n l in
          let same : 0x30 ≡ get_or (decimal n) 0 0 = ap (λ (s : List ℕ). get_or s 0 0) e in omega arith

  module _ (v : ℕ) (answer : Bool) (q : Reaches least most v answer) where
    pub longest-digit : answer ≡ false → v < 10 → Longest (DecimalFrom least most) (decimal v) 0
    longest-digit e h = rw (decimal-below v h) (one-digit (digit v) (rw (decimal-below v h) at (q.none e)))

    pub longest-tenth : answer ≡ false → 10 ≤ v → (i : ℕ) → Longest (DecimalFrom least most) (decimal (v / 10)) i
        → Longest (DecimalFrom least most) (decimal v) i
    longest-tenth e h i l =
        rw (decimal-tenth v h)
        (longest-snoc (DecimalFrom least most) (decimal (v / 10)) (digit (v % 10)) i l
        (rw (decimal-tenth v h) at (q.none e)))
