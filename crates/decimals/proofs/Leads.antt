-- The loop over the digits that a text begins with, and what a whole text is read as by them.
use Prim.Native.Nat.{ℕ, zero, suc, ◌+◌, ◌-◌, ◌*◌, ◌<◌, ◌≤◌}
use native.Mathlib.Numerals.{add-one}
use native.Mathlib.Omega.{arith}
use mathlib.Core.Path.{◌≡◌, refl, ◌∙◌, sym, ap}
use mathlib.Core.List.{List, [], ◌∷◌, ◌++◌, append_assoc, append-nil}
use lib.Dec.{ltb}
use lib.ListN.{length, get_or, take, drop, length-append, get_or-append}
use lib.Seq.{length-take-le, take-suc, take_all, take-take, split_at, get_or-take, get_or_at}
use borrow.Author.Tests.{ltb-true, ltb-false}
use Rattle.stretch.proofs.Cases.{by_cases}
use Rattle.decimals.specs.declared.Leading.{Leading}
use Rattle.std.specs.Prelude.{Some, None}
use Rattle.decimals.specs.Decimal.{digit, decimal}
use Rattle.decimals.specs.Number.{value_from, value, number_within}
use Rattle.decimals.specs.Leads.{Leads}
use Rattle.decimals.proofs.Digits.{decimal-below, decimal-on, decimal-long, decimal-digits, decimal-front}
use Rattle.decimals.proofs.Reading.{value_on, value-snoc, value-decimal, decimal_injective}
use Rattle.decimals.proofs.Reading.{number_is, number-none}

-- k digits of a number n go on with the byte c, to a decimal up to a limit
pub record Takes (most k n c : ℕ) : Type 0 where
  pub least : 0x30 ≤ c
  pub greatest : c ≤ 0x39
  pub leads : 0 < k → 0 < n
  pub small : n * 10 + (c - 0x30) ≤ most

-- a loop that has read the first k bytes of s, the digits of n; without any, n is 0
pub record Read (most : ℕ) (s : List ℕ) (k n : ℕ) : Type 0 where
  pub within : k ≤ length s
  pub small : n ≤ most
  pub none : k ≡ 0 → n ≡ 0
  pub digits : 0 < k → take k s ≡ decimal n

-- of a decimal of more than one byte, the first is not 0
decimal-lead : (m : ℕ) (s : List ℕ) → 1 < length s → s ≡ decimal m → 0x31 ≤ get_or s 0 0
decimal-lead zero s h e = absurd (omega (arith, ap length (e ∙ decimal-below 0 (omega arith))))
decimal-lead (suc m) s h e = rw e (decimal-front (suc m) (omega arith))

-- what a byte is that goes on from the digits of a number
goes-takes : (most : ℕ) (s : List ℕ) (c n : ℕ) → value s ≡ n → (0 < length s → s ≡ decimal n)
    → (m : ℕ) (rest : List ℕ) → m ≤ most → s ++ (c ∷ rest) ≡ decimal m → Takes most (length s) n c
goes-takes most s c n v d m rest h front =
    let long : length (s ++ (c ∷ rest)) ≡ length s + suc (length rest) = length-append s (c ∷ rest) in
    let room : length s < length (s ++ (c ∷ rest)) = omega arith in
    let here : get_or (decimal m) (length s) 0 ≡ c = rw (← front) (get_or_at s c rest 0 (length s) refl) in
    let bounds = decimal-digits m (length s) (rw front at room) in
    let upto : value (s ++ (c ∷ [])) ≤ value ((s ++ (c ∷ [])) ++ rest) = value_on (s ++ (c ∷ [])) rest in
    let whole : value ((s ++ (c ∷ [])) ++ rest) ≡ m
    = ap value (append_assoc s (c ∷ []) rest ∙ front) ∙ value-decimal m in
    let more : value (s ++ (c ∷ [])) ≡ n * 10 + (c - 0x30) = value-snoc s c ∙ ap (λ (x : ℕ). x * 10 + (c - 0x30)) v in
    record {
      least = rw here at bounds.0;
      greatest = rw here at bounds.1;
      leads = λ l. positive n (d l)
          (rw (get_or-append s (c ∷ rest) 0 0 l) at (decimal-lead m (s ++ (c ∷ rest)) (omega arith) front));
      small = omega arith;
    }
  where
    positive : (k : ℕ) → s ≡ decimal k → 0x31 ≤ get_or s 0 0 → 0 < k
    positive zero e h =
        let z : get_or s 0 0 ≡ 0x30 = ap (λ (l : List ℕ). get_or l 0 0) (e ∙ decimal-below 0 (omega arith)) in
        absurd (omega arith)
    positive (suc k) e h = omega arith

module _ (most : ℕ) (s : List ℕ) where
  pub read_none : Read most s 0 0
  read_none = record { within = omega arith; small = omega arith; none = λ _. refl; digits = λ h. absurd (omega arith) }

  read-value : (k n : ℕ) → Read most s k n → value (take k s) ≡ n
  unfolding value value_from
  read-value zero n l = sym (l.none refl)
  read-value (suc k) n l = ap value (l.digits (omega arith)) ∙ value-decimal n

  -- a longer prefix has a next byte
  longer : (k j : ℕ) → k < j → j ≤ length s → (rest : List ℕ)
      → take j s ++ rest ≡ take k s ++ (get_or s k 0 ∷ (drop (suc k) (take j s) ++ rest))
  longer k j h g rest =
      let room : k < length (take j s) = rw (length-take-le j s g) h in
      ap (λ (l : List ℕ). l ++ rest) (split_at (take j s) k 0 room)
      ∙ append_assoc (take k (take j s)) (get_or (take j s) k 0 ∷ drop (suc k) (take j s)) rest
      ∙ rw (take-take k j s (omega arith), get_or-take j s k 0 h)

  digits-longer : (k n : ℕ) → Read most s k n → Takes most k n (get_or s k 0)
      → take k s ++ (get_or s k 0 ∷ []) ≡ decimal (n * 10 + (get_or s k 0 - 0x30))
  digits-longer zero n l t =
      let none : n ≡ 0 = l.none refl in
      let same : get_or s 0 0 ≡ digit (n * 10 + (get_or s 0 0 - 0x30)) = omega arith in
      ap (λ (c : ℕ). c ∷ []) same ∙ sym (decimal-below (n * 10 + (get_or s 0 0 - 0x30)) (omega arith))
  digits-longer (suc k) n l t =
      let same : get_or s (suc k) 0 ≡ digit (get_or s (suc k) 0 - 0x30) = omega arith in
      (λ i. l.digits (omega arith) i ++ (same i ∷ []))
      ∙ sym (decimal-on n (get_or s (suc k) 0 - 0x30) (t.leads (omega arith)) (omega arith))

  -- the next byte goes on; or it does not, or is not there
  pub read-on : (k n : ℕ) → Read most s k n → k < length s → Takes most k n (get_or s k 0)
      → Read most s (k + 1) (n * 10 + (get_or s k 0 - 0x30))
  read-on k n l h t =
      record {
        within = omega arith;
        small = t.small;
        none = λ e. absurd (omega arith);
        digits = λ _. rw (add-one, take-suc s k 0 h) (digits-longer k n l t);
      }

  pub read-end : (k n : ℕ) → Read most s k n → (k < length s → Takes most k n (get_or s k 0) → ⊥) → Leads most s k n
  read-end k n l f =
      record {
        within = l.within;
        small = l.small;
        none = l.none;
        digits = l.digits;
        furthest = λ j h g m rest small e.
            (let long : length (take k s) ≡ k = length-take-le k s l.within in
            f (omega arith) (rw long at (goes-takes most (take k s) (get_or s k 0) n (read-value k n l)
            (λ p. l.digits (omega arith)) m (drop (suc k) (take j s) ++ rest) small (sym (longer k j h g rest) ∙ e))));
      }

  -- a whole text: more than the digits, no digits, a number too small, or the number
  module _ (least k n : ℕ) (r : Leads most s k n) where
    not-longer : k < length s → (m : ℕ) → m ≤ most → s ≡ decimal m → ⊥
    not-longer h m g e =
        r.furthest (length s) h (omega arith) m [] g
        (append-nil (take (length s) s) ∙ take_all (length s) s (omega arith) ∙ e)

    pub whole-more : k < length s → number_within least most s ≡ None
    whole-more h = number-none least most s (λ m _. not-longer h m)

    pub whole-none : k ≡ 0 → number_within least most s ≡ None
    whole-none h = number-none least most s (λ m _ g e. not-longer (omega (arith, decimal-long m, ap length e)) m g e)

    whole : (k ≡ 0 → ⊥) → length s ≤ k → s ≡ decimal n
    whole f h = sym (take_all k s h) ∙ r.digits (omega arith)

    pub whole-low : (k ≡ 0 → ⊥) → length s ≤ k → n < least → number_within least most s ≡ None
    whole-low f h g = number-none least most s (λ m l _ e. omega (arith, decimal_injective m n (sym e ∙ whole f h)))

    pub whole_is : (k ≡ 0 → ⊥) → length s ≤ k → least ≤ n → number_within least most s ≡ Some n
    whole_is f h g = number_is least most s n g r.small (whole f h)

-- a text has one answer
module _ (most : ℕ) (s : List ℕ) where
  not-further : {k₁ n₁ k₂ n₂ : ℕ} → Leads most s k₁ n₁ → Leads most s k₂ n₂ → k₁ < k₂ → ⊥
  not-further {k₂ = k₂} {n₂ = n₂} p q h =
      p.furthest k₂ h q.within n₂ [] q.small (append-nil (take k₂ s) ∙ q.digits (omega arith))

  pub leads-once : (a b : Leading) → Leads most s a.length a.number → Leads most s b.length b.number → a ≡ b
  leads-once a b p q = λ i. record { length = long i; number = number i }
    where
      long : a.length ≡ b.length
      long =
          by_cases (ltb a.length b.length)
          (λ e. absurd (not-further p q (ltb-true a.length b.length e)))
          (λ e. by_cases (ltb b.length a.length)
          (λ f. absurd (not-further q p (ltb-true b.length a.length f)))
          (λ f. omega (arith, ltb-false a.length b.length e, ltb-false b.length a.length f)))

      number : a.number ≡ b.number
      number =
          by_cases (ltb 0 a.length)
          (λ e. let some : 0 < a.length = ltb-true 0 a.length e in
          decimal_injective a.number b.number
          (sym (p.digits some) ∙ ap (λ (k : ℕ). take k s) long ∙ q.digits (omega (arith, long))))
          (λ e. let none : a.length ≡ 0 = omega (arith, ltb-false 0 a.length e) in
          p.none none ∙ sym (q.none (sym long ∙ none)))
