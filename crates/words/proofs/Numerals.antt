-- How far a text goes with the decimal of a number from a lower to an upper limit, and the walk past it.
use Prim.Native.Nat.{ℕ, ◌+◌, ◌-◌, ◌<◌, ◌≤◌}
use native.Mathlib.Nat.{add-zero}
use native.Mathlib.Omega.{arith}
use mathlib.Core.Path.{◌≡◌, refl, ◌∙◌, ap}
use mathlib.Core.Bool.{false}
use mathlib.Core.List.{List}
use lib.ListN.{length, take, drop, take-append-drop}
use lib.Seq.{length-take-le, take-take}
use Rattle.std.specs.Prelude.{Result, Ok}
use Rattle.stretch.proofs.Tail.{lent-tail}
use Rattle.decimals.specs.Decimal.{decimal}
use Rattle.decimals.specs.Leads.{Leads}
use Rattle.decimals.specs.Number.{value}
use Rattle.decimals.proofs.Digits.{decimal-long}
use Rattle.decimals.proofs.Reading.{value_on, value-decimal}
use Rattle.words.specs.declared.Stopped.{Stopped}
use Rattle.words.specs.Prefix.{Begins, Longest}
use Rattle.words.specs.Vocabulary.{DecimalFrom}
use Rattle.words.specs.Walk.{walk_of, Stops, Counts}
use Rattle.words.proofs.Onwards.{onward-step}
use Rattle.words.proofs.Ranges.{longest-front, begins-nothing}

module _ (least most : ℕ) (s : List ℕ) (k n : ℕ) (r : Leads most s k n) where
  none-longer : (j : ℕ) → k < j → j ≤ length s → Begins (DecimalFrom least most) (take j s) → ⊥
  none-longer j h g b = r.furthest j h g b.whole.number b.rest b.whole.small b.whole.digits

  -- no digits, and a number below the lower limit
  stops-none : k ≡ 0 → least ≤ most → Stops (DecimalFrom least most) s 0
  stops-none h o =
      record {
        longest = record {
          within = omega arith;
          begins = begins-nothing least most o;
          furthest = rw h at none-longer;
        };
        never = λ j g d. omega
            (arith, decimal-long d.number, ap length d.digits, length-take-le j s (omega arith));
      }

  stops-low : 0 < k → n < least → (i : ℕ) → Longest (DecimalFrom least most) (decimal n) i
      → Stops (DecimalFrom least most) s i
  stops-low p h i l =
      let long : length (decimal n) ≡ k = omega (arith, ap length (r.digits p), length-take-le k s r.within) in
      record {
        longest = longest-front (DecimalFrom least most) s k i r.within (rw (r.digits p) l) none-longer;
        never = λ j g d.
            (let less : j ≤ k = omega (arith, l.within) in
            let upto : value (take j s) ≤ value (take k s)
            = rw (take-append-drop, take-take j k s less) at (value_on (take j (take k s)) (drop j (take k s))) in
            let whole : value (take k s) ≡ n = ap value (r.digits p) ∙ value-decimal n in
            omega (arith, ap value d.digits, value-decimal d.number, d.large));
      }

-- the walk past it, from where it goes on
module _ {least most : ℕ} {text : List ℕ} {a : Result ℕ Stopped} {from k n : ℕ} (was : a ≡ Ok from)
    (inside : (walk_of a).at ≤ length text) (lent : Leads most (take (length text - from) (drop from text)) k n) where
  stops : (i : ℕ) → Stops (DecimalFrom least most) (drop from text) i
      → Counts least most text (walk_of a) (record { at = from + i; on = false }) 0
  stops i s =
      record {
        onward = rw was (onward-step (DecimalFrom least most) text from i (rw was at inside) false (λ e. cc) (λ _. s));
        large = λ _ t. cc;
        small = omega arith;
        none = λ _. refl;
        digits = λ _ t. cc;
      }

  pub counts-none : least ≤ most → k ≡ 0 → Counts least most text (walk_of a) (record { at = from; on = false }) 0
  counts-none o h =
      rw (add-zero from) at (stops 0 (stops-none least most (drop from text) k n (rw lent-tail at lent) h o))

  pub counts-low : (k ≡ 0 → ⊥) → n < least → {i : ℕ} → Longest (DecimalFrom least most) (decimal n) i
      → Counts least most text (walk_of a) (record { at = from + i; on = false }) 0
  counts-low f h {i} l = stops i (stops-low least most (drop from text) k n (rw lent-tail at lent) (omega arith) h i l)
