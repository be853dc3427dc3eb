-- Decimals: their two rules, their length, their bytes.
use Prim.Native.Nat.{ℕ, zero, suc, ◌+◌, ◌*◌, ◌/◌, ◌%◌, ◌^◌, ◌<◌, ◌≤◌}
use native.Mathlib.Nat.{pow-suc}
use native.Mathlib.Omega.{arith}
use mathlib.Core.Path.{◌≡◌, refl, ◌∙◌}
use mathlib.Core.List.{List, [], ◌∷◌, ◌++◌}
use lib.Dec.{ltb}
use lib.ListN.{length, get_or, length-append, get_or-append}
use lib.Seq.{get_or_at}
use borrow.Author.Tests.{lt-ltb, le-ltb, ltb-true, ltb-false}
use Rattle.stretch.proofs.Cases.{by_cases}
use Rattle.decimals.specs.Decimal.{digit, decimal_in, enough, decimal}

-- any number of steps that is enough gives the same digits
steps : (a b n : ℕ) → n < 10 ^ suc a → n < 10 ^ suc b → decimal_in a n ≡ decimal_in b n
unfolding decimal_in
steps zero zero n h g = refl
steps zero (suc b) n h g = rw (lt-ltb n 10 h)
steps (suc a) zero n h g = rw (lt-ltb n 10 g)
steps (suc a) (suc b) n h g =
    by_cases (ltb n 10)
    (λ e. rw e)
    (λ e. let h' : n < 10 ^ suc a * 10 = rw (pow-suc 10 (suc a)) at h in
    let g' : n < 10 ^ suc b * 10 = rw (pow-suc 10 (suc b)) at g in
    rw (e, steps a b (n / 10) (omega arith) (omega arith)))

below_power : (n : ℕ) → n < 10 ^ suc n
below_power zero = omega arith
below_power (suc n) = rw (pow-suc 10 (suc n)) (omega (arith, below_power n))

is-enough : (n : ℕ) → n < 10 ^ suc (enough n)
unfolding enough
is-enough n =
    by_cases (ltb n (2 ^ 64))
    (λ e. rw e (let h : n < 2 ^ 64 = ltb-true n (2 ^ 64) e in omega arith))
    (λ e. rw e (below_power n))

-- below ten one digit
pub decimal-below : (n : ℕ) → n < 10 → decimal n ≡ digit n ∷ []
unfolding decimal decimal_in
decimal-below n h = steps (enough n) 0 n (is-enough n) h

-- from ten on the digits of the tenth part, then the last digit
pub decimal-tenth : (n : ℕ) → 10 ≤ n → decimal n ≡ decimal (n / 10) ++ (digit (n % 10) ∷ [])
unfolding decimal decimal_in
decimal-tenth n h =
    let more : n < 10 ^ suc (enough n) * 10 = omega (arith, is-enough n) in
    steps (enough n) (suc (enough n)) n (is-enough n) (rw (pow-suc 10 (suc (enough n))) more)
    ∙ rw (le-ltb n 10 h, steps (enough n) (enough (n / 10)) (n / 10) (omega (arith, is-enough n)) (is-enough (n / 10)))

-- one digit more
pub decimal-on : (n d : ℕ) → 0 < n → d < 10 → decimal (n * 10 + d) ≡ decimal n ++ (digit d ∷ [])
decimal-on n d l h = decimal-tenth (n * 10 + d) (omega arith) ∙ (λ j. decimal (tenth j) ++ (digit (last j) ∷ []))
  where
    tenth : (n * 10 + d) / 10 ≡ n
    tenth = omega arith

    last : (n * 10 + d) % 10 ≡ d
    last = omega arith

-- what holds below ten, and of a number where it holds of its tenth part, holds of every number
module _ (P : ℕ → Type 0) (low : (n : ℕ) → n < 10 → P n) (up : (n : ℕ) → 10 ≤ n → P (n / 10) → P n) where
  within : (a n : ℕ) → n ≤ a → P n
  within zero n h = low n (omega arith)
  within (suc a) n h =
      by_cases (ltb n 10)
      (λ e. low n (ltb-true n 10 e))
      (λ e. let l : 10 ≤ n = ltb-false n 10 e in up n l (within a (n / 10) (omega arith)))

  pub by-tenths : (n : ℕ) → P n
  by-tenths n = within n n (omega arith)

pub length-tenth : (n : ℕ) → 10 ≤ n → length (decimal n) ≡ length (decimal (n / 10)) + 1
length-tenth n h = rw (decimal-tenth n h, length-append)

pub decimal-long : (n : ℕ) → 1 ≤ length (decimal n)
decimal-long = by-tenths (λ n. 1 ≤ length (decimal n)) (λ n h. rw (decimal-below n h) (omega arith))
    (λ n h l. omega (arith, length-tenth n h))

-- a number of at most k + 1 digits
pub decimal-short : (k n : ℕ) → n < 10 ^ suc k → length (decimal n) ≤ suc k
decimal-short zero n h = rw (decimal-below n h) (omega arith)
decimal-short (suc k) n h =
    by_cases (ltb n 10)
    (λ e. rw (decimal-below n (ltb-true n 10 e)) (omega arith))
    (λ e. let l : 10 ≤ n = ltb-false n 10 e in
    let less : n < 10 ^ suc k * 10 = rw pow-suc at h in
    let few : length (decimal (n / 10)) ≤ suc k = decimal-short k (n / 10) (omega arith) in
    omega (arith, length-tenth n l))

pub decimal-within : (n : ℕ) → n < 2 ^ 64 → length (decimal n) ≤ 20
decimal-within n h = decimal-short 19 n (omega arith)

-- every byte is a digit
pub decimal-digits : (n i : ℕ) → i < length (decimal n)
    → (0x30 ≤ get_or (decimal n) i 0) × (get_or (decimal n) i 0 ≤ 0x39)
decimal-digits =
    by-tenths (λ n. (i : ℕ) → i < length (decimal n)
    → (0x30 ≤ get_or (decimal n) i 0) × (get_or (decimal n) i 0 ≤ 0x39))
    (λ n h i. rw (decimal-below n h) (λ l. only n i h l))
    (λ n h f i. rw (decimal-tenth n h)
    (λ l. more (decimal (n / 10)) (n % 10) i (omega arith) f (simp length-append at l)))
  where
    only : (n i : ℕ) → n < 10 → i < 1 → (0x30 ≤ get_or (digit n ∷ []) i 0) × (get_or (digit n ∷ []) i 0 ≤ 0x39)
    only n zero h l = (omega arith, omega arith)
    only n (suc i) h l = absurd (omega arith)

    more : (s : List ℕ) (d i : ℕ) → d < 10 → ((j : ℕ) → j < length s → (0x30 ≤ get_or s j 0) × (get_or s j 0 ≤ 0x39))
        → i < length s + 1
        → (0x30 ≤ get_or (s ++ (digit d ∷ [])) i 0) × (get_or (s ++ (digit d ∷ [])) i 0 ≤ 0x39)
    more s d i h f l =
        by_cases (ltb i (length s))
        (λ e. let j : i < length s = ltb-true i (length s) e in rw (get_or-append s (digit d ∷ []) 0 i j) (f i j))
        (λ e. let j : length s ≡ i = omega (arith, ltb-false i (length s) e) in
        rw (get_or_at s (digit d) [] 0 i j) (omega arith, omega arith))

-- the first digit is 0 in the decimal of 0 alone
pub decimal-front : (n : ℕ) → 0 < n → 0x31 ≤ get_or (decimal n) 0 0
decimal-front =
    by-tenths (λ n. 0 < n → 0x31 ≤ get_or (decimal n) 0 0)
    (λ n h l. rw (decimal-below n h) (omega arith))
    (λ n h f l. rw (
      decimal-tenth n h,
      get_or-append (decimal (n / 10)) (digit (n % 10) ∷ []) 0 0 (decimal-long (n / 10)),
    ) (f (omega arith)))
