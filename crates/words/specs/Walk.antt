-- How a text is read: by words, each of which goes on from where the one before it ended.
use Rattle.std.specs.Prelude.{ℕ, ◌-◌, ◌<◌, ◌≤◌, ◌≡◌, Bool, true, false, List, length, take, drop, Result, Ok, Err}
use Rattle.stretch.specs.Part.{part}
use Rattle.decimals.specs.Decimal.{decimal}
use Rattle.words.specs.declared.Counted.{Counted}
use Rattle.words.specs.declared.Stopped.{Stopped}
use Rattle.words.specs.Prefix.{Begins, Longest}
use Rattle.words.specs.Vocabulary.{DecimalFrom}

-- how far a text is read, and whether it may go on from there
pub record Walk : Type 0 where
  pub at : ℕ
  pub on : Bool

abbrev pub walk_of : Result ℕ Stopped → Walk
walk_of (Ok at) = record { at = at; on = true }
walk_of (Err stopped) = record { at = stopped.at; on = false }

-- past a decimal, and its number: 0 where it stops
abbrev pub counted_walk : Result Counted Stopped → Walk
counted_walk (Ok counted) = record { at = counted.at; on = true }
counted_walk (Err stopped) = record { at = stopped.at; on = false }

abbrev pub number_of : Result Counted Stopped → ℕ
number_of (Ok counted) = counted.number
number_of (Err stopped) = 0

-- the first k bytes of s are a word, and no more of s begins one
pub record Goes (Kind : List ℕ → Type 0) (s : List ℕ) (k : ℕ) : Type 0 where
  pub within : k ≤ length s
  pub word : Kind (take k s)
  pub furthest : (j : ℕ) → k < j → j ≤ length s → Begins Kind (take j s) → ⊥

-- s does not begin with a word, and k bytes of it begin one
pub record Stops (Kind : List ℕ → Type 0) (s : List ℕ) (k : ℕ) : Type 0 where
  pub longest : Longest Kind s k
  pub never : (j : ℕ) → j ≤ k → Kind (take j s) → ⊥

-- a walk has gone on by one word, or has stopped in it, or had stopped before
pub record Onward (Kind : List ℕ → Type 0) (text : List ℕ) (a b : Walk) : Type 0 where
  pub forth : a.at ≤ b.at
  pub within : b.at ≤ length text
  pub stays : a.on ≡ false → b ≡ a
  pub goes : a.on ≡ true → b.on ≡ true → Goes Kind (drop a.at text) (b.at - a.at)
  pub stops : a.on ≡ true → b.on ≡ false → Stops Kind (drop a.at text) (b.at - a.at)

-- whether the digits of a number begin the decimal of a number from a lower to an upper limit
pub record Reaches (least most number : ℕ) (answer : Bool) : Type 0 where
  pub some : answer ≡ true → Begins (DecimalFrom least most) (decimal number)
  pub none : answer ≡ false → Begins (DecimalFrom least most) (decimal number) → ⊥

-- a walk over a decimal, and the number that was read; 0 where it stops
pub record Counts (least most : ℕ) (text : List ℕ) (a b : Walk) (number : ℕ) : Type 0 where
  pub onward : Onward (DecimalFrom least most) text a b
  pub large : a.on ≡ true → b.on ≡ true → least ≤ number
  pub small : number ≤ most
  pub none : b.on ≡ false → number ≡ 0
  pub digits : a.on ≡ true → b.on ≡ true → part text a.at b.at ≡ decimal number
