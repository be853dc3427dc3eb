-- Document 02, Q-5: how far a normal interval lies from the one given.
use Rattle.std.specs.Prelude.{ℕ, ◌+◌, ◌-◌, ◌≡◌, ◌⊎◌, List}
use Rattle.normal_form.specs.declared.Interval.{Interval}
use Rattle.normal_form.specs.declared.Stretches.{Stretches}
use Rattle.normal_form.specs.Form.{Normal, normal}
use Rattle.moved.specs.declared.Side.{Side}
use Rattle.moved.specs.declared.Moved.{Moved}

-- how far a lies beyond b, and b beyond a: a difference is 0 where there is none
abbrev pub side : ℕ → ℕ → Side
side a b = record { widened = a - b; shrunk = b - a }

-- for each side, the residues by which the interval widened past the given one, and those by which it shrank
abbrev pub moved : Interval → Interval → Moved
moved given normal =
    record { left = side given.start normal.start; right = side normal.end given.end }

abbrev pub interval : ℕ → ℕ → Interval
interval start end = record { start = start; end = end }

abbrev pub interval_of : Normal → Interval
interval_of f = interval f.start f.end

-- how far an allele's normal form moved
unfoldable pub moved_by : List ℕ → ℕ → ℕ → List ℕ → Moved
moved_by r start end x = moved (interval start end) (interval_of (normal r start end x))

-- and the form that the stretches hold
abbrev pub moved_in : Stretches → Moved
moved_in w = moved w.given (interval w.start w.end)

-- four numbers, in the order in which they are answered
abbrev pub by : ℕ → ℕ → ℕ → ℕ → Moved
by leftWidened leftShrunk rightWidened rightShrunk =
    record {
      left = record { widened = leftWidened; shrunk = leftShrunk };
      right = record { widened = rightWidened; shrunk = rightShrunk };
    }

-- nothing moved
abbrev pub still : Moved
still = by 0 0 0 0

-- two numbers that tell a and b from each other, of which at most one is above zero
pub record Apart (a b : ℕ) (s : Side) : Type 0 where
  pub told : a + s.shrunk ≡ b + s.widened
  pub one : (s.widened ≡ 0) ⊎ (s.shrunk ≡ 0)

-- and so for either side of two intervals
pub record Moves (given normal : Interval) (m : Moved) : Type 0 where
  pub left : Apart given.start normal.start m.left
  pub right : Apart normal.end given.end m.right
