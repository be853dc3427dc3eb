-- A status's number is the one that it was read from.
use Prim.Native.Nat.{ℕ, zero, suc, ◌≤◌}
use native.Mathlib.Omega.{arith}
use mathlib.Core.Path.{◌≡◌, refl}
use Rattle.image.specs.Fields.{active}
use Rattle.image.specs.Statuses.{code_of, status_from}

pub status-coded : (n : ℕ) → n ≤ active → code_of (status_from n) ≡ n
unfolding status_from
status-coded zero h = refl
status-coded (suc zero) h = refl
status-coded (suc (suc n)) h = absurd (omega (arith, h))
