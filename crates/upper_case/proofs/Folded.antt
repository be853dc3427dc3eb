-- A stretch read as upper case: its length, its bytes, its parts.
use Prim.Native.Nat.{ℕ}
use native.Mathlib.Omega.{arith}
use mathlib.Core.Path.{◌≡◌}
use mathlib.Core.List.{List}
use lib.ListN.{length, get_or, length-map, get_or-map}
use lib.Dec.{ltb}
use borrow.Author.Tests.{le-leb, lt-leb, ltb-true, ltb-false}
use Rattle.std.specs.Char.{to_ascii_uppercase}
use Rattle.stretch.proofs.Cases.{by_cases}
use Rattle.upper_case.specs.Upper.{upper, folded}

pub length-folded : (s : List ℕ) → length (folded s) ≡ length s
length-folded s = length-map s upper

-- the rule as std states it
pub upper-ascii : (b : ℕ) → to_ascii_uppercase b ≡ upper b
unfolding upper
upper-ascii b =
    by_cases (ltb b 97)
    (λ e. rw (e, lt-leb 97 b (ltb-true b 97 e)))
    (λ e. let low = le-leb 97 b (ltb-false b 97 e) in
    by_cases (ltb b 123)
    (λ h. rw (e, h, low, le-leb b 122 (omega (arith, ltb-true b 123 h))))
    (λ h. rw (e, h, low, lt-leb b 122 (omega (arith, ltb-false b 123 h)))))
