-- The numbers below a bound as an iterator tests them.
use Rattle.std.proofs.Common.{ℕ, ◌<◌, ◌≡◌, sym, arith, Bool, true, false, length}
use native.Mathlib.Nat.{zero-add}
use Rattle.std.specs.Bool.{MatchBool}
use Rattle.std.specs.List.{AllWithin, HoldsAt, range_with_len}
use Rattle.std.proofs.lemmas.List.FromFn.{length-range_with_len, get_or-range_with_len}
use Rattle.stretch.specs.Below.{below}
use Rattle.stretch.proofs.Below.{below_all, below_fails}

pub below-from_all : (f : ℕ → Bool) (n : ℕ) (r : Bool)
    → MatchBool r (AllWithin (λ k. f k ≡ true) (range_with_len 0 n) 0 (length (range_with_len 0 n)))
    ((k : ℕ) × (k < length (range_with_len 0 n)) × HoldsAt (λ k. f k ≡ false) (range_with_len 0 n) k)
    → r ≡ below f n
below-from_all f n true h =
    let at_ = λ (k : ℕ) (l : k < n). h k 0 (omega arith) (simp length-range_with_len l) in
    sym (below_all f n (λ k l. rw (get_or-range_with_len 0 n k 0 l, zero-add) at (at_ k l)))
below-from_all f n false h =
    let l = rw (length-range_with_len 0 n) at h.1 in
    sym (below_fails f n h.0 l (rw (get_or-range_with_len 0 n h.0 0 l, zero-add) at (h.2 0)))
