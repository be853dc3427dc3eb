-- Numbers put one after the other and into a lent tail, and the writes of a new number.
use Prim.Native.Nat.{ℕ, ◌+◌, ◌-◌, ◌*◌, ◌<◌, ◌≤◌}
use native.Mathlib.Numerals.{add-one}
use native.Mathlib.Omega.{arith}
use mathlib.Core.Path.{◌≡◌, refl, ◌∙◌, sym, ap}
use mathlib.Core.List.{List, [], ◌∷◌, ◌++◌, append_assoc, append-nil}
use lib.ListN.{length, get_or, take, drop}
use lib.Seq.{take-suc, length-take-le}
use Rattle.stretch.specs.Over.{over}
use Rattle.stretch.proofs.Over.{over-next, over-tail}
use Rattle.normal_form_calls.specs.declared.Form.{Form}
use Rattle.image.specs.Numbers.{numbers, put, bytes}
use Rattle.image.specs.Fields.{entry_size, issued}
use Rattle.image.specs.Fields.{issued_place, journal_offset, journal_count, journal_count_place, pool_offset, pool_used}
use Rattle.image.specs.Fields.{pool_used_place, record_place, record_of, active}
use Rattle.image.proofs.Patched.{length-numbers}
use Rattle.image.proofs.Numbers.{length-bytes}
use Rattle.changes.specs.Changes.{journalled, recorded, pooled, counted, numbered}
use Rattle.lookup.specs.Lookup.{asked}

numbers-append : (us vs : List ℕ) → numbers (us ++ vs) ≡ numbers us ++ numbers vs
unfolding numbers
numbers-append [] vs = refl
numbers-append (u ∷ us) vs = ap (λ (l : List ℕ). bytes 4 u ++ l) (numbers-append us vs)
    ∙ sym (append_assoc (bytes 4 u) (numbers us) (numbers vs))

put-numbers : (l : List ℕ) (at v : ℕ) → put l at v ≡ over l at (numbers (v ∷ []))
unfolding put numbers
put-numbers l at v = ap (over l at) (sym (append-nil (bytes 4 v)))

-- a number right after others
put_next : (l : List ℕ) (at : ℕ) → at ≤ length l → (us : List ℕ) (n : ℕ) → n ≡ at + 4 * length us → (v : ℕ)
    → put (over l at (numbers us)) n v ≡ over l at (numbers (us ++ (v ∷ [])))
put_next l at h us n e v =
    put-numbers (over l at (numbers us)) n v
    ∙ over-next l at n (numbers us) (numbers (v ∷ [])) h (omega (arith, length-numbers us))
    ∙ ap (over l at) (sym (numbers-append us (v ∷ [])))

-- one number more
pub put_more : (l : List ℕ) (at : ℕ) (vs : List ℕ) (k : ℕ) → at ≤ length l → k < length vs
    → put (over l at (numbers (take k vs))) (at + 4 * k) (get_or vs k 0) ≡ over l at (numbers (take (k + 1) vs))
put_more l at vs k h g =
    rw (add-one k, take-suc vs k 0 g)
    (put_next l at h (take k vs) (at + 4 * k) (rw (length-take-le k vs (omega arith))) (get_or vs k 0))

-- a number put into a tail that was lent and comes back
pub put-tail : (l : List ℕ) (at k v : ℕ) → at + k + 4 ≤ length l
    → take at l ++ (put (take (length l - at) (drop at l)) k v ++ drop (length l - at) (drop at l)) ≡ put l (at + k) v
unfolding put
put-tail l at k v h = over-tail l at k (bytes 4 v) (rw (length-bytes 4 v) h)

-- the writes of a new number
pub numbered-as : (b : List ℕ) (f : Form) (x : List ℕ) (n used pool at count place : ℕ)
    → f.length ≡ length x
    → n ≡ issued b + 1 → used ≡ pool_used b → pool ≡ pool_offset b → at ≡ journal_offset b → count ≡ journal_count b
    → place ≡ record_place n
    → put (put (put (put (over (over b place (record_of f.start f.end used f.length active)) (pool + used)
    x) issued_place n) pool_used_place (used + f.length)) (at + entry_size * count) n) journal_count_place
    (count + 1)
    ≡ numbered b (asked f x)
unfolding numbered journalled counted pooled recorded
numbered-as b f x n used pool at count place long e₁ e₂ e₃ e₄ e₅ e₆ =
    rw (← long, e₆, e₁, e₂, e₃, e₄, e₅)
