-- Texts laid one after the other.
use Prim.Native.Nat.{ℕ, ◌+◌, ◌-◌, ◌≤◌}
use native.Mathlib.Omega.{arith}
use mathlib.Core.Path.{◌≡◌, ◌∙◌, sym, ap}
use mathlib.Core.List.{List, ◌++◌}
use lib.ListN.{length, take, length-append}
use Rattle.stretch.specs.Over.{over, Wrote}
use Rattle.stretch.proofs.Over.{over-next, length_over, take-over}

-- a text laid over a buffer that has room for it
pub over-wrote : (l : List ℕ) (at : ℕ) (s left : List ℕ) (n : ℕ) → at + length s ≤ length l → n ≡ at + length s
    → left ≡ over l at s → Wrote l at s left n
over-wrote l at s left n h e w = record { next = e; laid = w; room = omega (arith, ap length w, length_over l at s h) }

-- a write leaves one content and ends at one place
pub wrote-once : (l : List ℕ) (at : ℕ) (s left₁ left₂ : List ℕ) (n₁ n₂ : ℕ)
    → Wrote l at s left₁ n₁ → Wrote l at s left₂ n₂ → (left₁ ≡ left₂) × (n₁ ≡ n₂)
wrote-once l at s left₁ left₂ n₁ n₂ p q = (p.laid ∙ sym q.laid, p.next ∙ sym q.next)

-- what stands at the front of a buffer that it is laid over
pub wrote-front : (l s left : List ℕ) (n : ℕ) → Wrote l 0 s left n → take (n - 0) left ≡ s
wrote-front l s left n w = let e : n - 0 ≡ 0 + length s = omega (arith, w.next) in
    rw (e, w.laid) (take-over l 0 s (omega arith))

-- two in a row are one
pub wrote_then : (l : List ℕ) (at : ℕ) (s m : List ℕ) (n : ℕ) (t k : List ℕ) (j : ℕ) → at ≤ length l → Wrote l at s m n
    → Wrote m n t k j → Wrote l at (s ++ t) k j
wrote_then l at s m n t k j h p q =
    record {
      next = simp length-append (omega (arith, p.next, q.next));
      laid = q.laid ∙ rw p.laid (over-next l at n s t h p.next);
      room = q.room;
    }
