-- Each step has one answer, and leaves one content of what was lent.
use Prim.Native.Nat.{ℕ}
use mathlib.Core.Path.{◌≡◌, ◌∙◌, sym}
use mathlib.Core.List.{List}
use Rattle.lines.specs.declared.Step.{Step}
use Rattle.lines.specs.Steps.{Starts, Steps}

same_step : (a b : Step) → a.reference ≡ b.reference → a.next ≡ b.next → a.written ≡ b.written → a ≡ b
same_step a b e f g i = record { reference = e i; next = f i; written = g i }

pub starts-once : (input : List ℕ) (a b : Step) → Starts input a → Starts input b → a ≡ b
starts-once input a b p q =
    let e : a.reference ≡ b.reference = p.reference ∙ sym q.reference in
    same_step a b e (p.next ∙ rw e (sym q.next)) (p.written ∙ sym q.written)

pub steps-once : (input : List ℕ) (from : Step) (out : List ℕ) (a b : Step) (l m : List ℕ) → Steps input from out a l
    → Steps input from out b m
    → (a ≡ b) × (l ≡ m)
steps-once input from out a b l m p q = (
  same_step a b (p.reference ∙ sym q.reference) (p.next ∙ sym q.next) (p.line.next ∙ sym q.line.next),
  p.line.laid ∙ sym q.line.laid,
)
