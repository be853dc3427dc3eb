-- Each call has one answer.
use Prim.Native.Nat.{ℕ}
use native.Mathlib.Omega.{arith}
use mathlib.Core.Path.{◌≡◌, refl, ◌∙◌, sym, ap}
use mathlib.Core.List.{List}
use lib.ListN.{length, drop, length-drop}
use Rattle.refusal.proofs.Unique.{one_answer}
use Rattle.fields.specs.Cut.{next_of}
use Rattle.input_line.specs.declared.Line.{Line}
use Rattle.std.specs.Prelude.{Option, Some, None}
use Rattle.input_line.specs.Meaning.{line_feed, answer_meaning, ReadsLine}

pub ends-once : (input : List ℕ) (from a b : ℕ) → a ≡ next_of line_feed input from → b ≡ next_of line_feed input from
    → a ≡ b
ends-once input from a b p q = one_answer p q

one_line : (line : List ℕ) (a b : Option Line) → answer_meaning line a ≡ answer_meaning line b → ReadsLine line a
    → ReadsLine line b → a ≡ b
one_line line None None e p q = refl
one_line line None (Some b) e p q = cc
one_line line (Some a) None e p q = cc
one_line line (Some a) (Some b) e p q =
    let d : drop a.from line ≡ drop b.from line = cc in
    let f : a.from ≡ b.from
    = omega (arith, ap length d, length-drop a.from line, length-drop b.from line, p.inside, q.inside) in
    let s : a.start ≡ b.start = cc in
    let t : a.end ≡ b.end = cc in
    λ i. Some (record { start = s i; end = t i; from = f i })

pub tells-once : (line : List ℕ) (a b : Option Line) → ReadsLine line a → ReadsLine line b → a ≡ b
tells-once line a b p q = one_line line a b (p.means ∙ sym q.means) p q
