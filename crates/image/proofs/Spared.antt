-- Stretches of an image that a write leaves as they were.
use Prim.Native.Nat.{ℕ, ◌+◌, ◌≤◌}
use native.Mathlib.Omega.{arith}
use mathlib.Core.Logic.{◌⊎◌, ⊎_elim}
use mathlib.Core.Path.{◌≡◌, ◌∙◌, ap}
use mathlib.Core.List.{List}
use lib.ListN.{length}
use Rattle.stretch.specs.Over.{over}
use Rattle.stretch.specs.Part.{part}
use Rattle.stretch.proofs.Through.{part-before, part-behind}
use Rattle.image.specs.Numbers.{little, bytes, number, put}
use Rattle.image.proofs.Numbers.{length-bytes}

-- every part between two places is the same in b and c
pub record Spared (b c : List ℕ) (from to : ℕ) : Type 0 where
  pub parts : (i j : ℕ) → from ≤ i → i ≤ j → j ≤ to → part c i j ≡ part b i j

-- n bytes from a place on lie on one side of a stretch
abbrev pub Aside : ℕ → ℕ → ℕ → ℕ → Type 0
Aside at n from to = (to ≤ at) ⊎ (at + n ≤ from)

pub spared-over : (b : List ℕ) (at : ℕ) (s : List ℕ) → at ≤ length b → (from to : ℕ) → Aside at (length s) from to
    → Spared b (over b at s) from to
spared-over b at s room from to a =
    record {
      parts = λ i j l o g.
          ⊎_elim
          (λ (h : to ≤ at). part-before b at s room i j o (omega arith))
          (λ (h : at + length s ≤ from). part-behind b at s room i j (omega arith))
          a;
    }

pub spared-put : (b : List ℕ) (at v : ℕ) → at ≤ length b → (from to : ℕ) → Aside at 4 from to
    → Spared b (put b at v) from to
unfolding put
spared-put b at v room from to a = spared-over b at (bytes 4 v) room from to (rw (length-bytes 4 v) a)

module _ {b c : List ℕ} {from to : ℕ} (s : Spared b c from to) where
  pub spared-on : {d : List ℕ} → Spared c d from to → Spared b d from to
  spared-on t = record { parts = λ i j l o g. t.parts i j l o g ∙ s.parts i j l o g }

  pub spared-number : (i : ℕ) → from ≤ i → i + 4 ≤ to → number c i ≡ number b i
  unfolding number
  spared-number i l g = ap little (s.parts i (i + 4) l (omega arith) g)

-- a number beside a write, and beside a number that is put
pub number-beside : (b : List ℕ) (at : ℕ) (s : List ℕ) → at ≤ length b → (i : ℕ) → Aside at (length s) i (i + 4)
    → number (over b at s) i ≡ number b i
number-beside b at s room i a = spared-number (spared-over b at s room i (i + 4) a) i (omega arith) (omega arith)

pub number-aside : (b : List ℕ) (at v : ℕ) → at ≤ length b → (i : ℕ) → Aside at 4 i (i + 4)
    → number (put b at v) i ≡ number b i
number-aside b at v room i a = spared-number (spared-put b at v room i (i + 4) a) i (omega arith) (omega arith)
