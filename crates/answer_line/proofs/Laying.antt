-- Short texts, and a text laid that is said in another way.
use Prim.Native.Nat.{ℕ, zero, suc, ◌+◌, ◌<◌, ◌≤◌}
use native.Mathlib.Omega.{arith}
use mathlib.Core.Path.{◌≡◌, ◌∙◌, sym, ap}
use mathlib.Core.List.{List, [], ◌∷◌, ◌++◌, map, append-nil, append_assoc}
use lib.ListN.{length, get_or, take, length-take}
use Rattle.std.specs.List.{concat}
use Rattle.stretch.specs.Over.{Wrote}
use Rattle.stretch.specs.Part.{part}
use Rattle.stretch.proofs.Over.{over-nil}
use Rattle.normal_form.specs.declared.Kind.{Kind}
use Rattle.normal_form.specs.declared.Kind.TheVariants.{Unchanged, Substitution, Indel}
use Rattle.answer_line.specs.Answers.{word, spaced}

pub word-short : (k : Kind) → length (word k) ≤ 12
word-short Unchanged = omega arith
word-short Substitution = omega arith
word-short Indel = omega arith

pub wrote_as : (l text same left : List ℕ) (n : ℕ) → text ≡ same → Wrote l 0 same left n → Wrote l 0 text left n
wrote_as l text same left n e w = rw e w

pub part-short : (l : List ℕ) (from to : ℕ) → from ≤ to → length (part l from to) + from ≤ to
part-short l from to h = simp length-take (omega arith)

-- numbers in a row, each after a space
abbrev pub in_row : List ℕ → List ℕ
in_row numbers = concat (map spaced numbers)

row-suc : (ns : List ℕ) (i : ℕ) → i < length ns
    → in_row (take (suc i) ns) ≡ in_row (take i ns) ++ spaced (get_or ns i 0)
row-suc [] i h = absurd (omega arith)
row-suc (n ∷ ns) zero h = append-nil (spaced n)
row-suc (n ∷ ns) (suc i) h =
    ap (λ (l : List ℕ). spaced n ++ l) (row-suc ns i (omega arith))
    ∙ sym (append_assoc (spaced n) (in_row (take i ns)) (spaced (get_or ns i 0)))

-- one more number written after those written so far
pub row-then : (l : List ℕ) (at : ℕ) (ns : List ℕ) (i : ℕ) (left : List ℕ) (n : ℕ) → i < length ns
    → Wrote l at (in_row (take i ns) ++ spaced (get_or ns i 0)) left n
    → Wrote l at (in_row (take (i + 1) ns)) left n
row-then l at ns i left n h w = let e : i + 1 ≡ suc i = omega arith in rw (e, row-suc ns i h) w

-- nothing laid over a buffer leaves it
pub wrote-none : (l : List ℕ) (at : ℕ) → at ≤ length l → Wrote l at [] l at
wrote-none l at h = record { next = omega arith; laid = sym (over-nil l at); room = h }
