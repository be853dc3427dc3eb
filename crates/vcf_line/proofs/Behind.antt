-- Columns after ALT are passed over: two lines that agree up to the end of ALT are answered alike.
use Prim.Native.Nat.{ℕ, ◌<◌, min}
use native.Mathlib.Omega.{arith}
use mathlib.Core.Path.{◌≡◌, ◌∙◌, sym, ap}
use mathlib.Core.List.{List, [], ◌∷◌, ◌++◌, append-nil}
use lib.Dec.{ltb}
use lib.ListN.{length, get_or, take, length-take}
use lib.Seq.{get_or-take, take_at}
use borrow.Author.Tests.{lt-ltb, le-ltb, ltb-true, ltb-false}
use Rattle.stretch.proofs.Cases.{by_cases}
use Rattle.fields.specs.Cut.{parted}
use Rattle.fields.proofs.Pieces.{parted-append}
use Rattle.vcf_line.specs.Line.{tab, columns, column}
use Rattle.vcf_line.specs.Calls.{line_grounds, counted}

-- their first five columns are the same
abbrev pub Alike : List ℕ → List ℕ → Type 0
Alike one other = take 5 (columns one) ≡ take 5 (columns other)

-- as those of a line that ends with ALT and of the same line with anything more behind a tab
pub alike-behind : (line rest : List ℕ) → length (columns line) ≡ 5 → Alike (line ++ (tab ∷ rest)) line
alike-behind line rest five =
    rw (parted-append tab line rest)
    (take_at (columns line) (parted tab rest) 5 five
    ∙ sym (ap (take 5) (sym (append-nil (columns line))) ∙ take_at (columns line) [] 5 five))

short-least : (n : ℕ) → ltb (min 5 n) 5 ≡ ltb n 5
short-least n =
    by_cases (ltb n 5)
    (λ e. rw e (lt-ltb (min 5 n) 5 (omega (arith, ltb-true n 5 e))))
    (λ e. rw e (le-ltb (min 5 n) 5 (omega (arith, ltb-false n 5 e))))

module _ (one other : List ℕ) (e : Alike one other) where
  pub column-alike : (i : ℕ) → i < 5 → column one i ≡ column other i
  column-alike i h =
      sym (get_or-take 5 (columns one) i [] h)
      ∙ ap (λ (l : List (List ℕ)). get_or l i []) e
      ∙ get_or-take 5 (columns other) i [] h

  few-alike : ltb (length (columns one)) 5 ≡ ltb (length (columns other)) 5
  few-alike =
      let n : min 5 (length (columns one)) ≡ min 5 (length (columns other)) =
      sym (length-take 5 (columns one)) ∙ ap length e ∙ length-take 5 (columns other) in
      sym (short-least (length (columns one)))
      ∙ ap (λ (k : ℕ). ltb k 5) n
      ∙ short-least (length (columns other))

  pub line_grounds-alike : (r : List ℕ) → line_grounds r one ≡ line_grounds r other
  unfolding line_grounds
  line_grounds-alike r =
      rw (few-alike, column-alike 1 (omega arith), column-alike 3 (omega arith))

  pub counted-alike : (r : List ℕ) → counted r one ≡ counted r other
  counted-alike r = rw (line_grounds-alike r, column-alike 4 (omega arith))
