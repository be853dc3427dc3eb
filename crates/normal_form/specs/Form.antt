-- Document 01, "The normal form", over the reference r and the altered sequence t.
use Rattle.std.specs.Prelude.{ℕ, ◌+◌, ◌-◌, ◌≤◌, min, cond, List, ◌++◌, ltb, length, take, drop}
use Rattle.stretch.specs.Common.{lcp, lcs}
use Rattle.stretch.specs.Part.{part}
use Rattle.stretch.specs.Same.{same}
use Rattle.refusal.specs.Limits.{reference_limit, replacement_limit}
use Rattle.normal_form.specs.declared.Kind.{Kind}
use Rattle.normal_form.specs.declared.Outline.{Outline}
use Rattle.normal_form.specs.declared.Kind.TheVariants.{Unchanged, Substitution, Indel}

-- an allele on a reference, as the tests 1 to 3 leave it
pub record Allele (r : List ℕ) (start end : ℕ) (x : List ℕ) : Type 0 where
  pub ordered : start ≤ end
  pub inside : end ≤ length r
  pub reference : length r ≤ reference_limit
  pub replacement : length x ≤ replacement_limit

-- the altered sequence: r before start, the replacement x, r from end on
unfoldable pub altered : List ℕ → ℕ → ℕ → List ℕ → List ℕ
altered r start end x = take start r ++ (x ++ drop end r)

-- k, the smaller of the two lengths
unfoldable pub shorter : List ℕ → List ℕ → ℕ
shorter r t = min (length r) (length t)

-- the smaller of p and k - q, 0 where q is above k: a common length that leaves that of the other side its room
unfoldable pub within : ℕ → ℕ → ℕ → ℕ
within k q p = min p (k - q)

-- a substitution where p + q is below k, whatever the lengths
unfoldable pub kind_in : ℕ → ℕ → ℕ → Kind
kind_in k p q = cond (ltb (p + q) k) Substitution Indel

-- the kind, a and b, by k, p and q alone
abbrev pub outline_in : ℕ → ℕ → ℕ → Outline
outline_in k p q = record { kind = kind_in k p q; a = within k q p; b = within k p q }

-- those of r and t, whose longest common prefix and suffix have the lengths p and q
abbrev pub outline : List ℕ → List ℕ → Outline
outline r t = outline_in (shorter r t) (lcp r t) (lcs r t)

unfoldable pub kind_of : List ℕ → List ℕ → Kind
kind_of r t = (outline r t).kind

unfoldable pub ahead : List ℕ → List ℕ → ℕ
ahead r t = (outline r t).a

unfoldable pub behind : List ℕ → List ℕ → ℕ
behind r t = (outline r t).b

-- an allele in its normal form
pub record Normal : Type 0 where
  pub kind : Kind
  pub start : ℕ
  pub end : ℕ
  pub replacement : List ℕ

-- the form of a changed allele: the interval a to n - b, and t from a to m - b
unfoldable pub changed_form : List ℕ → List ℕ → Normal
changed_form r t =
    record {
      kind = kind_of r t;
      start = ahead r t;
      end = length r - behind r t;
      replacement = part t (ahead r t) (length t - behind r t);
    }

-- an unchanged allele is answered as given
unfoldable pub normal : List ℕ → ℕ → ℕ → List ℕ → Normal
normal r start end x =
    cond (same r (altered r start end x))
    (record { kind = Unchanged; start = start; end = end; replacement = x })
    (changed_form r (altered r start end x))
