-- What the engine's inner functions promise each other: the form of an allele by how far its replacement agrees with
-- the reference.
use Rattle.std.specs.Prelude.{ℕ, ◌+◌, ◌-◌, ◌≤◌, min, Bool, false, cond, List, eqb, ltb, length, take, drop}
use Rattle.stretch.specs.Common.{lcp, lcs}
use Rattle.refusal.specs.Limits.{reference_limit, replacement_limit}
use Rattle.normal_form.specs.declared.Outline.{Outline}
use Rattle.normal_form.specs.declared.Stretches.{Stretches}
use Rattle.normal_form.specs.Form.{outline_in}
use Rattle.normal_form.specs.Stretches.{spread, as_given}

-- an allele on a reference of n residues, by numbers: its replacement has `given` residues, and agrees with the
-- reference for `ahead` of them from start on, and for `behind` of them, backwards, from end on
pub record Agrees (n start end given ahead behind : ℕ) : Type 0 where
  pub ordered : start ≤ end
  pub inside : end ≤ n
  pub reference : n ≤ reference_limit
  pub replacement : given ≤ replacement_limit
  pub onward : start + ahead ≤ n
  pub back : behind ≤ end

-- how far a roll gets: it stops within the residues given, or goes through them and on into the flank behind them
unfoldable pub rolls_right : List ℕ → ℕ → ℕ → List ℕ → ℕ
rolls_right onward given agreed after = cond (ltb agreed given) agreed (agreed + lcp (drop agreed onward) after)

unfoldable pub rolls_left : List ℕ → ℕ → ℕ → List ℕ → ℕ
rolls_left back given agreed before =
    cond (ltb agreed given) agreed (agreed + lcs (take (length back - agreed) back) before)

-- the outline of a change, whose p and q are those of the rolls
unfoldable pub agreed_outline : List ℕ → ℕ → ℕ → ℕ → ℕ → ℕ → Outline
agreed_outline r start end given ahead behind =
    outline_in (min (length r) (start + given + (length r - end)))
    (start + rolls_right (drop start r) given ahead (drop end r))
    (length r - end + rolls_left (take end r) given behind (take start r))

-- all residues given agree with as many at the spot
abbrev pub agrees_wholly : ℕ → ℕ → ℕ → ℕ → Bool
agrees_wholly start end given ahead = cond (eqb given (end - start)) (eqb ahead given) false

-- the stretches of an allele, changed or not
unfoldable pub agreed_stretches : List ℕ → ℕ → ℕ → ℕ → ℕ → ℕ → Stretches
agreed_stretches r start end given ahead behind =
    cond (agrees_wholly start end given ahead) (as_given start end given)
    (spread (agreed_outline r start end given ahead behind) (length r) given start end)
