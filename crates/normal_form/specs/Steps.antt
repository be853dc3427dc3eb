-- Source document 001's way of fully justifying an allele (4.2.2), a definition for each of its steps.
use Rattle.std.specs.Prelude.{ℕ, suc, ◌+◌, ◌-◌, cond, List, [], ◌∷◌, ◌++◌, reverse, eqb, length, take, drop}
use Rattle.stretch.specs.Common.{lcp, lcs}
use Rattle.stretch.specs.Part.{part}
use Rattle.normal_form.specs.Form.{Normal}

-- an allele on its way: the interval, and the two allele sequences
pub record Underway : Type 0 where
  pub start : ℕ
  pub end : ℕ
  pub reference : List ℕ
  pub alternate : List ℕ

-- an allele answered
pub record Justified : Type 0 where
  pub start : ℕ
  pub end : ℕ
  pub replacement : List ℕ

-- step 0
unfoldable pub begun : List ℕ → ℕ → ℕ → List ℕ → Underway
begun r start end x = record { start = start; end = end; reference = part r start end; alternate = x }

-- step 1a: the common suffix goes, and the end comes down by its length
abbrev pub common_suffix : Underway → ℕ
common_suffix a = lcs a.reference a.alternate

unfoldable pub less_suffix : Underway → Underway
less_suffix a =
    record {
      start = a.start;
      end = a.end - common_suffix a;
      reference = take (length a.reference - common_suffix a) a.reference;
      alternate = take (length a.alternate - common_suffix a) a.alternate;
    }

-- step 1b: the common prefix goes, and the start goes up by its length
abbrev pub common_prefix : Underway → ℕ
common_prefix a = lcp a.reference a.alternate

unfoldable pub less_prefix : Underway → Underway
less_prefix a =
    record {
      start = a.start + common_prefix a;
      end = a.end;
      reference = drop (common_prefix a) a.reference;
      alternate = drop (common_prefix a) a.alternate;
    }

-- step 4: the number of steps that a sequence rolls into the bases beside it.
-- Both lists are read away from the current position: while the sequence's first base is the next of those beside it,
-- it goes to the sequence's other end, and the position moves past that next base
unfoldable pub rolled : List ℕ → List ℕ → ℕ
rolled [] sequence = 0
rolled (d ∷ beside) [] = 0
rolled (d ∷ beside) (c ∷ sequence) = cond (eqb c d) (suc (rolled beside (sequence ++ (c ∷ [])))) 0

-- 4a to the left of start, where both lists are read backward, and 4b to the right of end
unfoldable pub roll_left : List ℕ → ℕ → List ℕ → ℕ
roll_left r start sequence = rolled (reverse (take start r)) (reverse sequence)

unfoldable pub roll_right : List ℕ → ℕ → List ℕ → ℕ
roll_right r end sequence = rolled (drop end r) sequence

-- steps 5 and 6: what was rolled over on either side is taken in
unfoldable pub extended : List ℕ → ℕ → ℕ → List ℕ → ℕ → ℕ → Justified
extended r start end alternate left right =
    record {
      start = start - left;
      end = end + right;
      replacement = part r (start - left) start ++ (alternate ++ part r end (end + right));
    }

-- steps 4 to 6, rolling the one sequence that is not empty
unfoldable pub rolled_out : List ℕ → ℕ → ℕ → List ℕ → List ℕ → Justified
rolled_out r start end sequence alternate =
    extended r start end alternate (roll_left r start sequence) (roll_right r end sequence)

-- steps 2 to 6, by which of the two sequences are empty: both, none, the reference's, the alternate
unfoldable pub settled : List ℕ → Justified → ℕ → ℕ → List ℕ → List ℕ → Justified
settled r given start end [] [] = given
settled r given start end (c ∷ reference) (d ∷ alternate) =
    record { start = start; end = end; replacement = d ∷ alternate }
settled r given start end [] (d ∷ alternate) = rolled_out r start end (d ∷ alternate) (d ∷ alternate)
settled r given start end (c ∷ reference) [] = rolled_out r start end (c ∷ reference) []

-- steps 0 and 1
unfoldable pub trimmed : List ℕ → ℕ → ℕ → List ℕ → Underway
trimmed r start end x = less_prefix (less_suffix (begun r start end x))

-- steps 2 to 6 of an allele that is trimmed
abbrev pub answered : List ℕ → Justified → Underway → Justified
answered r given a = settled r given a.start a.end a.reference a.alternate

-- all of the steps
unfoldable pub justified : List ℕ → ℕ → ℕ → List ℕ → Justified
justified r start end x = answered r (record { start = start; end = end; replacement = x }) (trimmed r start end x)

-- a normal form without its kind, which the source does not tell
abbrev pub placed : Normal → Justified
placed f = record { start = f.start; end = f.end; replacement = f.replacement }
