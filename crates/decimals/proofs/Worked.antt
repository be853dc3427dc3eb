-- Decimals at the edges: the last digit and the tenth part, the largest number and the next, digits before a number.
use mathlib.Core.Path.{◌≡◌, refl}
use mathlib.Core.List.{[], ◌∷◌, map}
use Rattle.stretch.specs.Ascii.{ascii}
use Rattle.stretch.specs.Same.{same}
use Rattle.std.specs.Prelude.{Some, None}
use Rattle.decimals.specs.Decimal.{decimal_in, enough, decimal}
use Rattle.decimals.specs.Number.{value_from, value, number_within, number_of}

pub worked-decimal : map decimal (0 ∷ 9 ∷ 10 ∷ 100 ∷ 1234567890 ∷ 18446744073709551615 ∷ [])
    ≡ ascii "0" ∷ ascii "9" ∷ ascii "10" ∷ ascii "100" ∷ ascii "1234567890" ∷ ascii "18446744073709551615" ∷ []
unfolding decimal enough decimal_in
worked-decimal = refl

pub worked-number_of : map number_of
    (ascii "0" ∷ ascii "7" ∷ ascii "10" ∷ ascii "18446744073709551615" ∷ ascii "18446744073709551616" ∷ [])
    ≡ Some 0 ∷ Some 7 ∷ Some 10 ∷ Some 18446744073709551615 ∷ None ∷ []
unfolding number_of number_within value value_from same decimal enough decimal_in
worked-number_of = refl

pub worked-absent : map number_of (ascii "" ∷ ascii "00" ∷ ascii "01" ∷ ascii "+1" ∷ ascii "1a" ∷ ascii "1 " ∷ [])
    ≡ None ∷ None ∷ None ∷ None ∷ None ∷ None ∷ []
unfolding number_of number_within value value_from same decimal enough decimal_in
worked-absent = refl

-- a place in a reference of 11 residues, counted from 1
pub within : map (number_within 1 11) (ascii "0" ∷ ascii "1" ∷ ascii "11" ∷ ascii "12" ∷ ascii "01" ∷ ascii "" ∷ [])
    ≡ None ∷ Some 1 ∷ Some 11 ∷ None ∷ None ∷ None ∷ []
unfolding number_within value value_from same decimal enough decimal_in
within = refl
