-- Document 01, "Turned away": the grounds 1, 2, 3 and 6, which calls share. Those on bytes stand with their alphabets
-- in `alphabets`, those on an image in `changes`.
use Rattle.std.specs.Prelude.{ℕ, ◌+◌, ltb}
use Rattle.refusal.specs.declared.Reason.TheVariants.{OverLimit, StartAboveEnd, EndAboveReference, OutputTooShort}
use Rattle.refusal.specs.Limits.{reference_limit, replacement_limit}
use Rattle.refusal.specs.Verdict.{Ground, ground}

-- 1: a reference of n residues, or a running total, over its limit
abbrev pub reference_over_limit : ℕ → Ground
reference_over_limit n = ground (ltb reference_limit n) OverLimit 0

-- 1: a replacement of so many residues over its limit
abbrev pub replacement_over_limit : ℕ → Ground
replacement_over_limit given = ground (ltb replacement_limit given) OverLimit 1

-- 2
abbrev pub start_above_end : ℕ → ℕ → Ground
start_above_end start end = ground (ltb end start) StartAboveEnd 0

-- 3: on a reference of n residues
abbrev pub end_above_reference : ℕ → ℕ → Ground
end_above_reference n end = ground (ltb n end) EndAboveReference n

-- 6: fewer than n bytes from place on, or a place past the end of a buffer of that many bytes of room
abbrev pub output_too_short : ℕ → ℕ → ℕ → Ground
output_too_short room place n = ground (ltb room (place + n)) OutputTooShort n
