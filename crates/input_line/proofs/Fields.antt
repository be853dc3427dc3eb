-- What a line says, by where its fields end.
use Prim.Native.Nat.{ℕ, suc, ◌+◌, ◌<◌, ◌≤◌}
use native.Mathlib.Omega.{arith}
use mathlib.Core.Path.{◌≡◌, ◌∙◌, sym, ap}
use mathlib.Core.List.{List, [], ◌∷◌}
use lib.ListN.{length, get_or, drop, length-drop, drop_of_length-le}
use lib.Seq.{drop-cons}
use lib.Dec.{ltb}
use borrow.Author.Tests.{ltb-true, ltb-false, ne_eqb}
use Rattle.stretch.proofs.Cases.{by_cases}
use Rattle.stretch.specs.Ascii.{ascii}
use Rattle.stretch.specs.Part.{part}
use Rattle.stretch.specs.Same.{same}
use Rattle.stretch.proofs.Same.{same-lengths}
use Rattle.stretch.proofs.Outside.{first_outside-le}
use Rattle.decimals.specs.Number.{number_of}
use Rattle.fields.specs.Cut.{parted, other, first_of, next_of}
use Rattle.fields.proofs.Cutting.{next_le, parted-cut, parted-one, parted-next, parted-last}
use Rattle.std.specs.Prelude.{None}
use Rattle.input_line.specs.Meaning.{unread, space, replacement_of, numbered, meaning_of_fields, meaning_of}
use Rattle.input_line.specs.Meaning.{ReadsLine}
use Rattle.input_line.specs.Inner.{Fields}

module _ (line : List ℕ) where
  pub reads_nothing : meaning_of line ≡ unread → ReadsLine line None
  reads_nothing e = record { means = sym e; inside = omega arith }

  -- one field, and two
  pub one_field : next_of space line 0 ≡ length line → meaning_of line ≡ unread
  unfolding meaning_of
  one_field e = ap meaning_of_fields (parted-last space line 0 (omega arith) e)

  first_field : (first : ℕ) → first ≡ next_of space line 0 → first < length line
      → parted space line ≡ part line 0 first ∷ parted space (drop (first + 1) line)
  first_field first e h = parted-next space line 0 (omega arith) ∙ rw (← e)

  pub two_fields : (first : ℕ) → first ≡ next_of space line 0 → first < length line
      → next_of space line (first + 1) ≡ length line → meaning_of line ≡ unread
  unfolding meaning_of
  two_fields first e h l = rw (first_field first e h, parted-last space line (first + 1) (omega arith) l)

  pub fields-cut : (first second : ℕ) → first ≡ next_of space line 0 → second ≡ next_of space line (first + 1)
      → first < length line → second < length line → Fields line first second
  fields-cut first second e g h l =
      record {
        apart = omega arith;
        room = l;
        pieces = first_field first e h ∙ rw (parted-next space line (first + 1) (omega arith), ← g);
      }

  -- some pieces are left
  many : (a b x : List ℕ) (i : ℕ) → meaning_of_fields (a ∷ b ∷ x ∷ parted space (drop i line)) ≡ unread
  many a b x i =
      by_cases (ltb (first_of space (drop i line)) (length (drop i line)))
      (λ e. rw (parted-cut space (drop i line) (ltb-true (first_of space (drop i line)) (length (drop i line)) e)))
      (λ e. rw (parted-one space (drop i line)
      (omega (
        arith,
        ltb-false (first_of space (drop i line)) (length (drop i line)) e,
        first_outside-le (other space) (drop i line),
      ))))

  module _ (first second : ℕ) (c : Fields line first second) where
    -- an empty third field, more than three, and three
    pub no_third : second + 1 ≡ length line → meaning_of line ≡ unread
    unfolding meaning_of parted
    no_third e = rw (c.pieces, drop_of_length-le line {i = second + 1} (omega arith))

    pub crowded-unread : next_of space line (second + 1) < length line → meaning_of line ≡ unread
    unfolding meaning_of
    crowded-unread l = rw (c.pieces, parted-next space line (second + 1) l)
        (many _ _ _ (next_of space line (second + 1) + 1))

    pub three-fields : (second + 1 ≡ length line → ⊥) → (n : ℕ) → n ≡ next_of space line (second + 1) → length line ≤ n
        → meaning_of line ≡ numbered (number_of (part line 0 first)) (number_of (part line (first + 1) second))
        (replacement_of (drop (second + 1) line))
    unfolding meaning_of
    three-fields f n e l = let h : second + 1 < length line = omega (arith, c.room) in
        rw (
          c.pieces,
          parted-last space line (second + 1) (omega arith)
              (omega (arith, next_le space line (second + 1) (omega arith))),
          drop-cons line (second + 1) 0 h,
        )

-- a full stop alone, another first byte, and more bytes
pub stop-alone : (line : List ℕ) (i : ℕ) → i + 1 ≡ length line → get_or line i 0 ≡ 0x2E
    → replacement_of (drop i line) ≡ []
unfolding replacement_of same
stop-alone line i e h = rw (drop-cons line i 0 (omega arith), h, drop_of_length-le line {i = suc i} (omega arith))

pub no_stop : (line : List ℕ) (i : ℕ) → i < length line → (get_or line i 0 ≡ 0x2E → ⊥)
    → replacement_of (drop i line) ≡ drop i line
unfolding replacement_of same
no_stop line i l f = rw (drop-cons line i 0 l, ne_eqb _ _ f)

pub replacement_of-longer : (line : List ℕ) (i : ℕ) → i + 1 < length line → replacement_of (drop i line) ≡ drop i line
unfolding replacement_of
replacement_of-longer line i l = rw (same-lengths (drop i line) (ascii ".") (λ e. omega (arith, length-drop i line)))
