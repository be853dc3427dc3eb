-- A whole input, line by line: what the steps write, one after another, is the output.
use Prim.Native.Nat.{ℕ, ◌+◌, ◌<◌, ◌≤◌}
use native.Mathlib.Nat.{sub-zero}
use native.Mathlib.Omega.{arith}
use mathlib.Core.Path.{◌≡◌, ◌∙◌, sym, ap}
use mathlib.Core.List.{List, [], ◌∷◌, ◌++◌}
use lib.Dec.{ltb}
use lib.ListN.{length, take, drop, drop_of_length-le}
use lib.Seq.{drop-cons}
use borrow.Author.Tests.{ltb-true, ltb-false}
use Rattle.stretch.specs.Over.{Wrote}
use Rattle.stretch.specs.Part.{part}
use Rattle.stretch.proofs.Cases.{by_cases}
use Rattle.stretch.proofs.Tail.{lent-tail}
use Rattle.stretch.proofs.Wrote.{wrote-front}
use Rattle.stretch.proofs.Outside.{first_outside-le}
use Rattle.fields.specs.Cut.{parted, other, first_of, next_of}
use Rattle.input_line.specs.Meaning.{line_feed}
use Rattle.fields.proofs.Cutting.{next_le, parted-cut, parted-one, parted-next, parted-last}
use Rattle.answer_line.specs.Answers.{answer_line, Room}
use Rattle.answer_line.proofs.Laying.{part-short}
use Rattle.lines.specs.declared.Step.{Step}
use Rattle.lines.specs.Output.{ended, answers_to, output_of, output, input_limit, printed}
use Rattle.lines.specs.Steps.{reference_of, line_at, rest, Starts, Ready, Steps, Pieces, none, one, in_a_row}

-- what is printed for the lines from a place on
abbrev answers_from : List ℕ → List ℕ → ℕ → List ℕ
answers_from r input from = answers_to r (ended (parted line_feed (drop from input)))

-- a line before others is a line, empty or not
ended-on : (p s : List ℕ) → ended (p ∷ parted line_feed s) ≡ p ∷ ended (parted line_feed s)
ended-on p s =
    by_cases (ltb (first_of line_feed s) (length s))
    (λ e. rw (parted-cut line_feed s (ltb-true (first_of line_feed s) (length s) e)))
    (λ e. rw (parted-one line_feed s
    (omega (arith, ltb-false (first_of line_feed s) (length s) e, first_outside-le (other line_feed) s))))

answers-end : (r input : List ℕ) (from : ℕ) → length input ≤ from → answers_from r input from ≡ []
unfolding parted
answers-end r input from h = rw (drop_of_length-le input {i = from} h)

output-first : (input : List ℕ)
    → output input ≡ answers_from (part input 0 (next_of line_feed input 0)) input (next_of line_feed input 0 + 1)
unfolding output
output-first input =
    by_cases (ltb (next_of line_feed input 0) (length input))
    (λ e. ap output_of (parted-next line_feed input 0 (ltb-true (next_of line_feed input 0) (length input) e)))
    (λ e. let l : length input ≤ next_of line_feed input 0 = ltb-false (next_of line_feed input 0) (length input) e in
    ap output_of (parted-last line_feed input 0 (omega arith) (omega (arith, next_le line_feed input 0 (omega arith))))
    ∙ sym (answers-end (part input 0 (next_of line_feed input 0)) input (next_of line_feed input 0 + 1) (omega arith)))

answers-line : (r input : List ℕ) (from : ℕ) → from < length input
    → answers_from r input from ≡ answer_line r (part input from (next_of line_feed input from))
    ++ answers_from r input (next_of line_feed input from + 1)
answers-line r input from h =
    by_cases (ltb (next_of line_feed input from) (length input))
    (λ e. rw (parted-next line_feed input from (ltb-true (next_of line_feed input from) (length input) e))
    (ap (answers_to r) (ended-on (part input from (next_of line_feed input from))
    (drop (next_of line_feed input from + 1) input))))
    (λ e. last (omega (
      arith,
      ltb-false (next_of line_feed input from) (length input) e,
      next_le line_feed input from (omega arith),
    )))
  where
    last : next_of line_feed input from ≡ length input
        → answers_from r input from ≡ answer_line r (part input from (next_of line_feed input from))
        ++ answers_from r input (next_of line_feed input from + 1)
    last e =
        rw (
          parted-last line_feed input from (omega arith) e,
          answers-end r input (next_of line_feed input from + 1) (omega arith),
          e,
          lent-tail input from,
          drop-cons input from 0 h,
        )

module _ (input : List ℕ) where
  pub first-starts : (to : Step) → to.reference ≡ next_of line_feed input 0 → to.next ≡ to.reference + 1
      → to.written ≡ 0 → Starts input to
  first-starts to e n w =
      record {
        reference = e;
        next = n;
        written = w;
        whole = output-first input ∙ rw (n, e);
      }

  -- the reference and the line lie apart in the input
  pub ready-room : (from : Step) (out : List ℕ) (end : ℕ) → end ≡ next_of line_feed input from.next
      → Ready input from out
      → Room (reference_of input from) (part input from.next end) out
  ready-room from out end e r =
      omega (
        arith,
        part-short input 0 from.reference (omega arith),
        part-short input from.next end (omega arith),
        next_le line_feed input from.next (omega (arith, r.left)),
        r.behind,
        r.room,
      )

  pub next-steps : (from to : Step) (out left : List ℕ) (end : ℕ) → from.next < length input
      → end ≡ next_of line_feed input from.next
      → to.reference ≡ from.reference → to.next ≡ end + 1
      → Wrote out 0 (answer_line (reference_of input from) (part input from.next end)) left to.written
      → Steps input from out to left
  next-steps from to out left end h f e n w =
      let line : Wrote out 0 (answer_line (reference_of input from) (line_at input from)) left to.written = rw f at w in
      let next : to.next ≡ next_of line_feed input from.next + 1 = rw (← f) n in
      let front : take to.written left ≡ answer_line (reference_of input from) (line_at input from)
      = rw (sub-zero to.written) at (wrote-front _ _ left to.written line) in
      record {
        reference = e;
        next = next;
        line = line;
        whole = answers-line (reference_of input from) input from.next h ∙ rw (front, next, e);
      }

  -- the pieces from a step on are what is to be printed there
  pub pieces-rest : {s : Step} {ps : List (List ℕ)} → Pieces input s ps → in_a_row ps ≡ rest input s
  pieces-rest (none s h) = sym (answers-end (reference_of input s) input s.next h)
  pieces-rest (one s t out left qs w p) = ap (λ (x : List ℕ). take t.written left ++ x) (pieces-rest p)
      ∙ sym w.whole

  pub pieces-output : (s : Step) (ps : List (List ℕ)) → Starts input s → Pieces input s ps → in_a_row ps ≡ output input
  pieces-output s ps b p = pieces-rest p ∙ sym b.whole

-- all that the program prints: it steps through the input up to its limit
pub pieces-printed : (input : List ℕ) (s : Step) (ps : List (List ℕ)) → Starts (take input_limit input) s
    → Pieces (take input_limit input) s ps
    → in_a_row ps ≡ printed input
unfolding printed
pieces-printed input s ps b p = pieces-output (take input_limit input) s ps b p
