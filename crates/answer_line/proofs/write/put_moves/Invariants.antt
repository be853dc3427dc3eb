-- The numbers gone over so far stand in a row, each in at most 21 bytes.
use Rattle.std.proofs.Common.{◌≡◌, ◌+◌, ◌*◌, ◌≤◌, length, take}
use Rattle.stretch.specs.Over.{Wrote}
use Rattle.answer_line.proofs.Laying.{in_row}
use Rattle.answer_line.proofs.write.put_moves.Given as goal

abbrev pub invariant-loop-number : goal.invariant-loop-number
invariant-loop-number l =
    Wrote l.initial.out l.at (in_row (take l.number-index l.number-items)) l.out l.next
    × (l.next ≤ l.at + 21 * l.number-index)
    × (length l.out ≡ length l.initial.out)
