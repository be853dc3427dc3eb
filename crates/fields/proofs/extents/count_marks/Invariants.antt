-- The loop's invariant: the marks counted are those before the index.
use Rattle.std.proofs.Common.{◌≡◌, ◌≤◌, ◌==◌, length, take, count_by}
use Rattle.fields.proofs.extents.count_marks.Given as goal

abbrev pub invariant-loop-b : goal.invariant-loop-b
invariant-loop-b l = (l.b-index ≤ length l.s) × (l.count ≡ count_by (λ b. b == l.byte) (take l.b-index l.s))
