-- The piece from the place given is that of as many as are left from where the loop has come to.
use Rattle.std.proofs.Common.{◌≡◌, ◌-◌}
use Rattle.fields.specs.Cut.{piece_of}
use Rattle.fields.proofs.extents.nth_piece.Given as goal

abbrev pub invariant-loop : goal.invariant-loop
invariant-loop l = piece_of l.byte l.s l.from l.number ≡ piece_of l.byte l.s l.at (l.number - l.counter)
