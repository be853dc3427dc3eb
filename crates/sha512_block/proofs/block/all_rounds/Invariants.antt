-- Four rounds to a turn: t goes by fours, and the state is that of t rounds.
use Rattle.std.proofs.Common.{◌≡◌, ◌%◌, ◌≤◌}
use Rattle.sha512_block.specs.Block.{rounds}
use Rattle.sha512_block.proofs.block.all_rounds.Given as goal

abbrev pub invariant-loop-t : goal.invariant-loop-t
invariant-loop-t l = record { within : l.t ≤ 80; by_fours : l.t % 4 ≡ 0; so_far : l.s ≡ rounds l.t l.w l.initial.s }
