-- After t turns the first t + 16 words are the schedule so far.
use Rattle.std.proofs.Common.{◌≡◌, ◌+◌, length, take}
use Rattle.sha512_block.specs.Block.{schedule}
use Rattle.sha512_block.proofs.block.extend.Given as goal

abbrev pub invariant-loop-t : goal.invariant-loop-t
invariant-loop-t l = record {
  long : length l.w ≡ 80;
  so_far : take (l.t + 16) l.w ≡ schedule l.t (take 16 l.initial.w);
}
