-- After i turns the bytes of the first i words stand at the front.
use Rattle.std.proofs.Common.{◌≡◌, ℕ, List, length, take, replicate}
use Rattle.std.specs.List.{flat_map}
use Rattle.stretch.specs.Over.{over}
use Rattle.sha512_padding.specs.Padding.{bytes_of}
use Rattle.sha512_padding.proofs.last_block.hash_bytes.Given as goal

abbrev pub zeros : List ℕ
zeros = replicate 64 0

abbrev pub invariant-loop-i : goal.invariant-loop-i
invariant-loop-i l = record {
  long : length l.out ≡ 64;
  so_far : l.out ≡ over zeros 0 (flat_map (bytes_of 8) (take l.i l.word-items));
}
