-- The loop's invariant: it has passed residues alone.
use Rattle.std.specs.Slice.Iter.{chunks_exact_rest}
use Rattle.alphabets.specs.Alphabets.{residue}
use Rattle.alphabets.proofs.Asked.{Passed}
use Rattle.alphabets.proofs.residues.whole_blocks.Given as goal

abbrev pub invariant-loop-block : goal.invariant-loop-block
invariant-loop-block l = record {
  can_next : (goal.iterator-loop-block).can_next l.block-iterator;
  is_finite : (goal.iterator-loop-block).is_finite l.block-iterator;
  passed : Passed residue l.s (chunks_exact_rest l.block-iterator) l.clean;
}
