-- The part that the text's reading points at, or nothing of a text that is refused.
use Rattle.std.proofs.Common.{rules}
use Rattle.text_reader.proofs.Promises.{sequence-points, points-within, points-hands}
use Rattle.text_reader.proofs.allele.sequence_of.Goals as goal

pub part_of-requires : goal.part_of-requires
part_of-requires c = points-within (sequence-points _ c.read_allele.ensures (search rules))

pub returns : goal.returns
returns c = points-hands _ _ (sequence-points _ c.read_allele.ensures (search rules)) c.part_of.ensures
