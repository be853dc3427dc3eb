use mathlib.Core.Path.{◌∙◌, ap}
use lib.ListN.{take}
use Rattle.stretch.proofs.BigEndian.{from-word}
use Rattle.stretch.proofs.Tail.{lent-tail}
use Rattle.stretch.proofs.big_endian.read_word.Goals as goal

pub returns : goal.returns
returns c =
    let cut = rw c.unwrap.ensures at c.first_chunk.ensures.cases in
    let bytes = c.args.b.now in
    c.from_be_bytes.ensures
    ∙ from-word c.unwrap.result.now bytes c.args.i (cut.same ∙ ap (take 8) (lent-tail bytes c.args.i))
