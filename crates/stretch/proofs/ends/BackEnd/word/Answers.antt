use mathlib.Core.Path.{refl}
use Rattle.stretch.proofs.Words.{word-behind}
use Rattle.stretch.proofs.ends.BackEnd.word.Goals as goal

pub returns : goal.returns
returns c =
    rw (c.as_rchunks.ensures.back_len, c.as_rchunks.ensures.back)
    (word-behind c.args.i _ c.args.s.now c.requires refl)
