-- The first foreign byte of what is left stands within the stretch.
use Rattle.std.proofs.Common.{◌≡◌, ◌∙◌, drop, ap, arith}
use Rattle.stretch.proofs.Tail.{lent-tail}
use Rattle.alphabets.specs.Alphabets.{foreign}
use Rattle.alphabets.proofs.Foreign.{foreign-le}
use Rattle.alphabets.proofs.residues.first_foreign.Goals as goal

pub overflow_add-result : goal.overflow_add-result
overflow_add-result c =
    let s = c.args.s.now in
    let clean = c.clean_blocks-clean in
    let rest : c.first_outside.result ≡ foreign (drop clean.result s)
    = c.first_outside.ensures ∙ ap foreign (lent-tail s clean.result) in
    omega (arith, rest, clean.ensures.s_value, foreign-le s)
