-- One field, two, or the places where the first two end.
use Prim.Native.Nat.{◌+◌, ◌<◌}
use native.Mathlib.Omega.{arith}
use mathlib.Core.Path.{◌∙◌, sym}
use lib.ListN.{length}
use Rattle.fields.proofs.Cutting.{next_le}
use Rattle.input_line.proofs.Fields.{reads_nothing, one_field, two_fields, fields-cut}
use Rattle.input_line.proofs.read.read_line.Goals as goal

pub returns-then-first-line : goal.returns-then-first-line
returns-then-first-line c = reads_nothing _ (one_field _ (sym c.next-first.ensures ∙ c.if-first-line.true))

pub overflow_add-first : goal.overflow_add-first
overflow_add-first c =
    omega (arith, next_le 0x20 c.args.line.now 0 (omega arith), c.next-first.ensures)

pub returns-then-second-line : goal.returns-then-second-line
returns-then-second-line c = let l = c.args.line.now in
    reads_nothing l (two_fields l c.next-first.result c.next-first.ensures
    (omega (arith, next_le 0x20 l 0 (omega arith), c.next-first.ensures))
    (sym c.next-second.ensures ∙ c.if-second-line.true))

pub read_fields-requires : goal.read_fields-requires
read_fields-requires c = let l = c.args.line.now in
    let first : c.next-first.result < length l = omega (arith, next_le 0x20 l 0 (omega arith), c.next-first.ensures) in
    fields-cut l c.next-first.result c.next-second.result c.next-first.ensures c.next-second.ensures first
    (omega (arith, next_le 0x20 l (c.next-first.result + 1) (omega arith), c.next-second.ensures))
