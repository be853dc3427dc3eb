-- Each return is what the fields say there.
use Rattle.std.proofs.Common.{◌≡◌, ◌∙◌, sym, arith, None}
use Rattle.input_line.proofs.Fields.{reads_nothing, no_third, crowded-unread, three-fields}
use Rattle.input_line.proofs.read.read_fields.Goals as goal

pub returns-then-third-line : goal.returns-then-third-line
returns-then-third-line c =
    reads_nothing _ (no_third _ c.args.first c.args.second c.requires c.if-third-line.true)

pub returns-then-next-line : goal.returns-then-next-line
returns-then-next-line c =
    reads_nothing _ (crowded-unread _ c.args.first c.args.second c.requires
    (omega (arith, c.next.ensures)))

pub returns-in_err-start : goal.returns-in_err-start
returns-in_err-start c =
    let none : c.from_residual.result ≡ None = c.from_residual.ensures in
    rw none (reads_nothing _ (three-fields _ c.args.first c.args.second c.requires c.if-third-line.false
    c.next.result c.next.ensures c.if-next-line.false
    ∙ rw (sym c.read_decimal.ensures ∙ c.in_err-start.was)))

pub returns-in_err-end : goal.returns-in_err-end
returns-in_err-end c =
    let none : c.from_residual-in_err-end.result ≡ None = c.from_residual-in_err-end.ensures in
    rw none (reads_nothing _ (three-fields _ c.args.first c.args.second c.requires c.if-third-line.false
    c.next.result c.next.ensures c.if-next-line.false
    ∙ rw (
      sym c.read_decimal.ensures ∙ c.in_ok-start.was,
      sym c.read_decimal-2.ensures ∙ c.in_err-end.was,
    )))

pub returns : goal.returns
returns c =
    record {
      means = sym (three-fields _ c.args.first c.args.second
          c.requires c.if-third-line.false c.next.result
          c.next.ensures c.if-next-line.false
          ∙ rw (
            sym c.read_decimal.ensures ∙ c.in_ok-start.was,
            sym c.read_decimal-2.ensures ∙ c.in_ok-end.was,
            ← c.replacement_from-from.ensures.0,
          ));
      inside = c.replacement_from-from.ensures.1;
    }
