-- How far the replacement, as read, agrees with the reference tells the form.
use mathlib.Core.Path.{◌∙◌}
use mathlib.Core.List.{map}
use lib.ListN.{length-map}
use Rattle.stretch.specs.Common.{lcs}
use Rattle.normal_form.proofs.Spot.{spot-agrees, spot-stretches}
use Rattle.normal_form.proofs.engine.normalise_read.Goals as goal

pub form_by_agreement-requires : goal.form_by_agreement-requires
unfolding lcs
form_by_agreement-requires g c =
    let reads = g.R.Reading.reads in
    let x = c.args.replacement.now in
    rw (length-map x reads) at
    (spot-agrees c.args.reference.now c.args.start c.args.end (map reads x) c.requires _ _
    c.agreed-ahead.ensures c.agreed-behind.ensures)

pub returns : goal.returns
unfolding lcs
returns g c =
    let reads = g.R.Reading.reads in
    let x = c.args.replacement.now in
    c.form_by_agreement.ensures
    ∙ (rw (length-map x reads) at
    (spot-stretches c.args.reference.now c.args.start c.args.end (map reads x) c.requires _ _
    c.agreed-ahead.ensures c.agreed-behind.ensures))
