-- The three pieces are laid as one text, at the front of a tail that comes back.
use native.Mathlib.Omega.{arith}
use mathlib.Core.Path.{◌∙◌, ap}
use mathlib.Core.List.{map}
use borrow.Author.Tests.{le-ltb}
use Rattle.stretch.proofs.Over.{over-tail-front}
use Rattle.stretch.proofs.Wrote.{over-wrote}
use Rattle.refusal.proofs.Sum.{tail-room}
use Rattle.normal_form.proofs.Joined.{pieces-joined, length-joined}
use Rattle.normal_form_calls.proofs.Read.{read-part, read-fits}
use Rattle.normal_form_calls.proofs.call.write_read.Goals as goal

pub joined_three-requires : goal.joined_three-requires
joined_three-requires g c = read-fits g.R.Reading.reads _ _ _ c.requires.fits

pub put_three_read-long-requires : goal.put_three_read-long-requires
put_three_read-long-requires g c =
    omega (
      arith,
      c.joined_three.ensures.text_length,
      tail-room c.args.out.now c.args.at _ (le-ltb _ _ c.requires.w_in_bounds),
    )

pub returns : goal.returns
returns g c =
    let reads = g.R.Reading.reads in
    let w = c.args.w in
    let three = c.joined_three.ensures in
    let kept = ap (map reads) three.kept ∙ read-part reads c.args.replacement.now w.from w.to in
    let whole = rw (pieces-joined _ _ w three.before kept three.after) at c.put_three_read-long.ensures in
    let long = length-joined _ _ w c.requires.fits in
    over-wrote c.args.out.now c.args.at _ _ _ (omega (arith, c.requires.w_in_bounds)) (omega (arith, whole.next))
    (rw whole.laid (over-tail-front c.args.out.now c.args.at _ (omega (arith, c.requires.w_in_bounds))))
