-- The replacement lies in the image.
use native.Mathlib.Omega.{arith}
use Rattle.image.specs.Fields.{replacement_of}
use Rattle.lookup.proofs.Held.{replacement-inside}
use Rattle.lookup.proofs.find.holds_replacement.Goals as goal

pub slice_bounds-is_text-end : goal.slice_bounds-is_text-end
slice_bounds-is_text-end c =
    let inside = replacement-inside c.args.image.now c.requires.image_value c.args.number c.requires.le_number in
    omega (
      arith,
      c.read_field-length.ensures.0,
      c.read_field-offset.ensures.0,
      c.read_number.ensures.0,
      inside,
    )

pub returns : goal.returns
unfolding replacement_of
returns c =
    rw (← c.read_field-length.ensures.0, ← c.read_field-offset.ensures.0, ← c.read_number.ensures.0) c.is_text.ensures
