-- Four writes, each by what was read before them.
use Prim.Native.Nat.{ℕ, ◌+◌}
use native.Mathlib.Omega.{arith}
use mathlib.Core.Path.{sym, ap}
use Rattle.stretch.specs.Three.{whole}
use Rattle.stretch.proofs.Join.{length_three}
use Rattle.image.proofs.Arranged.{status-inside}
use Rattle.changes.proofs.Rows.{numbered-as}
use Rattle.changes.proofs.write.number_form.Goals as goal

pub put_record-requires : goal.put_record-requires
put_record-requires c =
    let next = c.read_number-number.result + 1 in
    let read = c.read_number-number.ensures.0 in
    let inside = status-inside _ c.requires.header next (omega arith) (omega (arith, read, c.requires.image_bound.0)) in
    omega (arith, c.record_at.ensures.0, inside)

pub journal-requires : goal.journal-requires
journal-requires c =
    let h = c.requires.header in
    let p = c.requires.image_bound in
    let at = c.read_number-at.ensures.0 in
    let count = c.read_number-count.ensures.0 in (
      omega (arith, h.after-header, at),
      omega (arith, p.2, h.journal-limit, count),
      omega (
        arith,
        p.2,
        h.pool,
        h.whole,
        at,
        count,
        c.put_counts.auto.image,
        c.put_replacement.auto.image,
        c.put_record.auto.image,
      ),
    )

pub returns : goal.returns
returns c =
    rw (
      c.journal.ensures,
      c.put_counts.ensures,
      c.put_replacement.ensures,
      c.put_record.ensures,
    )
    (numbered-as c.args.image.now c.args.form (whole c.args.text) _ _ _ _ _ _
    (sym (length_three _ _ _ _ c.requires.length_value))
    (ap (λ (n : ℕ). n + 1) c.read_number-number.ensures.0)
    c.read_number-used.ensures.0
    c.read_number-pool.ensures.0
    c.read_number-at.ensures.0 c.read_number-count.ensures.0
    c.record_at.ensures.0)
