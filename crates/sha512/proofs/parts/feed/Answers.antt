-- The three ways in which a part is taken, each by its law.
use Rattle.std.proofs.Common.{◌≡◌, ◌-◌, ◌%◌, length, take, sym, ◌∙◌, refl, arith, length-append, length-take-le, rules}
use borrow.Author.Tests.{eqb-true}
use Rattle.sha512_block.specs.Blocks.{block_size}
use Rattle.sha512.proofs.Join.{fed-aligned, fed-short, fed-past}
use Rattle.sha512.specs.Feeding.{waiting}
use Rattle.sha512.proofs.parts.feed.Goals as goal

pub returns-then-is_empty : goal.returns-then-is_empty
unfolding waiting
returns-then-is_empty c =
    c.feed_aligned.ensures ∙ fed-aligned _ _ (eqb-true _ 0 (sym c.is_empty.ensures ∙ c.if-is_empty.true))

pub returns-in-Some : goal.returns-in-Some
unfolding waiting
returns-in-Some c =
    let s = c.args.state in
    let w = take (s.total % block_size) s.block in
    let k = block_size - length w in
    let long : length s.block ≡ block_size = search rules in
    let cut = c.in-Some.ensures.cases in
    let waits : length w ≡ s.total % block_size = length-take-le _ _ (omega arith) in
    let filling : length (take k c.args.part.now) ≡ k = length-take-le _ _ (omega arith) in
    c.feed_aligned-in-Some.ensures
    ∙ rw (cut.2, c.absorb.ensures, c.fill-whole.ensures, cut.1)
    (fed-past s c.args.part.now k (length-append w (take k c.args.part.now) ∙ omega arith))

pub returns-in-None : goal.returns-in-None
unfolding waiting
returns-in-None c = fed-short _ _ _ _ (rw length-append (omega (arith, c.in-None.ensures.cases))) c.fill.ensures refl
