-- The words' bytes, one word after another, fill the array.
use Rattle.std.proofs.Common.{◌≡◌, ◌∙◌, ℕ, List, [], ◌∷◌, get_or, sym, refl, arith}
use Rattle.stretch.proofs.Over.{over-nil, length_over}
use Rattle.sha512_padding.specs.Padding.{bytes_of}
use Rattle.sha512_padding.proofs.Numbers.{high_first, length-bytes_of, word-turn, words-all}
use Rattle.sha512_padding.proofs.last_block.hash_bytes.Invariants.{zeros}
use Rattle.sha512_padding.proofs.last_block.hash_bytes.Goals as goal

pub loop-i-init : goal.loop-i-init
loop-i-init c = record { long = refl; so_far = sym (over-nil zeros 0) }

pub loop-i-preserved : goal.loop-i-preserved
loop-i-preserved c =
    let s = c.args.s in
    let i = c.loop-i.i in
    let words : List ℕ = s.a ∷ s.b ∷ s.c ∷ s.d ∷ s.e ∷ s.f ∷ s.g ∷ s.h ∷ [] in
    let bytes : c.to_be_bytes.result ≡ bytes_of 8 (get_or words i 0) = c.to_be_bytes.ensures ∙ high_first 8 _ in
    let long = c.loop-i.invariant.long in
    rw (c.copy_at.ensures, bytes)
    (record {
      long = length_over _ _ _ (omega (arith, length-bytes_of 8 (get_or words i 0))) ∙ long;
      so_far = rw c.loop-i.invariant.so_far (word-turn zeros words i (omega arith));
    })

pub returns : goal.returns
returns c =
    let e : c.loop-i.i ≡ 8 = omega arith in
    rw e at c.loop-i.invariant.so_far ∙ words-all zeros c.args.s refl
