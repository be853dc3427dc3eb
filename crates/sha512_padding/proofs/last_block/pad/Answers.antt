-- Over zeros the head, its mark and the count of bits make the padded message.
use Rattle.std.proofs.Common.{◌≡◌, ℕ, ◌*◌, ◌∙◌, length, refl, ap, arith, length-set}
use Rattle.sha512_padding.specs.Padding.{bytes_of}
use Rattle.sha512_padding.proofs.Numbers.{high_first}
use Rattle.sha512_padding.proofs.Padding.{zeros-long, pad-laid}
use Rattle.sha512_padding.proofs.last_block.pad.Goals as goal

pub overflow_sub-length_at : goal.overflow_sub-length_at
overflow_sub-length_at c = omega (arith, zeros-long _ _ _ c.requires.out_value)

pub copy-requires : goal.copy-requires
copy-requires c = omega (arith, zeros-long _ _ _ c.requires.out_value)

pub bounds-out-head : goal.bounds-out-head
bounds-out-head c = omega (arith, zeros-long _ _ _ c.requires.out_value)

pub copy_at-requires : goal.copy_at-requires
copy_at-requires c = let bits : length c.to_be_bytes.result ≡ 16 = ap length c.to_be_bytes.ensures in
    omega (arith, zeros-long _ _ _ c.requires.out_value, length-set {A = ℕ})

pub returns : goal.returns
returns c =
    let bits : c.to_be_bytes.result ≡ bytes_of 16 (c.args.total * 8) =
    c.to_be_bytes.ensures ∙ high_first 16 _ ∙ ap (λ (n : ℕ). bytes_of 16 (n * 8)) c.from-bits.ensures in
    rw (c.copy_at.ensures, bits, c.copy.ensures)
    (pad-laid c.args.out.now c.args.head.now c.args.total c.requires.out_value _ refl)
