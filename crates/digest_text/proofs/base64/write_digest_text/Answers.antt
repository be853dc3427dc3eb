-- 24 bytes are eight groups, and each turn writes the characters of one.
use Rattle.std.proofs.Common.{◌≡◌, ◌/◌, length, take, sym, ap, arith, length-take, length-take-le}
use Rattle.std.specs.Simd.{first_chunks}
use Rattle.stretch.proofs.Over.{over-nil}
use Rattle.digest_text.specs.Base64.{encoded, group}
use Rattle.digest_text.specs.Digest.{digest_text}
use Rattle.digest_text.proofs.Encoding.{byte_of, encode-turn}
use Rattle.digest_text.proofs.base64.write_digest_text.Goals as goal

pub returns : goal.returns
unfolding digest_text
returns c =
    let d = c.args.digest.now in
    let count : length c.as_chunks.result.0.now ≡ length (take 24 d) / 3 = c.as_chunks.ensures.front_len in
    let e : c.loop-i.i ≡ 8 = omega (arith, length-take-le 24 d c.requires.in_bounds) in
    rw e at c.loop-i.invariant

pub loop-i-init : goal.loop-i-init
unfolding encoded
loop-i-init c = sym (over-nil _ 0)

pub copy_at-requires : goal.copy_at-requires
copy_at-requires c =
    let d = c.args.digest.now in
    let four : length c.group_of.result ≡ 4 = ap length c.group_of.ensures in
    let count : length c.as_chunks.result.0.now ≡ length (take 24 d) / 3 = c.as_chunks.ensures.front_len in
    omega (arith, length-take 24 d)

pub loop-i-preserved : goal.loop-i-preserved
loop-i-preserved c =
    let d = c.args.digest.now in
    let i = c.loop-i.i in
    let cut = c.as_chunks.ensures in
    let count : length c.as_chunks.result.0.now ≡ length (take 24 d) / 3 = cut.front_len in
    let groups : c.as_chunks.result.0.now ≡ first_chunks 3 (length (take 24 d) / 3) (take 24 d) = cut.front in
    let written : c.group_of.result ≡ group (byte_of 24 d i 0) (byte_of 24 d i 1) (byte_of 24 d i 2) =
    rw groups at c.group_of.ensures in
    rw (c.copy_at.ensures, c.loop-i.invariant, written) (encode-turn _ d 24 i (omega arith))
