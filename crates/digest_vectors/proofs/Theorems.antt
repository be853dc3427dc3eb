-- Published digests as theorems: the definitions, computed. FIPS 180-4's "abc" is one block, its longer message two;
-- the digest of ACGT is document 01's, and that of nothing is of the published SHA-512 of the empty message.
use mathlib.Core.Path.{◌≡◌, refl}
use mathlib.Core.List.{[]}
use Rattle.stretch.specs.Ascii.{ascii}
use Rattle.stretch.specs.BigEndian.{big_endian}
use Rattle.sha512_block.specs.Constants.{K}
use Rattle.sha512_block.specs.Block.{block_words, schedule, round_at, rounds, compressed}
use Rattle.sha512_block.specs.Blocks.{absorbed, hashed}
use Rattle.sha512_padding.specs.Padding.{bytes_of, padding, four_words, hash_bytes}
use Rattle.sha512.specs.Message.{sha512}
use Rattle.digest_text.specs.Base64.{character, encoded}
use Rattle.digest_text.specs.Digest.{digest_text, sha512t24u}

pub one_block :
    sha512 (ascii "abc")
    ≡ bytes_of 64 0xddaf35a193617aba_cc417349ae204131_12e6fa4e89a97ea2_0a9eeee64b55d39a_2192992a274fc1a8_36ba3c23a3feebbd_454d4423643ce80e_2a9ac94fa54ca49f
unfolding K big_endian block_words schedule round_at rounds compressed bytes_of padding absorbed hashed four_words
    hash_bytes
    sha512
one_block = refl

pub two_blocks :
    sha512 (ascii "abcdefghbcdefghicdefghijdefghijkefghijklfghijklmghijklmnhijklmnoijklmnopjklmnopqklmnopqrlmnopqrsmnopqrstnopqrstu")
    ≡ bytes_of 64 0x8e959b75dae313da_8cf4f72814fc143f_8f7779c6eb9f7fa1_7299aeadb6889018_501d289e4900f7e4_331b99dec4b5433a_c7d329eeb6dd2654_5e96e55b874be909
unfolding K big_endian block_words schedule round_at rounds compressed bytes_of padding absorbed hashed four_words
    hash_bytes
    sha512
two_blocks = refl

pub sha512t24u-acgt : sha512t24u (ascii "ACGT") ≡ ascii "aKF498dAxcJAqme6QYQ7EZ07-fiw8Kw2"
unfolding K big_endian block_words schedule round_at rounds compressed bytes_of padding absorbed hashed four_words
    hash_bytes
    sha512 character encoded digest_text sha512t24u
sha512t24u-acgt = refl

pub sha512t24u-empty : sha512t24u [] ≡ ascii "z4PhNX7vuL3xVChQ1m2AB9Yg5AULVxXc"
unfolding K big_endian block_words schedule round_at rounds compressed bytes_of padding absorbed hashed four_words
    hash_bytes
    sha512 character encoded digest_text sha512t24u
sha512t24u-empty = refl
