-- The loops of the block step, one turn each.
use Rattle.std.proofs.Common.{◌≡◌, ℕ, ◌+◌, ◌*◌, ◌<◌, List, length, take, set, sym, ap, ◌∙◌}
use Rattle.std.proofs.Common.{[], get_or, suc-add, add-one, arith, get_or-take, take-suc-set}
use Rattle.std.specs.Simd.{first_chunks}
use Rattle.stretch.specs.BigEndian.{big_endian}
use Rattle.stretch.proofs.Words.{chunk-at}
use Rattle.sha512_block.specs.declared.Hash.{Hash}
use Rattle.sha512_block.specs.Block.{block_words, scheduled, schedule, round_at, rounds, compressed}
use Rattle.sha512_block.specs.Blocks.{absorbed, block_size}

pub load-turn : (w b : List ℕ) (t v : ℕ) → t < length w → take t w ≡ block_words t b → v ≡ big_endian 8 b (t * 8)
    → take (t + 1) (set w t v) ≡ block_words (t + 1) b
unfolding block_words
load-turn w b t v h e q = rw (add-one, take-suc-set, e, q)

scheduled-take : (w : List ℕ) (t : ℕ) → scheduled t (take (t + 16) w) ≡ scheduled t w
scheduled-take w t =
    rw (
      get_or-take (t + 16) w (t + 14) 0 (omega arith),
      get_or-take (t + 16) w (t + 9) 0 (omega arith),
      get_or-take (t + 16) w (t + 1) 0 (omega arith),
      get_or-take (t + 16) w t 0 (omega arith),
    )

pub extend-turn : (w m : List ℕ) (t v : ℕ) → t + 16 < length w → take (t + 16) w ≡ schedule t m → v ≡ scheduled t w
    → take (t + 1 + 16) (set w (t + 16) v) ≡ schedule (t + 1) m
unfolding schedule
extend-turn w m t v h e q = rw (add-one, suc-add, take-suc-set, ← e, scheduled-take, q)

pub round-turn : (w : List ℕ) (s₀ s r : Hash) (t u : ℕ) → u ≡ t + 1 → s ≡ rounds t w s₀ → r ≡ round_at t w s
    → r ≡ rounds u w s₀
unfolding rounds
round-turn w s₀ s r t u n e q = q ∙ ap (round_at t w) e ∙ ap (λ (k : ℕ). rounds k w s₀) (sym (n ∙ add-one t))

pub absorb-turn : (s₀ s r : Hash) (m : List ℕ) (k i : ℕ) → i < k → s ≡ absorbed i s₀ m
    → r ≡ compressed s (get_or (first_chunks block_size k m) i []) → r ≡ absorbed (i + 1) s₀ m
unfolding absorbed
absorb-turn s₀ s r m k i h e q = rw (add-one, ← e, ← chunk-at block_size k i m h, q)
