-- FIPS 180-4, section 6.4.2: what one block of 128 bytes makes of a hash value.
use Rattle.std.specs.Prelude.{ℕ, zero, suc, ◌+◌, ◌*◌, List, [], ◌∷◌, ◌++◌, slice_index, slice_index_or}
use Rattle.stretch.specs.BigEndian.{big_endian}
use Rattle.sha512_block.specs.declared.Hash.{Hash}
use Rattle.sha512_block.specs.Words.{◌⊞◌, Ch, Maj, Σ₀, Σ₁, σ₀, σ₁}
use Rattle.sha512_block.specs.Constants.{K}

-- the first n words of a block
unfoldable pub block_words : ℕ → List ℕ → List ℕ
block_words zero b = []
block_words (suc n) b = block_words n b ++ (big_endian 8 b (n * 8) ∷ [])

-- step 1: the schedule's word 16 + t, from the words before it
abbrev pub scheduled : ℕ → List ℕ → ℕ
scheduled t w =
    σ₁ (slice_index w (t + 14)) ⊞ slice_index_or w (t + 9) 0 ⊞ σ₀ (slice_index w (t + 1)) ⊞ slice_index_or w t 0

-- the schedule after n such words after the block's sixteen
unfoldable pub schedule : ℕ → List ℕ → List ℕ
schedule zero w = w
schedule (suc t) w = schedule t w ++ (scheduled t (schedule t w) ∷ [])

-- step 3: one round, with its constant and its word
abbrev pub T₁ : Hash → ℕ → ℕ → ℕ
T₁ s k w = s.h ⊞ Σ₁ s.e ⊞ Ch s.e s.f s.g ⊞ k ⊞ w

abbrev pub T₂ : Hash → ℕ
T₂ s = Σ₀ s.a ⊞ Maj s.a s.b s.c

abbrev pub round : Hash → ℕ → ℕ → Hash
round s k w =
    record {
      a = T₁ s k w ⊞ T₂ s;
      b = s.a;
      c = s.b;
      d = s.c;
      e = s.d ⊞ T₁ s k w;
      f = s.e;
      g = s.f;
      h = s.g;
    }

-- round t of a schedule
unfoldable pub round_at : ℕ → List ℕ → Hash → Hash
round_at t w s = round s (slice_index K t) (slice_index w t)

-- the first t rounds
unfoldable pub rounds : ℕ → List ℕ → Hash → Hash
rounds zero w s = s
rounds (suc t) w s = round_at t w (rounds t w s)

-- step 4: the next hash value
abbrev pub chained : Hash → Hash → Hash
chained s t =
    record {
      a = s.a ⊞ t.a;
      b = s.b ⊞ t.b;
      c = s.c ⊞ t.c;
      d = s.d ⊞ t.d;
      e = s.e ⊞ t.e;
      f = s.f ⊞ t.f;
      g = s.g ⊞ t.g;
      h = s.h ⊞ t.h;
    }

-- all four steps
unfoldable pub compressed : Hash → List ℕ → Hash
compressed s b = chained s (rounds 80 (schedule 64 (block_words 16 b)) s)
