-- The padding, laid over zeros.
use Prim.Native.Nat.{ℕ, ◌+◌, ◌-◌, ◌*◌, ◌%◌}
use native.Mathlib.Omega.{arith}
use mathlib.Core.Path.{◌≡◌, ap, ◌∙◌}
use mathlib.Core.List.{List, [], ◌∷◌, ◌++◌, append_assoc}
use lib.ListN.{length, set, replicate, length-append, length-replicate, replicate-append-replicate}
use Rattle.std.proofs.lemmas.List.{drop-replicate}
use Rattle.sha512_block.specs.Blocks.{block_size}
use Rattle.stretch.specs.Over.{over}
use Rattle.stretch.proofs.Over.{over-front, over-next, over-end, set-over, length_over}
use Rattle.sha512_padding.specs.Padding.{bytes_of, padding}
use Rattle.sha512_padding.proofs.Numbers.{length-bytes_of}

-- zeros with one stretch at their front and another at their end
over_zeros : (h t : List ℕ) (n k p : ℕ) → n ≡ length h + (k + length t) → p ≡ length h + k
    → over (over (replicate n 0) 0 h) p t ≡ h ++ (replicate k 0 ++ t)
over_zeros h t n k p e q =
    let d : n - length h ≡ k + length t = omega arith in
    let f : over (replicate n 0) 0 h ≡ (h ++ replicate k 0) ++ replicate (length t) 0 =
    over-front (replicate n 0) h
    ∙ rw (
      drop-replicate {X = ℕ} (length h) n 0,
      d,
      ← replicate-append-replicate {A = ℕ} k (length t) 0,
      append_assoc,
    ) in
    rw (
      f,
      over-end (h ++ replicate k 0) (replicate (length t) 0) t p (simp (length-append, length-replicate) q)
          (length-replicate (length t) 0),
      append_assoc,
    )

pub length-padding : (n : ℕ) → length (padding n) ≡ 17 + (239 - n % block_size) % block_size
unfolding padding
length-padding n = simp (length-append, length-replicate, length-bytes_of) (omega arith)

-- as many zeros as bytes that wait and their padding
pub zeros-for : (head : List ℕ) (n k : ℕ) → length head ≡ n % block_size
    → k ≡ n % block_size + (17 + (239 - n % block_size) % block_size)
    → replicate {A = ℕ} k 0 ≡ replicate (length head + length (padding n)) 0
zeros-for head n k e q = rw (length-padding, e, q)

-- the zeros, the bytes that wait, the mark and the count of bits
module _ (zeros head : List ℕ) (n : ℕ) (z : zeros ≡ replicate (length head + length (padding n)) 0) where
  pub zeros-long : length zeros ≡ length head + (17 + (239 - n % block_size) % block_size)
  zeros-long = ap length z ∙ length-replicate _ _ ∙ rw length-padding

  pub pad-laid : (p : ℕ) → p ≡ length zeros - 16
      → over (set (over zeros 0 head) (length head) 0x80) p (bytes_of 16 (n * 8)) ≡ head ++ padding n
  unfolding padding
  pad-laid p e =
      let long = zeros-long in
      let kept : length (over zeros 0 head) ≡ length zeros = length_over zeros 0 head (omega arith) in
      let bits : length (bytes_of 16 (n * 8)) ≡ 16 = length-bytes_of 16 (n * 8) in
      let marked : length (head ++ (0x80 ∷ [])) ≡ length head + 1 = length-append head (0x80 ∷ []) in
      ap (λ (l : List ℕ). over l p (bytes_of 16 (n * 8)))
      (set-over (over zeros 0 head) (length head) 0x80 (omega arith)
      ∙ over-next zeros 0 (length head) head (0x80 ∷ []) (omega arith) (omega arith)
      ∙ ap (λ (l : List ℕ). over l 0 (head ++ (0x80 ∷ []))) z)
      ∙ over_zeros (head ++ (0x80 ∷ [])) (bytes_of 16 (n * 8)) (length head + length (padding n))
      ((239 - n % block_size) % block_size)
      p (omega (arith, length-padding n)) (omega arith)
      ∙ append_assoc head (0x80 ∷ []) (replicate ((239 - n % block_size) % block_size) 0 ++ bytes_of 16 (n * 8))
