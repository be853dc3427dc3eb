-- Numbers and their bytes.
use Rattle.std.proofs.Common.{◌≡◌, ◌∙◌, ℕ, zero, suc, ◌+◌, ◌*◌, ◌/◌, ◌%◌, ◌<◌, List, [], ◌∷◌, ◌++◌}
use Rattle.std.proofs.Common.{length, get_or, take, refl, sym, ap, arith, add-one, length-append, append_assoc}
use Rattle.std.proofs.Common.{append-nil}
use Rattle.std.proofs.Math.Nat.{div-div-eq-div-mul, pow-succ'}
use Rattle.std.proofs.lemmas.List.{take_more, flat_map_more, length-take-le}
use Rattle.std.specs.Int.{byte_at, bytes_high_first}
use Rattle.std.specs.List.{flat_map}
use Rattle.stretch.specs.Over.{over}
use Rattle.stretch.proofs.Over.{over-next, over-all}
use Rattle.sha512_block.specs.declared.Hash.{Hash}
use Rattle.sha512_padding.specs.Padding.{bytes_of, four_words, hash_bytes}

pub length-bytes_of : (n x : ℕ) → length (bytes_of n x) ≡ n
unfolding bytes_of
length-bytes_of zero x = refl
length-bytes_of (suc n) x = rw (length-append, length-bytes_of n (x / 256)) (add-one n)

-- the machine's bytes of a number are the standard's
next-byte : (k x : ℕ) → byte_at (suc k) x ≡ byte_at k (x / 256)
next-byte zero x = refl
next-byte (suc k) x = rw (pow-succ' 256 (suc k), div-div-eq-div-mul)

last-byte : (k x : ℕ) → bytes_high_first (suc k) x ≡ bytes_high_first k (x / 256) ++ (x % 256 ∷ [])
last-byte zero x = refl
last-byte (suc k) x = rw (next-byte k x, last-byte k x)

pub high_first : (k x : ℕ) → bytes_high_first k x ≡ bytes_of k x
unfolding bytes_of
high_first zero x = refl
high_first (suc k) x = rw (last-byte k x, high_first k (x / 256))

-- one more word is written
length-words : (ws : List ℕ) → length (flat_map (bytes_of 8) ws) ≡ length ws * 8
length-words [] = refl
length-words (w ∷ ws) = rw (length-append, length-bytes_of, length-words ws) (omega arith)

pub word-turn : (l ws : List ℕ) (i : ℕ) → i < length ws
    → over (over l 0 (flat_map (bytes_of 8) (take i ws))) (i * 8) (bytes_of 8 (get_or ws i 0))
    ≡ over l 0 (flat_map (bytes_of 8) (take (i + 1) ws))
word-turn l ws i h =
    over-next l 0 (i * 8) _ _ (omega arith) (rw (length-words, length-take-le i ws (omega arith)) (omega arith))
    ∙ ap (over l 0) (flat_map_more (bytes_of 8) [] (take i ws) (get_or ws i 0) ∙ rw (take_more ws i 0 h))

pub words-all : (l : List ℕ) (s : Hash) → length l ≡ 64
    → over l 0 (flat_map (bytes_of 8) (s.a ∷ s.b ∷ s.c ∷ s.d ∷ s.e ∷ s.f ∷ s.g ∷ s.h ∷ [])) ≡ hash_bytes s
unfolding hash_bytes four_words
words-all l s n = over-all l _ (simp (length-append, length-bytes_of) (sym n)) ∙ simp (append_assoc, append-nil)

-- every byte of a hash value is below 256, as every byte of a number is
bytes-append : (xs ys : List ℕ) → ((i : ℕ) → get_or xs i 0 < 256) → ((i : ℕ) → get_or ys i 0 < 256) → (i : ℕ)
    → get_or (xs ++ ys) i 0 < 256
bytes-append [] ys f g i = g i
bytes-append (x ∷ xs) ys f g zero = f 0
bytes-append (x ∷ xs) ys f g (suc i) = bytes-append xs ys (λ j. f (suc j)) g i

bytes_of-bytes : (n x i : ℕ) → get_or (bytes_of n x) i 0 < 256
unfolding bytes_of
bytes_of-bytes zero x i = omega arith
bytes_of-bytes (suc n) x i = bytes-append (bytes_of n (x / 256)) (x % 256 ∷ []) (bytes_of-bytes n (x / 256)) last i
  where
    last : (j : ℕ) → get_or (x % 256 ∷ []) j 0 < 256
    last zero = omega arith
    last (suc j) = omega arith

four_words-bytes : (a b c d i : ℕ) → get_or (four_words a b c d) i 0 < 256
unfolding four_words
four_words-bytes a b c d =
    bytes-append (bytes_of 8 a) _ (bytes_of-bytes 8 a)
    (bytes-append (bytes_of 8 b) _ (bytes_of-bytes 8 b)
    (bytes-append (bytes_of 8 c) (bytes_of 8 d) (bytes_of-bytes 8 c) (bytes_of-bytes 8 d)))

pub hash_bytes-bytes : (s : Hash) (i : ℕ) → get_or (hash_bytes s) i 0 < 256
unfolding hash_bytes
hash_bytes-bytes s = bytes-append (four_words _ _ _ _) (four_words _ _ _ _) (four_words-bytes _ _ _ _)
    (four_words-bytes _ _ _ _)

pub length-hash_bytes : (s : Hash) → length (hash_bytes s) ≡ 64
unfolding hash_bytes four_words
length-hash_bytes s = simp (length-append, length-bytes_of)
