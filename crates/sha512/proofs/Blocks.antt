-- Whole blocks and what lies after them, over a message that goes on.
use Rattle.std.proofs.Common.{◌≡◌, ℕ, zero, suc, ◌+◌, ◌*◌, ◌/◌, ◌%◌, ◌<◌, ◌≤◌, List, [], ◌++◌, length}
use Rattle.std.proofs.Common.{drop, sym, refl, ap, add-zero, add-suc, add-mul, arith, length-append}
use Rattle.std.proofs.Common.{length-drop, drop_of_length-le, drop-drop}
use lib.Seq.{take-append-le, drop-append-le}
use Rattle.sha512_block.specs.declared.Hash.{Hash}
use Rattle.sha512_block.specs.Blocks.{absorbed, hashed, block_size}
use Rattle.sha512.specs.Message.{rest}

-- the first n blocks don't see what follows them
absorbed-first : (n : ℕ) (s : Hash) (xs ys : List ℕ) → n * block_size ≤ length xs
    → absorbed n s (xs ++ ys) ≡ absorbed n s xs
unfolding absorbed
absorbed-first zero s xs ys h = refl
absorbed-first (suc n) s xs ys h =
    let k : n * block_size + block_size ≤ length xs = omega arith in
    rw (
      absorbed-first n s xs ys (omega arith),
      drop-append-le (n * block_size) xs ys (omega arith),
      take-append-le block_size (drop (n * block_size) xs) ys (simp length-drop (omega arith)),
    )

absorbed-add : (a n : ℕ) (s : Hash) (m : List ℕ)
    → absorbed (a + n) s m ≡ absorbed n (absorbed a s m) (drop (a * block_size) m)
unfolding absorbed
absorbed-add a zero s m = ap (λ (k : ℕ). absorbed k s m) (add-zero a)
absorbed-add a (suc n) s m =
    rw (add-suc, absorbed-add a n s m, drop-drop, add-mul)

pub length_rest : (m : List ℕ) → length (rest m) ≡ length m % block_size
unfolding rest
length_rest m = rw length-drop (omega arith)

-- the whole blocks of xs, and then those of what lies after them, are those of the join
blocks-on : (xs ys : List ℕ)
    → length (xs ++ ys) / block_size ≡ length xs / block_size + length (rest xs ++ ys) / block_size
blocks-on xs ys = rw (length-append xs ys, length-append (rest xs) ys, length_rest xs) (omega arith)

rest-append : (xs ys : List ℕ) → rest xs ++ ys ≡ drop (length xs / block_size * block_size) (xs ++ ys)
unfolding rest
rest-append xs ys = sym (drop-append-le (length xs / block_size * block_size) xs ys (omega arith))

pub hashed-on : (s : Hash) (xs ys : List ℕ) → hashed s (xs ++ ys) ≡ hashed (hashed s xs) (rest xs ++ ys)
unfolding hashed
hashed-on s xs ys =
    rw (blocks-on xs ys, absorbed-add, absorbed-first (length xs / block_size) s xs ys (omega arith), rest-append)

pub rest-on : (xs ys : List ℕ) → rest (xs ++ ys) ≡ rest (rest xs ++ ys)
unfolding rest
rest-on xs ys =
    rw (blocks-on xs ys, add-mul, ← drop-drop, ← rest-append)

-- fewer bytes than a block wait all together
pub hashed-short : (s : Hash) (xs : List ℕ) → length xs < block_size → hashed s xs ≡ s
unfolding hashed absorbed
hashed-short s xs h =
    let e : length xs / block_size ≡ 0 = omega arith in
    rw e

pub rest-short : (xs : List ℕ) → length xs < block_size → rest xs ≡ xs
unfolding rest
rest-short xs h =
    let e : length xs / block_size * block_size ≡ 0 = omega arith in
    rw e

-- nothing is left after one block
pub rest-block : (xs : List ℕ) → length xs ≡ block_size → rest xs ≡ []
unfolding rest
rest-block xs h = drop_of_length-le xs {i = length xs / block_size * block_size} (omega arith)
