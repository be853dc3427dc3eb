-- Parts fed one after another and finished are the digest of their join.
use Rattle.std.proofs.Common.{◌≡◌, ℕ, ◌+◌, ◌-◌, ◌%◌, ◌^◌, ◌<◌, ◌≤◌, List, [], ◌∷◌, ◌++◌, length, take}
use Rattle.std.proofs.Common.{drop, replicate, sym, refl, ap, ◌∙◌, append_assoc, append-nil, zero-add}
use Rattle.std.proofs.Common.{arith, length-append, take-append-drop}
use lib.Seq.{take-append_seam}
use Rattle.stretch.specs.Over.{over}
use Rattle.stretch.proofs.Over.{over-front, over-over}
use Rattle.sha512_block.specs.declared.Hash.{Hash}
use Rattle.sha512.specs.declared.Running.{Running}
use Rattle.sha512_block.specs.Constants.{initial}
use Rattle.sha512_block.specs.Blocks.{hashed, block_size}
use Rattle.sha512_padding.specs.Padding.{padding}
use Rattle.std.proofs.lemmas.List.{drop-replicate, nil_from_length}
use Rattle.sha512.specs.Message.{rest, sha512}
use Rattle.sha512.specs.Feeding.{filled, begun, waiting, after, fed, joined, fed_all, finished}
use Rattle.sha512.proofs.Blocks.{hashed-on, rest-on, hashed-short, rest-short, rest-block, length_rest}

pub take-filled : (s : List ℕ) (n : ℕ) → n ≡ length s → take n (filled s) ≡ s
unfolding filled
take-filled s n e = rw e (take-append_seam s (replicate (block_size - length s) 0))

-- a block of zeros with two stretches laid over it
pub laid_filled : (xs ys : List ℕ) → length xs + length ys ≤ block_size
    → over (over (replicate block_size 0) 0 xs) (length xs) ys ≡ filled (xs ++ ys)
unfolding filled
laid_filled xs ys h =
    ap (λ (k : ℕ). over (over (replicate block_size 0) 0 xs) k ys) (sym (zero-add (length xs)))
    ∙ over-over (replicate block_size 0) 0 xs ys (omega arith)
    ∙ over-front (replicate block_size 0) (xs ++ ys)
    ∙ ap (λ (l : List ℕ). (xs ++ ys) ++ l) (drop-replicate (length (xs ++ ys)) block_size 0)

pub after_on : (s : Hash) (n : ℕ) (xs ys : List ℕ) → after s n (xs ++ ys) ≡ after (hashed s xs) n (rest xs ++ ys)
unfolding after
after_on s n xs ys = rw (hashed-on s xs ys, rest-on xs ys)

pub filled-whole : (xs : List ℕ) → length xs ≡ block_size → filled xs ≡ xs
unfolding filled
filled-whole xs e = rw e (append-nil xs)

-- the three ways in which a part is taken: from a block's edge, too short for a block, past the block's end
pub fed-aligned : (r : Running) (p : List ℕ) → length (waiting r) ≡ 0
    → after r.hash ((r.total + length p) % 2 ^ 64) p ≡ fed r p
unfolding fed
fed-aligned r p e = rw (nil_from_length (waiting r) e)

pub fed-short : (r : Running) (p : List ℕ) (b : List ℕ) (n : ℕ) → length (waiting r ++ p) < block_size
    → b ≡ filled (waiting r ++ p) → n ≡ (r.total + length p) % 2 ^ 64
    → ◌≡◌ {A = Running} (record { hash = r.hash; block = b; total = n }) (fed r p)
unfolding fed after
fed-short r p b n h e q = rw (hashed-short r.hash (waiting r ++ p) h, rest-short (waiting r ++ p) h, e, q)

pub fed-past : (r : Running) (p : List ℕ) (k : ℕ) → length (waiting r ++ take k p) ≡ block_size
    → after (hashed r.hash (filled (waiting r ++ take k p))) ((r.total + length p) % 2 ^ 64) (drop k p) ≡ fed r p
unfolding fed
fed-past r p k h =
    let n = (r.total + length p) % 2 ^ 64 in
    let xs = waiting r ++ take k p in
    let finished-fed : xs ++ drop k p ≡ waiting r ++ p = append_assoc (waiting r) (take k p) (drop k p)
    ∙ ap (λ (l : List ℕ). waiting r ++ l) (take-append-drop k p) in
    ap (λ (l : List ℕ). after (hashed r.hash l) n (drop k p)) (filled-whole xs h)
    ∙ ap (λ (l : List ℕ). after (hashed r.hash xs) n (l ++ drop k p)) (sym (rest-block xs h))
    ∙ sym (after_on r.hash n xs (drop k p))
    ∙ ap (λ (l : List ℕ). after r.hash n l) finished-fed

-- r is the state of the message m
pub record Fed (r : Running) (m : List ℕ) : Type 0 where
  pub hash-is : r.hash ≡ hashed initial m
  pub waiting-is : waiting r ≡ rest m
  pub total-is : r.total ≡ length m

pub fed-begun : Fed begun []
unfolding begun waiting rest
fed-begun = record { hash-is = sym (hashed-short initial [] (omega arith)); waiting-is = refl; total-is = refl }

pub fed-on : (r : Running) (m p : List ℕ) → Fed r m → length (m ++ p) < 2 ^ 64 → Fed (fed r p) (m ++ p)
unfolding fed after waiting
fed-on r m p f h =
    let l : length (m ++ p) ≡ length m + length p = length-append m p in
    let t : (r.total + length p) % 2 ^ 64 ≡ length (m ++ p) = omega (arith, f.total-is) in
    let w : rest (waiting r ++ p) ≡ rest (m ++ p) = rw (f.waiting-is, ← rest-on) in
    record {
      hash-is = rw (f.hash-is, f.waiting-is, ← hashed-on);
      waiting-is = rw (t, w) (take-filled (rest (m ++ p)) _ (sym (length_rest (m ++ p))));
      total-is = t;
    }

pub finished-is : (r : Running) (m : List ℕ) → Fed r m → finished r ≡ sha512 m
unfolding finished sha512
finished-is r m f = cc (hashed-on initial m (padding (length m)))

fed_all-is : (parts : List (List ℕ)) (r : Running) (m : List ℕ) → Fed r m → length (m ++ joined parts) < 2 ^ 64
    → Fed (fed_all r parts) (m ++ joined parts)
fed_all-is [] r m f h = rw append-nil f
fed_all-is (p ∷ parts) r m f h =
    let e : (m ++ p) ++ joined parts ≡ m ++ (p ++ joined parts) = append_assoc m p (joined parts) in
    let n : length (m ++ p) + length (joined parts) ≡ length (m ++ (p ++ joined parts)) =
    sym (length-append (m ++ p) (joined parts)) ∙ ap length e in
    rw (← e) (fed_all-is parts (fed r p) (m ++ p) (fed-on r m p f (omega arith)) (rw e h))

-- wherever a message is cut, its digest is one
pub parts_join : (parts : List (List ℕ)) → length (joined parts) < 2 ^ 64
    → finished (fed_all begun parts) ≡ sha512 (joined parts)
parts_join parts h = finished-is (fed_all begun parts) (joined parts) (fed_all-is parts begun [] fed-begun h)

-- a message that comes whole
pub finished-fed : (m : List ℕ) → length m < 2 ^ 64 → finished (fed begun m) ≡ sha512 m
finished-fed m h = finished-is (fed begun m) m (fed-on begun [] m fed-begun h)
