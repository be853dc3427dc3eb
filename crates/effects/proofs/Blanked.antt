-- What is read of a blank image.
use Prim.Native.Nat.{ℕ, ◌+◌, ◌*◌, ◌^◌, ◌≤◌, ◌<◌}
use native.Mathlib.Omega.{arith}
use mathlib.Core.Path.{◌≡◌, ◌∙◌, sym, ap}
use mathlib.Core.List.{List, [], ◌∷◌, ◌++◌}
use lib.ListN.{length, get_or, take, length-append}
use lib.Seq.{drop_at, take-length}
use Rattle.alphabets.specs.Alphabets.{digest_length}
use Rattle.stretch.proofs.Over.{length_over}
use Rattle.stretch.proofs.Through.{part-laid}
use Rattle.refusal.specs.Limits.{reference_limit}
use Rattle.image.specs.Numbers.{number, numbers}
use Rattle.image.specs.Fields.{header_size, first_edition, digest_place, count_limit, pool_limit}
use Rattle.image.specs.Fields.{journal_place, pool_place, image_size, sequence_digest, header_of}
use Rattle.image.proofs.Patched.{length-numbers, number-laid, number-first, number-numbers}
use Rattle.image.proofs.Arranged.{header-journal, journal-pool, journal-held, pool-held}
use Rattle.changes.specs.Changes.{blanked}
use Rattle.effects.proofs.Seen.{Fresh}

-- the numbers of the header
abbrev fields : ℕ → ℕ → ℕ → ℕ → List ℕ
fields n records journal pool =
    first_edition
    ∷ records
    ∷ 0
    ∷ header_size
    ∷ journal
    ∷ 0
    ∷ journal_place records
    ∷ pool
    ∷ 0
    ∷ pool_place records journal
    ∷ n
    ∷ []

module _ (b : List ℕ) (n : ℕ) (digest : List ℕ) (records journal pool : ℕ) (whole : length digest ≡ digest_length)
    (room : header_size ≤ length b) where
  abbrev header : List ℕ
  header = numbers (fields n records journal pool) ++ digest

  header-length : length header ≡ header_size
  header-length = length-append (numbers (fields n records journal pool)) digest
      ∙ (rw (length-numbers (fields n records journal pool), whole))

  blanked-long : length (blanked b n digest records journal pool) ≡ length b
  unfolding blanked header_of
  blanked-long = length_over b 0 header (omega (arith, header-length))

  blanked-number : (k : ℕ) → k < 11 → get_or (fields n records journal pool) k 0 < 2 ^ 32
      → number (blanked b n digest records journal pool) (0 + 4 * k) ≡ get_or (fields n records journal pool) k 0
  unfolding blanked header_of
  blanked-number k l g =
      let vs = fields n records journal pool in
      number-laid b 0 header (omega arith) (4 * k) (omega (arith, header-length))
      ∙ number-first (numbers vs) digest (4 * k) (rw (length-numbers vs) (omega arith))
      ∙ number-numbers vs k l g

  blanked-digest : sequence_digest (blanked b n digest records journal pool) ≡ digest
  unfolding blanked header_of
  blanked-digest =
      let vs = fields n records journal pool in
      part-laid b 0 header (omega arith) digest_place header_size (omega arith) (omega (arith, header-length))
      ∙ ap (take digest_length) (drop_at (numbers vs) digest digest_place (length-numbers vs))
      ∙ ap (λ (k : ℕ). take k digest) (sym whole)
      ∙ take-length digest

pub blanked-seen : (b : List ℕ) (n : ℕ) (digest : List ℕ) (records journal pool : ℕ)
    → length digest ≡ digest_length → records ≤ count_limit → journal ≤ count_limit → pool ≤ pool_limit
    → n ≤ reference_limit
    → image_size records journal pool ≤ length b
    → Fresh (length b) n digest records journal pool (blanked b n digest records journal pool)
blanked-seen b n digest records journal pool whole r j p l size =
    let room : header_size ≤ length b = omega (arith, header-journal records, journal-pool records journal) in
    let read = blanked-number b n digest records journal pool whole room in
    record {
      long = blanked-long b n digest records journal pool whole room;
      edition = read 0 (omega arith) (omega arith);
      records = read 1 (omega arith) (omega arith);
      numbers = read 2 (omega arith) (omega arith);
      records-at = read 3 (omega arith) (omega arith);
      journal = read 4 (omega arith) (omega arith);
      count = read 5 (omega arith) (omega arith);
      journal-at = read 6 (omega arith) (journal-held records r);
      pool = read 7 (omega arith) (omega arith);
      used = read 8 (omega arith) (omega arith);
      pool-at = read 9 (omega arith) (pool-held records journal r j);
      reference = read 10 (omega arith) (omega arith);
      digest = blanked-digest b n digest records journal pool whole room;
    }
