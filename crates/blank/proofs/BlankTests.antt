-- The answers of the tests of a blank image, one after the other, and what an accepted one tells of its arguments.
use Prim.Native.Nat.{ℕ, ◌≤◌}
use native.Mathlib.Omega.{arith}
use mathlib.Core.Path.{◌≡◌}
use mathlib.Core.Bool.{true, false}
use mathlib.Core.List.{List, [], ◌∷◌, ◌++◌}
use lib.Dec.{ltb}
use lib.ListN.{length}
use Rattle.std.specs.Prelude.{Ok, Err}
use borrow.Author.Tests.{ltb-false}
use Rattle.refusal.specs.Limits.{reference_limit}
use Rattle.refusal.specs.declared.Refusal.{Refusal}
use Rattle.refusal.specs.declared.Reason.TheVariants.{OverLimit}
use Rattle.refusal.specs.Verdict.{ground, accepted, verdict}
use Rattle.refusal.proofs.Verdict.{none-holds, verdict-first, verdict-then, verdict-fewer, verdict-later}
use Rattle.refusal.proofs.Verdict.{told-accepted, told-refused}
use Rattle.stretch.specs.Class.{every}
use Rattle.alphabets.specs.Alphabets.{base64url, digest_text_grounds, digest_text_answer, digest_length}
use Rattle.alphabets.proofs.DigestText.{digest-long, digest-all}
use Rattle.image.specs.Fields.{header_size, count_limit, pool_limit, image_size}
use Rattle.image.proofs.Arranged.{header-journal, journal-pool}
use Rattle.blank.specs.Calls.{capacity_grounds, blank_grounds}
use Rattle.blank.specs.Inner.{capacity_answer, blank_answer}

-- 9 after 1 and 7
module _ (room n : ℕ) (digest : List ℕ) (records journal pool : ℕ) where
  pub blank-then : ltb reference_limit n ≡ false → (u : Unit {0}) → Ok u ≡ digest_text_answer digest
      → capacity_answer room records journal pool ≡ blank_answer room n digest records journal pool
  unfolding blank_grounds
  blank-then l u e = rw (
    l,
    verdict-then (digest_text_grounds digest) (capacity_grounds room records journal pool) (told-accepted _ tt u e).0,
  )

  pub blank-digest : ltb reference_limit n ≡ false → (why : Refusal) → Err why ≡ digest_text_answer digest
      → Err why ≡ blank_answer room n digest records journal pool
  unfolding blank_grounds
  blank-digest l why e =
      rw (
        l,
        verdict-first (digest_text_grounds digest) (capacity_grounds room records journal pool) why
            (told-refused _ tt why e),
      )

-- an accepted blank: the reference's length and the capacities within their limits, 32 base64url characters, and room
pub record Blankable (room n : ℕ) (digest : List ℕ) (records journal pool : ℕ) : Type 0 where
  pub reference : n ≤ reference_limit
  pub long : length digest ≡ digest_length
  pub characters : every base64url digest ≡ true
  pub records-limit : records ≤ count_limit
  pub journal-limit : journal ≤ count_limit
  pub pool-limit : pool ≤ pool_limit
  pub fits : image_size records journal pool ≤ room
  pub headed : header_size ≤ room

pub accepted-blankable : (room n : ℕ) (digest : List ℕ) (records journal pool : ℕ)
    → verdict (blank_grounds room n digest records journal pool) ≡ accepted
    → Blankable room n digest records journal pool
unfolding blank_grounds
accepted-blankable room n digest records journal pool v =
    let one = ground (ltb reference_limit n) OverLimit 0 ∷ [] in
    let seven = digest_text_grounds digest in
    let nine = capacity_grounds room records journal pool in
    let rest = verdict-later one (seven ++ nine) v in
    let text = verdict-fewer seven nine rest in
    let last = verdict-later seven nine rest in
    let fits = ltb-false room (image_size records journal pool) (none-holds nine last 3) in
    record {
      reference = ltb-false reference_limit n (none-holds one (verdict-fewer one (seven ++ nine) v) 0);
      long = digest-long digest text;
      characters = digest-all digest text;
      records-limit = ltb-false count_limit records (none-holds nine last 0);
      journal-limit = ltb-false count_limit journal (none-holds nine last 1);
      pool-limit = ltb-false pool_limit pool (none-holds nine last 2);
      fits = fits;
      headed = omega (arith, fits, header-journal records, journal-pool records journal);
    }

-- what the tests tell where they pass
pub answered-blankable : (room n : ℕ) (digest : List ℕ) (records journal pool : ℕ) (u : Unit {0})
    → Ok u ≡ blank_answer room n digest records journal pool → Blankable room n digest records journal pool
answered-blankable room n digest records journal pool u e =
    accepted-blankable room n digest records journal pool
    (told-accepted (verdict (blank_grounds room n digest records journal pool)) tt u e).0
