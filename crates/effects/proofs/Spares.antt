-- The stretches of an image that no change writes to, and that they are as they were after writes beside them.
use Prim.Native.Nat.{ℕ, ◌+◌, ◌≤◌}
use native.Mathlib.Omega.{arith}
use mathlib.Core.Path.{◌≡◌, ◌∙◌}
use mathlib.Core.List.{List}
use lib.ListN.{length}
use Rattle.stretch.specs.Over.{over}
use Rattle.stretch.proofs.Over.{length_over}
use Rattle.image.specs.Numbers.{bytes, put}
use Rattle.image.specs.Fields.{header_size, edition_place, issued, issued_place, records_offset_place, journal_count}
use Rattle.image.specs.Fields.{journal_count_place, journal_offset, journal_offset_place, pool_offset}
use Rattle.image.specs.Fields.{pool_offset_place, pool_used, pool_used_place, record_place, status_place, entry_place}
use Rattle.image.proofs.Numbers.{length-bytes}
use Rattle.image.proofs.Spared.{Spared, Aside, spared-over, spared-on}

-- of b: the header but for its counts, the records but for number i's status, the journal, the pool's residues
pub data Unwritten (b : List ℕ) (i : ℕ) : ℕ → ℕ → Type 0 where
  edition_on : Unwritten b i edition_place issued_place
  records_on : Unwritten b i records_offset_place journal_count_place
  journal_on : Unwritten b i journal_offset_place pool_used_place
  pool_on : Unwritten b i pool_offset_place header_size
  of_record : (j : ℕ) → 1 ≤ j → j ≤ issued b → Unwritten b i (record_place j) (status_place j)
  of_status : (j : ℕ) → 1 ≤ j → j ≤ issued b → (j ≡ i → ⊥) → Unwritten b i (status_place j) (status_place j + 4)
  entries : Unwritten b i (journal_offset b) (entry_place b (journal_count b))
  residues : Unwritten b i (pool_offset b) (pool_offset b + pool_used b)

-- a write of n bytes at a place lies within the image and beside all of them
pub record Clear (b : List ℕ) (i at n : ℕ) : Type 0 where
  pub room : at + n ≤ length b
  pub aside : (from to : ℕ) → Unwritten b i from to → Aside at n from to

-- they are the same in c and d
pub record Spares (b : List ℕ) (i : ℕ) (c d : List ℕ) : Type 0 where
  pub long : length d ≡ length c
  pub spared : (from to : ℕ) → Unwritten b i from to → Spared c d from to

module _ (b : List ℕ) (i : ℕ) where
  pub spares-on : (c d e : List ℕ) → Spares b i c d → Spares b i d e → Spares b i c e
  spares-on c d e s t =
      record { long = t.long ∙ s.long; spared = λ from to w. spared-on (s.spared from to w) (t.spared from to w) }

  pub spares-over : (c : List ℕ) (at : ℕ) (s : List ℕ) → length c ≡ length b → Clear b i at (length s)
      → Spares b i c (over c at s)
  spares-over c at s e w =
      record {
        long = length_over c at s (omega (arith, w.room));
        spared = λ from to t. spared-over c at s (omega (arith, w.room)) from to (w.aside from to t);
      }

  pub spares-put : (c : List ℕ) (at v : ℕ) → length c ≡ length b → Clear b i at 4 → Spares b i c (put c at v)
  unfolding put
  spares-put c at v e w = spares-over c at (bytes 4 v) e (rw (length-bytes 4 v) w)
