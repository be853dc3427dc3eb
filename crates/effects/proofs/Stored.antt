-- A form in the next record, its replacement after those in the pool.
use Prim.Native.Nat.{ℕ, ◌+◌, ◌*◌, ◌^◌, ◌≤◌, ◌<◌}
use native.Mathlib.Omega.{arith}
use mathlib.Core.Logic.{inl}
use mathlib.Core.Path.{◌≡◌, refl, ◌∙◌}
use mathlib.Core.List.{List, [], ◌∷◌}
use lib.ListN.{length, get_or}
use Rattle.stretch.specs.Part.{part}
use Rattle.stretch.proofs.Over.{part-over}
use Rattle.normal_form.specs.Form.{Normal}
use Rattle.image.specs.Numbers.{number, numbers}
use Rattle.image.specs.Fields.{record_size, record_capacity, issued, pool_capacity, pool_used}
use Rattle.image.specs.Fields.{pool_offset, record_place, record_of, active}
use Rattle.image.specs.Header.{Header}
use Rattle.image.proofs.Patched.{length-numbers, number-laid, number-numbers}
use Rattle.image.proofs.Arranged.{fields-inside, length-record, record-journal}
use Rattle.image.proofs.Spared.{number-beside}
use Rattle.changes.specs.Changes.{recorded, pooled}
use Rattle.effects.proofs.Spares.{Spares, spares-over, spares-on}
use Rattle.effects.proofs.Clear.{clear-record, clear-residues}

-- the numbers of the next record
abbrev pub laid : List ℕ → Normal → List ℕ
laid b f = f.start ∷ f.end ∷ pool_used b ∷ length f.replacement ∷ active ∷ []

-- both writes
abbrev pub stored : List ℕ → Normal → List ℕ
stored b f = pooled b (recorded b f) f.replacement

module _ (b : List ℕ) (h : Header b) (f : Normal)
    (record-room : issued b < record_capacity b)
    (pool-room : pool_used b + length f.replacement ≤ pool_capacity b)
  where
    next-end : record_place (issued b + 1) + record_size ≤ pool_offset b
    next-end =
        let before = record-journal (issued b + 1) (record_capacity b) (omega arith) (omega arith) in
        omega (arith, before, h.journal, h.pool)

    recorded-spares : Spares b 0 b (recorded b f)
    unfolding recorded record_of
    recorded-spares =
        spares-over b 0 b (record_place (issued b + 1)) (numbers (laid b f)) refl
        (rw (length-record f.start f.end (pool_used b) (length f.replacement) active)
        (clear-record b h 0 record-room))

    recorded-number : (k : ℕ) → k < 5 → get_or (laid b f) k 0 < 2 ^ 32
        → number (recorded b f) (record_place (issued b + 1) + 4 * k) ≡ get_or (laid b f) k 0
    unfolding recorded record_of
    recorded-number k l g =
        let room : record_place (issued b + 1) ≤ length b = omega (arith, (clear-record b h 0 record-room).room) in
        number-laid b (record_place (issued b + 1)) (numbers (laid b f)) room (4 * k)
        (rw (length-numbers (laid b f)) (omega arith))
        ∙ number-numbers (laid b f) k l g

    pool-starts : pool_offset b + pool_used b ≤ length (recorded b f)
    pool-starts = omega (arith, recorded-spares.long, h.whole)

    pub stored-spares : Spares b 0 b (stored b f)
    unfolding pooled
    stored-spares =
        spares-on b 0 b (recorded b f) (stored b f) recorded-spares
        (spares-over b 0 (recorded b f) (pool_offset b + pool_used b) f.replacement recorded-spares.long
        (clear-residues b h 0 (length f.replacement) pool-room))

    -- the record's numbers, in their order
    pub stored-number : (k : ℕ) → k < 5 → get_or (laid b f) k 0 < 2 ^ 32
        → number (stored b f) (record_place (issued b + 1) + 4 * k) ≡ get_or (laid b f) k 0
    unfolding pooled
    stored-number k l g =
        let at = record_place (issued b + 1) + 4 * k in
        number-beside (recorded b f) (pool_offset b + pool_used b) f.replacement pool-starts at
        (inl (omega (arith, next-end, fields-inside)))
        ∙ recorded-number k l g

    pub stored-residues : part (stored b f) (pool_offset b + pool_used b)
        (pool_offset b + pool_used b + length f.replacement) ≡ f.replacement
    unfolding pooled
    stored-residues = part-over (recorded b f) (pool_offset b + pool_used b) f.replacement
        (length f.replacement) pool-starts refl
