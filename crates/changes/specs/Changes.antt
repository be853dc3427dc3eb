-- Document 01, "The register image": what each change leaves of the image.
use Rattle.std.specs.Prelude.{ℕ, ◌+◌, ◌-◌, List, length}
use Rattle.stretch.specs.Over.{over}
use Rattle.normal_form.specs.Form.{Normal}
use Rattle.image.specs.Numbers.{put}
use Rattle.image.specs.Fields.{issued, issued_place, journal_count, journal_count_place, pool_offset, pool_used}
use Rattle.image.specs.Fields.{pool_used_place, record_place, record_of, status_place, status_of, active, inactive}
use Rattle.image.specs.Fields.{entry_place, entry_of, header_of}

-- blank: the header, and nothing else
unfoldable pub blanked : List ℕ → ℕ → List ℕ → ℕ → ℕ → ℕ → List ℕ
blanked b n digest records journal pool = over b 0 (header_of n digest records journal pool)

-- an image made of b by a change to a number, with the number in b's next journal entry
unfoldable pub journalled : List ℕ → List ℕ → ℕ → List ℕ
journalled b changed i = put (put changed (entry_place b (journal_count b)) i) journal_count_place (journal_count b + 1)

-- a number made active or inactive
unfoldable pub marked : List ℕ → ℕ → ℕ → List ℕ
marked b i status = put b (status_place i) status

-- withdrawal, and entry answered "again"
unfoldable pub withdrawn : List ℕ → ℕ → List ℕ
withdrawn b i = journalled b (marked b i inactive) i

unfoldable pub reentered : List ℕ → ℕ → List ℕ
reentered b i = journalled b (marked b i active) i

-- a form in the next record, its replacement after those in the pool, and both counted
unfoldable pub recorded : List ℕ → Normal → List ℕ
recorded b f =
    over b (record_place (issued b + 1)) (record_of f.start f.end (pool_used b) (length f.replacement) active)

unfoldable pub pooled : List ℕ → List ℕ → List ℕ → List ℕ
pooled b changed x = over changed (pool_offset b + pool_used b) x

unfoldable pub counted : List ℕ → List ℕ → ℕ → List ℕ
counted b changed residues = put (put changed issued_place (issued b + 1)) pool_used_place (pool_used b + residues)

-- entry answered "new": the next number, journalled
unfoldable pub numbered : List ℕ → Normal → List ℕ
numbered b f =
    journalled b (counted b (pooled b (recorded b f) f.replacement) (length f.replacement)) (issued b + 1)

-- the last journalled number
unfoldable pub latest : List ℕ → ℕ
latest b = entry_of b (journal_count b - 1)

-- undo: its status flipped, and its entry no longer counted
unfoldable pub undone : List ℕ → List ℕ
undone b = put (marked b (latest b) (1 - status_of b (latest b))) journal_count_place (journal_count b - 1)

-- seal: the journal count set to 0
unfoldable pub sealed : List ℕ → List ℕ
sealed b = put b journal_count_place 0
