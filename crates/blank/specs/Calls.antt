-- What a blank promises: its grounds in document 01's order, the answer, and what is left of the image.
use Rattle.std.specs.Prelude.{ℕ, List, [], ◌∷◌, ◌++◌, ltb, length, Result}
use Rattle.refusal.specs.Grounds.{reference_over_limit}
use Rattle.refusal.specs.Verdict.{Ground, ground, verdict}
use Rattle.refusal.specs.declared.Refusal.{Refusal}
use Rattle.refusal.specs.declared.Reason.TheVariants.{NoRoomForImage}
use Rattle.alphabets.specs.Alphabets.{digest_text_grounds}
use Rattle.image.specs.Fields.{count_limit, pool_limit, image_size}
use Rattle.changes.specs.Changes.{blanked}
use Rattle.refusal.specs.Keeps.{Keeps}

-- 9: a capacity over its limit, and a buffer too short for the image
abbrev pub capacity_over_limit : ℕ → ℕ → Ground
capacity_over_limit limit capacity = ground (ltb limit capacity) NoRoomForImage 0

abbrev pub buffer_too_short : ℕ → ℕ → Ground
buffer_too_short room size = ground (ltb room size) NoRoomForImage size

-- the capacities, and then the room: 9
abbrev pub capacity_grounds : ℕ → ℕ → ℕ → ℕ → List Ground
capacity_grounds room records journal pool =
    capacity_over_limit count_limit records
    ∷ capacity_over_limit count_limit journal
    ∷ capacity_over_limit pool_limit pool
    ∷ buffer_too_short room (image_size records journal pool)
    ∷ []

-- blank, into that much room: 1, 7, 9
unfoldable pub blank_grounds : ℕ → ℕ → List ℕ → ℕ → ℕ → ℕ → List Ground
blank_grounds room n digest records journal pool =
    reference_over_limit n ∷ (digest_text_grounds digest ++ capacity_grounds room records journal pool)

abbrev pub Blanks : List ℕ → ℕ → List ℕ → ℕ → ℕ → ℕ → Result (Unit {0}) Refusal → List ℕ → Type 0
Blanks b n digest records journal pool =
    Keeps (verdict (blank_grounds (length b) n digest records journal pool)) tt b
    (blanked b n digest records journal pool)
