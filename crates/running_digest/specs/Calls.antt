-- What a part makes of a lent running digest.
use Rattle.std.specs.Prelude.{ℕ, ◌≡◌, List, [], ◌∷◌, Result, Ok}
use Rattle.refusal.specs.declared.Refusal.{Refusal}
use Rattle.refusal.specs.Verdict.{verdict}
use Rattle.refusal.specs.Keeps.{Keeps}
use Rattle.sha512.specs.declared.Running.{Running}
use Rattle.sha512.specs.Feeding.{fed}
use Rattle.sequence_identifier.specs.Calls.{part_grounds}

-- the outcome, and the state that the lent one has become
abbrev pub Feeds : Running → List ℕ → Result (Unit {0}) Refusal → Running → Type 0
Feeds state part = Keeps (verdict (part_grounds state.total part)) tt state (fed state part)

-- the state that it has become after several parts, each of them accepted
abbrev pub FeedsAll : Running → List (List ℕ) → Running → Type 0
FeedsAll state [] after = after ≡ state
FeedsAll state (part ∷ parts) after = (next : Running) × (Feeds state part (Ok tt) next × FeedsAll next parts after)
