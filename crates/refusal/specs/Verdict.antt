-- Document 01, "Turned away": a call's grounds for refusing stand in its order, and the first that holds decides.
use Rattle.std.specs.Prelude.{ℕ, Bool, true, false, List, [], ◌∷◌, Result, Ok, Err}
use Rattle.refusal.specs.declared.Reason.{Reason}
use Rattle.refusal.specs.declared.Refusal.{Refusal}

-- a condition, and the reason and the value that it is refused under
pub record Ground : Type 0 where
  pub holds : Bool
  pub reason : Reason
  pub value : ℕ

abbrev pub ground : Bool → Reason → ℕ → Ground
ground b r v = record { holds = b; reason = r; value = v }

-- what comes of a call: it is accepted, or refused with a reason and a value
pub data Verdict : Type 0 where
  accepted : Verdict
  refused : Refusal → Verdict

-- the refusal where a condition holds, else what follows
abbrev pub unless : Bool → Refusal → Verdict → Verdict
unless true r v = refused r
unless false r v = v

-- the first ground that holds
abbrev pub verdict : List Ground → Verdict
verdict [] = accepted
verdict (g ∷ gs) = unless g.holds (record { reason = g.reason; value = g.value }) (verdict gs)

-- a call's answer: the refusal, or the answer of an accepted call
abbrev pub tell : {A : Type 0} → Verdict → A → Result A Refusal
tell accepted a = Ok a
tell (refused r) a = Err r

-- what a call leaves of something lent: as it was when it refuses, else new
abbrev pub leave : {A : Type 0} → Verdict → A → A → A
leave accepted old new = new
leave (refused r) old new = old
