-- Demand 3, of whatever a register shows.
use Prim.Native.Nat.{ℕ}
use mathlib.Core.Path.{◌≡◌, refl, sym, ◌∙◌, ap, subst}
use mathlib.Core.Bool.{true, true≢false}
use mathlib.Core.Logic.{◌↔◌}
use mathlib.Core.List.{List}
use Rattle.form_entry.specs.declared.Way.{Way}
use Rattle.form_entry.specs.declared.Way.TheVariants.{New as new, Again as again, Known as known}
use Rattle.history.specs.Events.{Event, entry, Occurs, unsealed, sealed, standing, meant, replayed}
use Rattle.history.proofs.View.{View, Moves}
use Rattle.history.proofs.Numbers.{StandsFor, Numbers, again-stands}
use Rattle.history.proofs.Standing.{act, Stands, stands-status}
use Rattle.history.proofs.Invariant.{Inv}
use Rattle.history.proofs.Replay.{Holds, SomeHolds, replayed-holds, holds-replayed}

module _ {h : List Event} {v : View} (inv : Inv h v) where
  numbers : Numbers h v
  numbers = inv.numbers

  stands : Stands (unsealed h) (sealed h) v
  stands = inv.stands

  pub view-set : (t : List ℕ) → (replayed (meant h) (standing h) t ≡ true) ↔ SomeHolds v v.status t
  view-set t = (
    λ e. let some = replayed-holds numbers (standing h) t stands.valid e in
        let held : Holds v (act (standing h)) some.number t = some.holds in
        let on = stands.statuses _ held.live ∙ held.on in
        record { number = some.number; holds = record { live = held.live; on = on; stands = held.stands } },
    λ some. let held : Holds v v.status some.number t = some.holds in
        let on = stands-status stands _ held.live held.on in
        rw (← held.stands) (holds-replayed numbers (standing h) _ stands.valid held.live on),
  )

  pub view-one : (way way' : Way) (i j : ℕ) (t u : List ℕ) → Occurs (entry way i t) h → Occurs (entry way' j u) h
      → (i ≡ j) ↔ (t ≡ u)
  view-one way way' i j t u o o' =
      let s : StandsFor v i t = numbers.answered way i t o in
      let s' : StandsFor v j u = numbers.answered way' j u o' in (
        λ e. sym s.1 ∙ ap v.sequence e ∙ s'.1,
        λ e. numbers.one i j s.0 s'.0 (s.1 ∙ e ∙ sym s'.1),
      )

  answered-before : (i : ℕ) → v.Live i → ((way : Way) (u : List ℕ) → Occurs (entry way i u) h → ⊥) → ⊥
  answered-before i live none = none new _ (numbers.issued i live)

  -- of the event that moves it to what w shows
  module _ (w : View) (i : ℕ) where
    pub entry-holds : (way : Way) (t : List ℕ) → Moves v (entry way i t) w → Holds w w.status i t
    entry-holds new t m =
        let c = m.changes in
        record { live = c.lives; on = c.now; stands = m.stands }
    entry-holds again t m =
        let c = m.changes in
        record { live = c.lives; on = c.now; stands = again-stands m }
    entry-holds known t m =
        let held : Holds v v.status i t = record { live = m.live; on = m.on; stands = m.stands } in
        subst (λ (x : View). Holds x x.status i t) (sym m.same) held

    -- new exactly when no entry answered its number before
    pub entry_first : (way : Way) (t : List ℕ) → Moves v (entry way i t) w
        → (way ≡ new) ↔ ((way' : Way) (u : List ℕ) → Occurs (entry way' i u) h → ⊥)
    entry_first new t m = (λ e way' u o. m.fresh (numbers.answered way' i u o).0, λ none. refl)
    entry_first again t m = (λ e. absurd (true≢false cc), λ none. absurd (answered-before i m.live none))
    entry_first known t m = (λ e. absurd (true≢false cc), λ none. absurd (answered-before i m.live none))
