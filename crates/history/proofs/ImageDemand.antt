-- Demand 3, of an image that shows what its history says.
use Prim.Native.Nat.{ℕ}
use mathlib.Core.Path.{refl}
use mathlib.Core.Logic.{inl, inr}
use mathlib.Core.List.{List}
use Rattle.image.specs.Fields.{status_of}
use Rattle.form_entry.specs.declared.Way.{Way}
use Rattle.form_entry.specs.declared.Way.TheVariants.{New as new}
use Rattle.history.specs.Events.{Event, entry, undo, unsealed}
use Rattle.history.specs.Demand.{Active, Demand, EntryDemand, UndoDemand}
use Rattle.history.proofs.View.{View, Moves}
use Rattle.history.proofs.Standing.{undone-latest}
use Rattle.history.proofs.Shows.{shows}
use Rattle.history.proofs.Invariant.{Inv, inv-moved}
use Rattle.history.proofs.Replay.{Holds, SomeHolds}
use Rattle.history.proofs.ViewDemand.{view-set, view-one, entry-holds, entry_first}

module _ (r b : List ℕ) where
  holds-active : (i : ℕ) (t : List ℕ) → Holds (shows r b) (status_of b) i t → Active r b i t
  holds-active i t held = record { live = held.live; on = held.on; stands = held.stands }

  active-holds : (i : ℕ) (t : List ℕ) → Active r b i t → Holds (shows r b) (status_of b) i t
  active-holds i t a = record { live = a.live; on = a.on; stands = a.stands }

  pub inv-demand : {h : List Event} → Inv h (shows r b) → Demand r h b
  inv-demand inv =
      let numbers = inv.numbers in
      record {
        replays = λ t. (
          λ e. let some : SomeHolds (shows r b) (status_of b) t = (view-set inv t).0 e in
              record { number = some.number; shown = holds-active _ t some.holds },
          λ some. let held = active-holds _ t some.shown in
              (view-set inv t).1 (record { number = some.number; holds = held }),
        );
        one = view-one inv;
        stays = numbers.answered;
        issuer = numbers.issued;
        distinct = numbers.one;
        journal = inv.stands.count;
      }

  module _ {h : List Event} {v : View} (inv : Inv h v) (i : ℕ) where
    pub entry-demanded : (way : Way) (t : List ℕ) → Moves v (entry way i t) (shows r b) → EntryDemand r h b way i t
    entry-demanded way t m =
        record {
          active = holds-active i t (entry-holds inv (shows r b) i way t m);
          earlier = λ j u o. view-one (inv-moved (entry way i t) inv m) way new i j t u (inl refl) (inr o);
          first = entry_first inv (shows r b) i way t m;
        }

    pub undo-demanded : Moves v (undo i) (shows r b) → UndoDemand h i
    undo-demanded m = undone-latest m (unsealed h) inv.stands
        (λ c cs e own. record { taken = c; others = cs; latest = e; answered = own })
