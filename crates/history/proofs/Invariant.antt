-- What holds between a history and what a register shows, and that every event keeps it.
use Prim.Native.Nat.{ℕ}
use mathlib.Core.Path.{◌≡◌, refl, sym, subst}
use mathlib.Core.List.{List, [], ◌∷◌}
use Rattle.form_entry.specs.declared.Way.TheVariants.{New as new, Again as again, Known as known}
use Rattle.history.specs.Events.{Event, entry, withdrawal, undo, seal, refusal}
use Rattle.history.specs.Events.{added, removed, unsealed, sealed, meant}
use Rattle.history.proofs.View.{View, KeepsOthers, Moves}
use Rattle.history.proofs.Standing.{Stands, stands-fresh, stands-status}
use Rattle.history.proofs.Standing.{stands-changed, stands-undone, stands-sealed}
use Rattle.history.proofs.Numbers.{Stood, Numbers, again-stands, numbers-kept, numbers-new}

pub record Inv (h : List Event) (v : View) : Type 0 where
  pub numbers : Numbers h v
  pub stands : Stands (unsealed h) (sealed h) v

-- nothing has happened to an empty register
pub inv-empty : (v : View) → ((i : ℕ) → v.Live i → ⊥) → v.count ≡ 0 → Inv [] v
inv-empty v none count =
    record {
      numbers = record {
        issued = λ i live. absurd (none i live);
        meaning = λ i live. absurd (none i live);
        answered = λ way i t o. absurd o;
        one = λ i j live. absurd (none i live);
      };
      stands = record { statuses = λ i live. absurd (none i live); valid = tt; count = count; journals = tt };
    }

keeps-all : (v : View) → KeepsOthers v v 0
keeps-all v =
    record {
      lives = λ j live. live;
      lived = λ j n live. live;
      sequences = λ j live. refl;
      statuses = λ j live n. refl;
      journals = λ k l. refl;
    }

-- an event that shows nothing
inv-same : {h : List Event} (e : Event) {v : View} → Inv h v → ((j : ℕ) → meant (e ∷ h) j ≡ meant h j) → Stood v e
    → Stands (unsealed (e ∷ h)) (sealed (e ∷ h)) v → Inv (e ∷ h) v
inv-same e {v} inv means stood stands =
    record {
      numbers = numbers-kept (keeps-all v) (λ live. live) e inv.numbers means stood;
      stands = stands;
    }

pub inv-moved : {h : List Event} (e : Event) {v w : View} → Inv h v → Moves v e w → Inv (e ∷ h) w
inv-moved (entry new i t) inv m =
    let s = inv.stands in
    record {
      numbers = numbers-new inv.numbers m;
      stands = stands-changed (added i t) s m.changes (stands-fresh s i m.fresh) m.stands;
    }
inv-moved (entry again i t) inv m =
    let s = inv.stands in
    let keeps = m.changes.keeps in
    record {
      numbers = numbers-kept keeps (λ live. m.live) (entry again i t) inv.numbers (λ j. refl) (m.live, m.stands);
      stands = stands-changed (added i t) s m.changes (stands-status s i m.live m.off) (again-stands m);
    }
inv-moved (entry known i t) inv m =
    subst (Inv _) (sym m.same) (inv-same (entry known i t) inv (λ j. refl) (m.live, m.stands) inv.stands)
inv-moved (withdrawal i) inv m =
    let s = inv.stands in
    record {
      numbers = numbers-kept m.changes.keeps (λ live. m.live) (withdrawal i) inv.numbers (λ j. refl) tt;
      stands = stands-changed (removed i) s m.changes (stands-status s i m.live m.on) tt;
    }
inv-moved (undo i) inv m =
    record {
      numbers = numbers-kept m.keeps (λ live. m.live) (undo i) inv.numbers (λ j. refl) tt;
      stands = stands-undone m _ inv.stands;
    }
inv-moved seal inv m =
    record {
      numbers = numbers-kept m.keeps (λ live. absurd (m.nought live)) seal inv.numbers (λ j. refl) tt;
      stands = stands-sealed inv.stands m;
    }
inv-moved refusal inv m = subst (Inv _) (sym m) (inv-same refusal inv (λ j. refl) tt inv.stands)
