-- What an accepted call tells of its grounds, and grounds that stand after others.
use Prim.Native.Nat.{ℕ, zero, suc}
use mathlib.Core.Path.{◌≡◌, refl, ◌∙◌, sym}
use mathlib.Core.Bool.{Bool, true, false}
use mathlib.Core.List.{List, [], ◌∷◌, ◌++◌}
use lib.ListN.{get_or}
use Rattle.std.specs.Prelude.{Ok, Err}
use Rattle.refusal.specs.declared.Reason.TheVariants.{OverLimit}
use Rattle.refusal.specs.declared.Refusal.{Refusal}
use Rattle.refusal.specs.Verdict.{Ground, Verdict, accepted, refused, ground, unless, verdict, tell}

passed : (b : Bool) (q : Refusal) (v : Verdict) → unless b q v ≡ accepted → (b ≡ false) × (v ≡ accepted)
passed true q v h = (cc, cc)
passed false q v h = (refl, h)

-- none of the grounds of an accepted call holds
pub none-holds : (gs : List Ground) → verdict gs ≡ accepted → (i : ℕ)
    → (get_or gs i (ground false OverLimit 0)).holds ≡ false
none-holds [] v i = refl
none-holds (g ∷ gs) v zero = (passed g.holds (record { reason = g.reason; value = g.value }) (verdict gs) v).0
none-holds (g ∷ gs) v (suc i) =
    none-holds gs (passed g.holds (record { reason = g.reason; value = g.value }) (verdict gs) v).1 i

-- the first ground that holds decides, whatever stands after it
first_one : (b : Bool) (q : Refusal) (v w : Verdict) (r : Refusal) → (v ≡ refused r → w ≡ refused r)
    → unless b q v ≡ refused r → unless b q w ≡ refused r
first_one true q v w r f h = h
first_one false q v w r f h = f h

pub verdict-first : (gs hs : List Ground) (r : Refusal) → verdict gs ≡ refused r → verdict (gs ++ hs) ≡ refused r
verdict-first [] hs r h = cc
verdict-first (g ∷ gs) hs r h =
    first_one g.holds (record { reason = g.reason; value = g.value }) (verdict gs) (verdict (gs ++ hs)) r
    (verdict-first gs hs r) h

-- grounds after others decide where the first ones pass
then-others : (b : Bool) (q : Refusal) (v w u : Verdict) → (v ≡ accepted → w ≡ u) → unless b q v ≡ accepted
    → unless b q w ≡ u
then-others true q v w u f h = cc
then-others false q v w u f h = f h

pub verdict-then : (gs hs : List Ground) → verdict gs ≡ accepted → verdict (gs ++ hs) ≡ verdict hs
verdict-then [] hs h = refl
verdict-then (g ∷ gs) hs h =
    then-others g.holds (record { reason = g.reason; value = g.value }) (verdict gs) (verdict (gs ++ hs))
    (verdict hs) (verdict-then gs hs) h

-- what is accepted under more grounds is accepted under the first of them
then-first : (b : Bool) (q : Refusal) (v w : Verdict) → (w ≡ accepted → v ≡ accepted) → unless b q w ≡ accepted
    → unless b q v ≡ accepted
then-first true q v w f h = cc
then-first false q v w f h = f h

pub verdict-fewer : (gs hs : List Ground) → verdict (gs ++ hs) ≡ accepted → verdict gs ≡ accepted
verdict-fewer [] hs h = refl
verdict-fewer (g ∷ gs) hs h =
    then-first g.holds (record { reason = g.reason; value = g.value }) (verdict gs) (verdict (gs ++ hs))
    (verdict-fewer gs hs) h

-- what is accepted under more grounds is accepted under the last of them
pub verdict-later : (gs hs : List Ground) → verdict (gs ++ hs) ≡ accepted → verdict hs ≡ accepted
verdict-later gs hs v = sym (verdict-then gs hs (verdict-fewer gs hs v)) ∙ v

-- what a call's answer tells of its grounds
pub told-accepted : {A : Type 0} (v : Verdict) (said a : A) → Ok a ≡ tell v said → (v ≡ accepted) × (a ≡ said)
told-accepted accepted said a h = (refl, cc)
told-accepted (refused r) said a h = (cc, cc)

pub told-refused : {A : Type 0} (v : Verdict) (said : A) (why : Refusal) → Err why ≡ tell v said → v ≡ refused why
told-refused accepted said why h = cc
told-refused (refused r) said why h = cc
