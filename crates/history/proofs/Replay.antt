-- The set that replaying makes has the sequences of the numbers that the changes leave active, and no others.
use Prim.Native.Nat.{ℕ}
use mathlib.Core.Path.{◌≡◌, refl, sym, ◌∙◌, ap}
use mathlib.Core.Bool.{true, false, cond, false≢true}
use mathlib.Core.List.{List, [], ◌∷◌}
use lib.Dec.{eqb}
use borrow.Author.Tests.{eqb-true}
use Rattle.stretch.specs.Same.{same}
use Rattle.stretch.proofs.Same.{same_refl, same-eq, same-unlike}
use Rattle.stretch.proofs.Cases.{by_cases}
use Rattle.history.specs.Events.{Event, Change, added, removed, number_of, meant, replayed}
use Rattle.history.proofs.View.{View}
use Rattle.history.proofs.Standing.{given, act, Turns, Valid, act-own, act-other}
use Rattle.history.proofs.Numbers.{Numbers}
use Rattle.history.proofs.Equal.{by_equal}

-- a number stands for a sequence and has, of these statuses, the active one
pub record Holds (v : View) (status : ℕ → ℕ) (i : ℕ) (t : List ℕ) : Type 0 where
  pub live : v.Live i
  pub on : status i ≡ 1
  pub stands : v.sequence i ≡ t

pub record SomeHolds (v : View) (status : ℕ → ℕ) (t : List ℕ) : Type 0 where
  pub number : ℕ
  pub holds : Holds v status number t

module _ {h : List Event} {v : View} (numbers : Numbers h v) where
  -- a change puts in or takes out what its number stands for
  replayed-once : (c : Change) (cs : List Change) (t : List ℕ) → Turns v c cs
      → replayed (meant h) (c ∷ cs) t
      ≡ cond (same (v.sequence (number_of c)) t) (eqb (given c) 1) (replayed (meant h) cs t)
  replayed-once (added i u) cs t turns = rw turns.means refl
  replayed-once (removed i) cs t turns = rw (numbers.meaning i turns.live) refl

  -- of another number than the change's, what the changes below say
  held_below : (c : Change) (cs : List Change) (t : List ℕ) → same (v.sequence (number_of c)) t ≡ false
      → SomeHolds v (act cs) t → SomeHolds v (act (c ∷ cs)) t
  held_below c cs t n below =
      let i = below.number in
      let held : Holds v (act cs) i t = below.holds in
      let apart : i ≡ number_of c → ⊥
      = λ e. false≢true (sym n ∙ cc (ap v.sequence e, held.stands, same_refl t)) in
      let on = act-other c cs i apart ∙ held.on in
      record { number = i; holds = record { live = held.live; on = on; stands = held.stands } }

  pub replayed-holds : (cs : List Change) (t : List ℕ) → Valid v cs → replayed (meant h) cs t ≡ true
      → SomeHolds v (act cs) t
  replayed-holds [] t valid in-set = absurd (false≢true in-set)
  replayed-holds (c ∷ cs) t valid in-set =
      let turns : Turns v c cs = valid.0 in
      by_cases (same (v.sequence (number_of c)) t)
      (λ e. let on = act-own c cs _ refl ∙ eqb-true (given c) 1 (cc (replayed-once c cs t turns)) in
      record { number = number_of c; holds = record { live = turns.live; on = on; stands = same-eq _ t e } })
      (λ n. held_below c cs t n (replayed-holds cs t valid.1 (cc (replayed-once c cs t turns))))

  pub holds-replayed : (cs : List Change) (i : ℕ) → Valid v cs → v.Live i → act cs i ≡ 1
      → replayed (meant h) cs (v.sequence i) ≡ true
  holds-replayed [] i valid live on = cc
  holds-replayed (c ∷ cs) i valid live on =
      let turns : Turns v c cs = valid.0 in
      rw (replayed-once c cs (v.sequence i) turns) (by_equal i (number_of c)
      (λ e. cc (ap v.sequence e, same_refl (v.sequence i), act-own c cs i e, on))
      (λ n. rw (same-unlike _ _ (λ e. n (sym (numbers.one _ i turns.live live e))))
      (holds-replayed cs i valid.1 live (sym (act-other c cs i n) ∙ on))))
