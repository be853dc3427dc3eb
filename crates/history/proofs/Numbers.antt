-- What the numbers of a register stand for, and the entries of a history that made them do so.
use Prim.Native.Nat.{ℕ}
use mathlib.Core.Path.{◌≡◌, sym, ◌∙◌, subst}
use mathlib.Core.Logic.{inl, inr, ⊎_elim}
use mathlib.Core.List.{List, ◌∷◌}
use borrow.Author.Tests.{eq-eqb, ne_eqb}
use Rattle.form_entry.specs.declared.Way.{Way}
use Rattle.form_entry.specs.declared.Way.TheVariants.{New as new}
use Rattle.history.specs.Events.{Event, entry, withdrawal, undo, seal, refusal, Occurs, meant}
use Rattle.history.proofs.View.{View, KeepsOthers, New, Again}
use Rattle.history.proofs.Equal.{by_equal}

-- a number stands for a sequence
abbrev pub StandsFor : View → ℕ → List ℕ → Type 0
StandsFor v i t = v.Live i × (v.sequence i ≡ t)

pub record Numbers (h : List Event) (v : View) : Type 0 where
  -- the entry that issued a number made the sequence that it stands for
  pub issued : (i : ℕ) → v.Live i → Occurs (entry new i (v.sequence i)) h
  pub meaning : (i : ℕ) → v.Live i → meant h i ≡ v.sequence i
  -- and so did every entry that answered it
  pub answered : (way : Way) (i : ℕ) (t : List ℕ) → Occurs (entry way i t) h → StandsFor v i t
  pub one : (i j : ℕ) → v.Live i → v.Live j → v.sequence i ≡ v.sequence j → i ≡ j

-- an entry's number stands for its sequence
abbrev pub Stood : View → Event → Type 0
Stood v (entry way i t) = StandsFor v i t
Stood v (withdrawal i) = Unit
Stood v (undo i) = Unit
Stood v seal = Unit
Stood v refusal = Unit

stood_on : {v w : View} {i : ℕ} → KeepsOthers v w i → (j : ℕ) (t : List ℕ) → StandsFor v j t → StandsFor w j t
stood_on keeps j t s = (keeps.lives j s.0, keeps.sequences j s.0 ∙ s.1)

pub again-stands : {v w : View} {i : ℕ} {t : List ℕ} → Again v w i t → w.sequence i ≡ t
again-stands m = (stood_on m.changes.keeps _ _ (m.live, m.stands)).1

-- an event that issues no number
module _ {v w : View} {i : ℕ} (keeps : KeepsOthers v w i) (same : w.Live i → v.Live i) where
  lived-all : (j : ℕ) → w.Live j → v.Live j
  lived-all j live = by_equal j i
      (λ e. subst v.Live (sym e) (same (subst w.Live e live)))
      (λ n. keeps.lived j n live)

  stays : (j : ℕ) → w.Live j → w.sequence j ≡ v.sequence j
  stays j live = keeps.sequences j (lived-all j live)

  pub numbers-kept : {h : List Event} (e : Event) → Numbers h v → ((j : ℕ) → meant (e ∷ h) j ≡ meant h j) → Stood v e
      → Numbers (e ∷ h) w
  numbers-kept {h = h} e n means stood =
      record {
        issued = λ j live. inr (subst (λ (u : List ℕ). Occurs (entry new j u) h) (sym (stays j live))
            (n.issued j (lived-all j live)));
        meaning = λ j live. means j ∙ n.meaning j (lived-all j live) ∙ sym (stays j live);
        answered = λ way j t. ⊎_elim
            (λ last. stood_on keeps j t (subst (Stood v) (sym last) stood))
            (λ before. stood_on keeps j t (n.answered way j t before));
        one = λ j k lj lk same. n.one j k (lived-all j lj) (lived-all k lk) (sym (stays j lj) ∙ same ∙ stays k lk);
      }

-- an entry that issues a number
module _ {h : List Event} {v w : View} {i : ℕ} {t : List ℕ} (n : Numbers h v) (m : New v w i t) where
  others : KeepsOthers v w i
  others = m.changes.keeps

  -- of a number that stands for something: it is the one issued, or it stood for that before
  issued-or : {C : Type 0} (j : ℕ) → w.Live j → (j ≡ i → w.sequence j ≡ t → C)
      → ((j ≡ i → ⊥) → v.Live j → w.sequence j ≡ v.sequence j → C) → C
  issued-or j live f g = by_equal j i
      (λ e. f e (rw e m.stands))
      (λ apart. let before = others.lived j apart live in g apart before (others.sequences j before))

  new-one : (j k : ℕ) → w.Live j → w.Live k → w.sequence j ≡ w.sequence k → j ≡ k
  new-one j k lj lk same = issued-or j lj
      (λ e s. issued-or k lk
      (λ e' s'. e ∙ sym e')
      (λ apart before s'. absurd (m.unlike k before (sym s' ∙ sym same ∙ s))))
      (λ apart before s. issued-or k lk
      (λ e' s'. absurd (m.unlike j before (sym s ∙ same ∙ s')))
      (λ apart' before' s'. n.one j k before before' (sym s ∙ same ∙ s')))

  pub numbers-new : Numbers (entry new i t ∷ h) w
  numbers-new =
      record {
        issued = λ j live. issued-or j live
            (λ e s. inl (cc (e, s)))
            (λ apart before s. inr (subst (λ (u : List ℕ). Occurs (entry new j u) h) (sym s) (n.issued j before)));
        meaning = λ j live. issued-or j live
            (λ e s. rw (eq-eqb i j (sym e)) (sym s))
            (λ apart before s. rw (ne_eqb i j (λ e. apart (sym e))) (n.meaning j before ∙ sym s));
        answered = λ way j u. ⊎_elim
            (λ last. subst (Stood w) (sym last) (m.changes.lives, m.stands))
            (λ before. stood_on others j u (n.answered way j u before));
        one = new-one;
      }
