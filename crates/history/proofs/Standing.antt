-- The changes that stand, and how the statuses and the journal of a register match them.
use Prim.Native.Nat.{ℕ, suc, ◌-◌, ◌≤◌}
use native.Mathlib.Omega.{arith}
use mathlib.Core.Path.{◌≡◌, refl, sym, ◌∙◌, ap, subst}
use mathlib.Core.Bool.{cond}
use mathlib.Core.List.{List, [], ◌∷◌, ◌++◌}
use lib.Dec.{eqb}
use lib.ListN.{length, drop}
use borrow.Author.Tests.{eq-eqb, ne_eqb}
use Rattle.history.specs.Events.{Change, added, removed, number_of}
use Rattle.history.proofs.View.{View, KeepsOthers, Changes, Undone, Sealed}
use Rattle.history.proofs.Equal.{by_equal}

-- the status that a change gives its number
abbrev pub given : Change → ℕ
given (added i t) = 1
given (removed i) = 0

-- the status that changes leave a number with
abbrev pub act : List Change → ℕ → ℕ
act [] i = 0
act (c ∷ cs) i = cond (eqb (number_of c) i) (given c) (act cs i)

-- an added sequence is the one that its number stands for
abbrev pub Means : View → Change → Type 0
Means v (added i t) = v.sequence i ≡ t
Means v (removed i) = Unit

-- a change that turned the status of a number, as the changes below left it, to the other
pub record Turns (v : View) (c : Change) (below : List Change) : Type 0 where
  pub live : v.Live (number_of c)
  pub means : Means v c
  pub other : act below (number_of c) ≡ 1 - given c

abbrev pub Valid : View → List Change → Type 0
Valid v [] = Unit
Valid v (c ∷ cs) = Turns v c cs × Valid v cs

-- the first entries of a journal are, the last one first, the numbers of these changes
abbrev pub Journals : (ℕ → ℕ) → List Change → Type 0
Journals journal [] = Unit
Journals journal (c ∷ cs) = (journal (length cs) ≡ number_of c) × Journals journal cs

-- the changes us, which are not sealed, and ss, which are
pub record Stands (us ss : List Change) (v : View) : Type 0 where
  pub statuses : (i : ℕ) → v.Live i → v.status i ≡ act (us ++ ss) i
  pub valid : Valid v (us ++ ss)
  pub count : v.count ≡ length us
  pub journals : Journals v.journal us

pub act-own : (c : Change) (cs : List Change) (i : ℕ) → i ≡ number_of c → act (c ∷ cs) i ≡ given c
act-own c cs i e = rw (eq-eqb (number_of c) i (sym e)) refl

pub act-other : (c : Change) (cs : List Change) (i : ℕ) → (i ≡ number_of c → ⊥) → act (c ∷ cs) i ≡ act cs i
act-other c cs i n = rw (ne_eqb (number_of c) i (λ e. n (sym e))) refl

-- changes leave alone what stands for nothing
act-fresh : (v : View) (cs : List Change) (i : ℕ) → Valid v cs → (v.Live i → ⊥) → act cs i ≡ 0
act-fresh v [] i valid fresh = refl
act-fresh v (c ∷ cs) i valid fresh =
    act-other c cs i (λ e. fresh (subst v.Live (sym e) valid.0.live)) ∙ act-fresh v cs i valid.1 fresh

-- the status that the changes that stand leave a number with: none where it stands for nothing, else its own
module _ {us ss : List Change} {v : View} (s : Stands us ss v) (i : ℕ) where
  pub stands-fresh : (v.Live i → ⊥) → act (us ++ ss) i ≡ 0
  stands-fresh = act-fresh v (us ++ ss) i s.valid

  pub stands-status : {status : ℕ} → v.Live i → v.status i ≡ status → act (us ++ ss) i ≡ status
  stands-status live e = sym (s.statuses i live) ∙ e

means-kept : (v w : View) (c : Change) → w.sequence (number_of c) ≡ v.sequence (number_of c) → Means v c → Means w c
means-kept v w (added i t) e m = e ∙ m
means-kept v w (removed i) e m = m

module _ {v w : View} (i : ℕ) (keeps : KeepsOthers v w i) where
  status-kept : {us ss : List Change} → Stands us ss v → (j : ℕ) → (j ≡ i → ⊥) → w.Live j
      → w.status j ≡ act (us ++ ss) j
  status-kept s j n live =
      let before : v.Live j = keeps.lived j n live in keeps.statuses j before n ∙ s.statuses j before

  valid-kept : (cs : List Change) → Valid v cs → Valid w cs
  valid-kept [] valid = valid
  valid-kept (c ∷ cs) valid =
      let turns : Turns v c cs = valid.0 in (
        record {
          live = keeps.lives _ turns.live;
          means = means-kept v w c (keeps.sequences _ turns.live) turns.means;
          other = turns.other;
        },
        valid-kept cs valid.1,
      )

  journals-kept : (cs : List Change) → length cs ≤ v.count → Journals v.journal cs → Journals w.journal cs
  journals-kept [] within m = m
  journals-kept (c ∷ cs) within m =
      (keeps.journals (length cs) (omega (arith, within)) ∙ m.0, journals-kept cs (omega (arith, within)) m.1)

-- one more change
pub stands-changed : {us ss : List Change} (c : Change) {v w : View} → Stands us ss v
    → Changes v w (number_of c) (given c) → act (us ++ ss) (number_of c) ≡ 1 - given c → Means w c
    → Stands (c ∷ us) ss w
stands-changed {us} {ss} c {w} s changes other means =
    let i = number_of c in
    let keeps = changes.keeps in
    record {
      statuses = λ j live. by_equal j i
          (λ e. ap w.status e ∙ changes.now ∙ sym (act-own c (us ++ ss) j e))
          (λ n. status-kept i keeps s j n live ∙ sym (act-other c (us ++ ss) j n));
      valid = (
        record { live = changes.lives; means = means; other = other },
        valid-kept i keeps (us ++ ss) s.valid,
      );
      count = changes.count ∙ ap suc s.count;
      journals = (
        ap w.journal (sym s.count) ∙ changes.last,
        journals-kept i keeps us (omega (arith, s.count)) s.journals,
      );
    }

-- an undo: the latest change not sealed is about its number, and no longer stands
module _ {ss : List Change} {v w : View} {i : ℕ} (u : Undone v w i) where
  undone-count : (us : List Change) → Stands us ss v → suc w.count ≡ length us
  undone-count us s = sym u.count ∙ s.count

  undone-own : (c : Change) (us : List Change) → Stands (c ∷ us) ss v → i ≡ number_of c
  undone-own c us s =
      sym u.last ∙ ap v.journal (omega (arith, undone-count (c ∷ us) s)) ∙ s.journals.0

  pub undone-latest : {C : Type 0} (us : List Change) → Stands us ss v
      → ((c : Change) (cs : List Change) → us ≡ c ∷ cs → number_of c ≡ i → C) → C
  undone-latest [] s f = absurd (omega (arith, undone-count [] s))
  undone-latest (c ∷ us) s f = f c us refl (sym (undone-own c us s))

  pub stands-undone : (us : List Change) → Stands us ss v → Stands (drop 1 us) ss w
  stands-undone [] s = absurd (omega (arith, undone-count [] s))
  stands-undone (c ∷ us) s =
      let own : i ≡ number_of c = undone-own c us s in
      let turns : Turns v c (us ++ ss) = s.valid.0 in
      let keeps = u.keeps in
      record {
        statuses = λ j live. by_equal j i
            (λ e. rw (e, u.turned, s.statuses i u.live, act-own c (us ++ ss) i own, own) (sym turns.other))
            (λ n. status-kept i keeps s j n live ∙ act-other c (us ++ ss) j (λ e. n (e ∙ sym own)));
        valid = valid-kept i keeps (us ++ ss) s.valid.1;
        count = omega (arith, undone-count (c ∷ us) s);
        journals = journals-kept i keeps us (omega (arith, s.count)) s.journals.1;
      }

pub stands-sealed : {us ss : List Change} {v w : View} → Stands us ss v → Sealed v w → Stands [] (us ++ ss) w
stands-sealed {us} {ss} {w} s seal =
    let keeps = seal.keeps in
    record {
      statuses = λ j live. status-kept 0 keeps s j (λ e. seal.nought (subst w.Live e live)) live;
      valid = valid-kept 0 keeps (us ++ ss) s.valid;
      count = seal.count;
      journals = tt;
    }
