-- Steps of a walk: none where it had stopped, and past one word or into it.
use Rattle.std.proofs.Common.{rules}
use Prim.Native.Nat.{ℕ, ◌+◌, ◌-◌, ◌≤◌, min}
use native.Mathlib.Nat.{add-sub_cancel_left}
use mathlib.Core.Path.{◌≡◌}
use mathlib.Core.Bool.{Bool, true, false}
use mathlib.Core.List.{List}
use lib.Dec.{eqb}
use lib.ListN.{length, take, drop, length-drop}
use borrow.Author.Tests.{eqb-true, eqb-false}
use Rattle.alphabets.specs.Alphabets.{base64url, foreign, digest_length}
use Rattle.std.specs.Prelude.{Result, Ok}
use Rattle.stretch.specs.Common.{lcp}
use Rattle.stretch.specs.Class.{first_outside}
use Rattle.stretch.proofs.Tail.{lent-tail}
use Rattle.words.specs.declared.Stopped.{Stopped}
use Rattle.words.specs.Vocabulary.{Word, Digest, Residues}
use Rattle.words.specs.Walk.{Walk, walk_of, Goes, Stops, Onward}
use Rattle.words.proofs.Readings.{lent-most, goes-word, stops-word, goes-digest, stops-digest, goes-residues}

pub onward-stopped : (Kind : List ℕ → Type 0) (text : List ℕ) (a : Walk) → a.at ≤ length text → a.on ≡ false
    → Onward Kind text a a
onward-stopped Kind text a inside f = search rules

module _ (Kind : List ℕ → Type 0) (text : List ℕ) (from n : ℕ) (inside : from ≤ length text) where
  pub onward-step : (t : Bool) → (t ≡ true → Goes Kind (drop from text) n)
      → (t ≡ false → Stops Kind (drop from text) n)
      → Onward Kind text (record { at = from; on = true }) (record { at = from + n; on = t })
  onward-step t goes stops = search (rules, length-drop, add-sub_cancel_left)

-- the words that are read from where a walk goes on
module _ {text : List ℕ} {a : Result ℕ Stopped} {from n : ℕ} (was : a ≡ Ok from)
    (inside : (walk_of a).at ≤ length text) where
  onward_kind : (Kind : List ℕ → Type 0) (t : Bool) → (t ≡ true → Goes Kind (drop from text) n)
      → (t ≡ false → Stops Kind (drop from text) n)
      → Onward Kind text (walk_of a) (record { at = from + n; on = t })
  onward_kind Kind t goes stops = rw was (onward-step Kind text from n (rw was at inside) t goes stops)

  pub onward_word : {w : List ℕ} → n ≡ lcp w (take (length text - from) (drop from text))
      → Onward (Word w) text (walk_of a) (record { at = from + n; on = eqb n (length w) })
  onward_word {w} shared =
      let same = rw lent-tail at shared in
      onward_kind (Word w) (eqb n (length w))
      (λ e. goes-word w _ n same (eqb-true _ _ e)) (λ e. stops-word w _ n same (eqb-false _ _ e))

  pub onward_digest : n ≡ first_outside base64url
      (take (from + min digest_length (length text - from) - from) (drop from text))
      → Onward Digest text (walk_of a) (record { at = from + n; on = eqb n digest_length })
  onward_digest lent =
      let first = rw lent-most at lent in
      onward_kind Digest (eqb n digest_length)
      (λ e. goes-digest _ n first (eqb-true _ _ e)) (λ e. stops-digest _ n first (eqb-false _ _ e))

  pub onward_residues : {most : ℕ} → n ≡ foreign (take (from + min most (length text - from) - from) (drop from text))
      → Onward (Residues most) text (walk_of a) (record { at = from + n; on = true })
  onward_residues {most} lent =
      onward_kind (Residues most) true (λ _. goes-residues most _ n (rw lent-most at lent)) (λ e. cc)
