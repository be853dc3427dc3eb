-- A walk over the words of a layout: what it has found in the text, or how far the text goes.
use Rattle.std.proofs.Common.{rules}
use Prim.Native.Nat.{ℕ, ◌+◌, ◌-◌, ◌<◌, ◌≤◌}
use native.Mathlib.Omega.{arith}
use mathlib.Core.Logic.{◌⊎◌, inl, ⊎_elim}
use mathlib.Core.Path.{◌≡◌, refl, ◌∙◌, sym, ap}
use mathlib.Core.Bool.{true, false}
use mathlib.Core.List.{List, [], ◌++◌, append_assoc, append-nil}
use lib.ListN.{length, take, drop, length-drop, drop_of_length-le}
use lib.Seq.{drop-drop}
use Rattle.stretch.specs.Part.{part}
use Rattle.stretch.proofs.Cases.{by_cases}
use Rattle.stretch.proofs.Interval.{length_part, drop-start}
use Rattle.words.specs.Walk.{Walk}
use Rattle.words.specs.Prefix.{Refuses}
use Rattle.words.specs.Vocabulary.{Word, Digest, Residues}
use Rattle.words.specs.Walk.{Onward, Counts}
use Rattle.words.proofs.Onwards.{onward-stopped}
use Rattle.words.proofs.Following.{Then, Done, Apart, goes-only, goes-longest, stops-refuses, done-refuses}
use Rattle.words.proofs.Following.{refuses-alike}
use Rattle.words.proofs.Layouts.{Sort, word_sort, digest_sort, residues_sort, number_sort, Layout, close, then}
use Rattle.words.proofs.Layouts.{Values, written, Laid, Next, Sound, laid_then, then-laid, opens, LaidOut}

-- a step past a word, and what it says
pub record Step (s : Sort) (text : List ℕ) (a b : Walk) (v : s.Value) : Type 0 where
  pub onward : Onward s.Kind text a b
  pub fits : a.on ≡ true → b.on ≡ true → s.Fits v
  pub means : a.on ≡ true → b.on ≡ true → part text a.at b.at ≡ s.write v

module _ {text : List ℕ} {a b : Walk} where
  pub step-word : {w : List ℕ} → Onward (Word w) text a b → Step (word_sort w) text a b tt
  step-word o = record { onward = o; fits = λ _ _. tt; means = λ d e. (o.goes d e).word }

  pub step-digest : Onward Digest text a b → Step digest_sort text a b (part text a.at b.at)
  step-digest o = record { onward = o; fits = λ d e. (o.goes d e).word; means = λ _ _. refl }

  pub step-residues : {most : ℕ} → Onward (Residues most) text a b
      → Step (residues_sort most) text a b (part text a.at b.at)
  step-residues o = record { onward = o; fits = λ d e. (o.goes d e).word; means = λ _ _. refl }

  pub step-number : {least most n : ℕ} {ordered : least ≤ most} → Counts least most text a b n
      → Step (number_sort least most ordered) text a b n
  step-number o = record { onward = o.onward; fits = λ d e. (o.large d e, o.small); means = o.digits }

-- a walk past all of them, from the front of the text
abbrev pub begun : Walk
begun = record { at = 0; on = true }

abbrev pub Walked : Layout → List ℕ → Walk → Walk → Type 0
Walked close text a b = b ≡ a
Walked (then s next) text a b = (c : Walk) × (v : s.Value) × Step s text a c v × Walked (next v) text c b

module _ (text : List ℕ) where
  -- a walk that is off goes past all words where it is
  pub walked-off : (l : Layout) (a : Walk) → a.at ≤ length text → a.on ≡ false → Walked l text a a
  walked-off close a h f = refl
  walked-off (then s next) a h f =
      let step : Step s text a a s.some = record {
        onward = onward-stopped s.Kind text a h f;
        fits = λ t _. cc;
        means = λ t _. cc;
      } in
      (a, s.some, step, walked-off (next s.some) a h f)

  -- a walk that is off stays where it is
  stays : (l : Layout) (a b : Walk) → Walked l text a b → a.on ≡ false → b ≡ a
  stays close a b w f = w
  stays (then s next) a b w f =
      let o : w.0 ≡ a = w.2.onward.stays f in
      stays (next w.1) w.0 b w.3 (ap (λ (c : Walk). c.on) o ∙ f) ∙ o

  -- so one that is on was on before
  pub walked_on : (l : Layout) (a b : Walk) → Walked l text a b → b.on ≡ true → a.on ≡ true
  walked_on l a b w e = by_cases a.on (λ t. t) (λ t. cc (stays l a b w t))

  forth : (l : Layout) (a b : Walk) → Walked l text a b → a.at ≤ b.at
  forth close a b w = omega (arith, ap (λ (c : Walk). c.at) w)
  forth (then s next) a b w = omega (arith, w.2.onward.forth, forth (next w.1) w.0 b w.3)

  -- the values that a walk has found
  abbrev pub found : (l : Layout) (a b : Walk) → Walked l text a b → b.on ≡ true → Values l
  found close a b w e = tt
  found (then s next) a b w e =
      let d = walked_on (next w.1) w.0 b w.3 e in
      (w.1, w.2.fits (walked_on (then s next) a b w e) d, found (next w.1) w.0 b w.3 e)

  pub found_all : (l : Layout) (a b : Walk) (w : Walked l text a b) (e : b.on ≡ true)
      → drop a.at text ≡ written l (found l a b w e) ++ drop b.at text
  found_all close a b w e = ap (λ (c : Walk). drop c.at text) (sym w)
  found_all (then s next) a b w e =
      let c = w.0 in
      let d = walked_on (next w.1) c b w.3 e in
      let rest = written (next w.1) (found (next w.1) c b w.3 e) in
      drop-start text a.at c.at w.2.onward.forth
      ∙ (λ i. w.2.means (walked_on (then s next) a b w e) d i ++ found_all (next w.1) c b w.3 e i)
      ∙ sym (append_assoc (s.write w.1) rest (drop b.at text))

  -- each word ends as far from where it begins as what it says is long
  abbrev pub Placed : (l : Layout) (a b : Walk) → Walked l text a b → Type 0
  Placed close a b w = Unit {0}
  Placed (then s next) a b w = (w.0.at ≡ a.at + length (s.write w.1)) × Placed (next w.1) w.0 b w.3

  pub walked-placed : (l : Layout) (a b : Walk) (w : Walked l text a b) → b.on ≡ true → Placed l a b w
  walked-placed close a b w e = tt
  walked-placed (then s next) a b w e =
      let o = w.2.onward in
      let d = walked_on (next w.1) w.0 b w.3 e in
      let long = ap length (w.2.means (walked_on (then s next) a b w e) d) in (
        omega (arith, o.forth, length_part text a.at w.0.at o.forth o.within, long),
        walked-placed (next w.1) w.0 b w.3 e,
      )

  -- past one word
  module _ (s : Sort) (next : s.Value → Layout) (a c : Walk) (v : s.Value) (o : Step s text a c v)
      (apart : Apart s.Kind (Next s next)) (on : a.on ≡ true) where
    left : List ℕ
    left = drop a.at text

    steps : ℕ
    steps = c.at - a.at

    step-stops : c.on ≡ false → Refuses (Then s.Kind (Next s next)) left steps
    unfolding left steps
    step-stops f = stops-refuses s.Kind (Next s next) left steps (o.onward.stops on f) (opens s next)

    -- the word says one value, so what follows it follows that
    module _ (e : c.on ≡ true) where
      behind : drop steps left ≡ drop c.at text
      unfolding left steps
      behind =
          let there : a.at + steps ≡ c.at = omega (arith, o.onward.forth) in
          drop-drop steps a.at text ∙ ap (λ (k : ℕ). drop k text) there

      laid_next : (t : List ℕ) → Laid (next v) t → Next s next (take steps left) t
      unfolding left steps
      laid_next t l = record { value = v; fits = o.fits on e; means = o.means on e; follows = l }

      next-laid : (t : List ℕ) → Next s next (take steps left) t → Laid (next v) t
      unfolding left steps
      next-laid t n = search (rules)

      step-refuses : (i : ℕ) → Refuses (Laid (next v)) (drop c.at text) i
          → Refuses (Then s.Kind (Next s next)) left (steps + i)
      unfolding left steps
      step-refuses i r =
          let g = o.onward.goes on e in
          let q : Refuses (Next s next (take steps left)) (drop steps left) i
          = refuses-alike (Laid (next v)) (Next s next (take steps left)) laid_next next-laid (drop steps left) i
          (rw behind r) in
          record {
            other = λ t. q.other (goes-only s.Kind (Next s next) left steps g apart t);
            longest = goes-longest s.Kind (Next s next) left steps g apart i q.longest;
          }

  -- a walk that ends before the text does, or is off
  refuses : (l : Layout) → Sound l → (a b : Walk) → Walked l text a b → a.on ≡ true → a.at ≤ length text
      → (b.on ≡ false) ⊎ (b.at ≡ length text → ⊥) → Refuses (Laid l) (drop a.at text) (b.at - a.at)
  unfolding left steps
  refuses close so a b w on h f =
      let at : b.at ≡ a.at = ap (λ (c : Walk). c.at) w in
      let none : b.at - a.at ≡ 0 = omega (arith, at) in
      let more : 0 < length (drop a.at text) = ⊎_elim
      (λ g. cc (ap (λ (c : Walk). c.on) w))
      (λ g. let q : a.at ≡ length text → ⊥ = λ m. g (at ∙ m) in rw length-drop (by_less q)) f in
      rw none
      (refuses-alike Done (Laid close) (λ t e. record { values = tt; laid = e }) (λ t l. l.laid) (drop a.at text) 0
      (done-refuses (drop a.at text) more))
    where
      by_less : (a.at ≡ length text → ⊥) → 0 < length text - a.at
      by_less q = omega (arith, q, h)
  refuses (then s next) so a b w on h f =
      let c = w.0 in
      let o = w.2 in
      let go = forth (next w.1) c b w.3 in
      refuses-alike (Then s.Kind (Next s next)) (Laid (then s next)) (then-laid s next) (laid_then s next)
      (drop a.at text) (b.at - a.at)
      (by_cases c.on
      (λ e. let more : c.at - a.at + (b.at - c.at) ≡ b.at - a.at = omega (arith, o.onward.forth, go) in
      let r = refuses (next w.1) (so.1 w.1) c b w.3 e o.onward.within f in
      rw more at (step-refuses s next a c w.1 o so.0 on e (b.at - c.at) r))
      (λ e. rw (stays (next w.1) c b w.3 e) (step-stops s next a c w.1 o so.0 on e)))

-- over the whole text, of a kind that has the layout
module _ {Kind : List ℕ → Type 0} {l : Layout} (out : LaidOut Kind l) (text : List ℕ) (b : Walk)
    (w : Walked l text begun b) where
  abbrev pub walked-reads : b.on ≡ true → b.at ≡ length text → Kind text
  walked-reads e h = out.kind text (found text l begun b w e) (all e h)
    where
      all : (e : b.on ≡ true) → b.at ≡ length text → text ≡ written l (found text l begun b w e)
      all e h =
          let none : drop b.at text ≡ [] = drop_of_length-le text {i = b.at} (omega arith) in
          rw (none, append-nil) at (found_all text l begun b w e)

  pub walked-refuses : (b.on ≡ false) ⊎ (b.at ≡ length text → ⊥) → Refuses Kind text b.at
  walked-refuses f =
      let e : b.at - 0 ≡ b.at = omega arith in
      refuses-alike (Laid l) Kind (λ t k. out.kind t k.values k.laid)
      (λ t k. record { values = out.values t k; laid = out.laid t k }) text b.at
      (rw e at (refuses text l out.sound begun b w refl (omega arith) f))

-- a walk that is off before some words of the layout
pub stopped-refuses : {Kind : List ℕ → Type 0} {l : Layout} (out : LaidOut Kind l) (text : List ℕ) (rest : Layout)
    (b : Walk) → (Walked rest text b b → Walked l text begun b) → b.at ≤ length text → b.on ≡ false
    → Refuses Kind text b.at
stopped-refuses out text rest b whole h f = walked-refuses out text b (whole (walked-off text rest b h f)) (inl f)
