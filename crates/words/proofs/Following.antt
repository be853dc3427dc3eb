-- Texts by words: a word, then what may follow it. How far such a text is read is how far its word is, and then what
-- follows it.
use Rattle.std.proofs.Common.{rules}
use Prim.Native.Nat.{ℕ, suc, ◌+◌, ◌-◌, ◌<◌, ◌≤◌}
use native.Mathlib.Omega.{arith}
use mathlib.Core.Path.{◌≡◌, refl, ◌∙◌, sym, ap, subst}
use mathlib.Core.List.{List, [], ◌∷◌, ◌++◌, append_assoc, append-nil, append_cancel_left}
use lib.Dec.{ltb}
use lib.ListN.{length, get_or, take, drop, length-append, length-drop, take-append-drop}
use lib.Seq.{length-take-le, take_all, split_at, append_snoc, take-append_seam, take-append-le, take-take, take-add}
use lib.Seq.{take_at}
use borrow.Author.Tests.{ltb-true, ltb-false}
use Rattle.stretch.specs.Part.{part}
use Rattle.stretch.proofs.Cases.{by_cases}
use Rattle.stretch.proofs.Interval.{take-end}
use Rattle.stretch.proofs.Join.{append-same}
use Rattle.stretch.proofs.Tail.{lent-tail}
use Rattle.words.specs.Prefix.{Begins, Longest, Refuses}
use Rattle.words.specs.Walk.{Goes, Stops}

-- two lists that begin one list: the shorter begins the longer
front_of : (x u y v : List ℕ) → x ++ u ≡ y ++ v → length x ≤ length y → take (length x) y ≡ x
front_of x u y v e h = sym (take-append-le (length x) y v h) ∙ ap (take (length x)) (sym e) ∙ take-append_seam x u

-- a list is its own front
all-front : (s : List ℕ) → take (length s) s ++ [] ≡ s
all-front s = append-nil (take (length s) s) ∙ take_all (length s) s (omega arith)

compare : {C : Type 0} (a b : ℕ) → (a < b → C) → (b < a → C) → (a ≡ b → C) → C
compare a b f g h = search rules

-- a word of a kind, then what may follow that word
pub record Then (Kind : List ℕ → Type 0) (Next : List ℕ → List ℕ → Type 0) (text : List ℕ) : Type 0 where
  pub word : List ℕ
  pub rest : List ℕ
  pub is_word : Kind word
  pub follows : Next word rest
  pub joined : text ≡ word ++ rest

pub word-then : {Kind : List ℕ → Type 0} {Next : List ℕ → List ℕ → Type 0} (w v : List ℕ) → Kind w → Next w v
    → Then Kind Next (w ++ v)
word-then w v k n = record { word = w; rest = v; is_word = k; follows = n; joined = refl }

pub then_is : {Kind : List ℕ → Type 0} {Next : List ℕ → List ℕ → Type 0} {s w v : List ℕ} (t : Then Kind Next s)
    → t.word ≡ w → t.rest ≡ v → s ≡ w ++ v
then_is t p q = t.joined ∙ (λ i. p i ++ q i)

word-within : {Kind : List ℕ → Type 0} {Next : List ℕ → List ℕ → Type 0} {s : List ℕ} (t : Then Kind Next s)
    → length t.word ≤ length s
word-within t = omega (arith, ap length t.joined, length-append t.word t.rest)

-- nothing more
abbrev pub Done : List ℕ → Type 0
Done text = text ≡ []

-- a word that a longer word goes on from is not followed by the byte it goes on with
abbrev pub Apart : (List ℕ → Type 0) → (List ℕ → List ℕ → Type 0) → Type 0
Apart Kind Next = (w : List ℕ) (c : ℕ) → Kind w → Begins Kind (w ++ (c ∷ [])) → Begins (Next w) (c ∷ []) → ⊥

-- some text is of the kind
pub record Open (Kind : List ℕ → Type 0) : Type 0 where
  pub text : List ℕ
  pub is-text : Kind text

pub open_done : Open Done
open_done = record { text = []; is-text = refl }

-- the first bytes of a text of a kind begin one
begins-take : (Kind : List ℕ → Type 0) (w : List ℕ) (j : ℕ) → Kind w → Begins Kind (take j w)
begins-take Kind w j k = record { rest = drop j w; whole = rw (take-append-drop j w) k }

module _ (Kind : List ℕ → Type 0) (Next : List ℕ → List ℕ → Type 0) where
  pub open-then : (w : List ℕ) → Kind w → Open (Next w) → Open (Then Kind Next)
  open-then w k o = record { text = w ++ o.text; is-text = word-then w o.text k o.is-text }

  -- of two words that begin one text the one that is followed is not the shorter
  not-shorter : Apart Kind Next → (w v w' v' : List ℕ) → w ++ v ≡ w' ++ v' → Kind w → Next w v → Kind w'
      → length w < length w' → ⊥
  not-shorter apart w v w' v' e k n k' h =
      let c = get_or w' (length w) 0 in
      let d = drop (suc (length w)) w' in
      let split : w' ≡ w ++ (c ∷ d) = split_at w' (length w) 0 h
      ∙ ap (λ (l : List ℕ). l ++ (c ∷ d)) (front_of w v w' v' e (omega arith)) in
      let behind : v ≡ c ∷ (d ++ v') =
      append_cancel_left w v (c ∷ (d ++ v')) (e ∙ ap (λ (l : List ℕ). l ++ v') split ∙ append_assoc w (c ∷ d) v') in
      apart w c k
      (record { rest = d; whole = subst Kind (split ∙ sym (append_snoc w c d)) k' })
      (record { rest = d ++ v'; whole = subst (Next w) behind n })

  -- a text is read in one way
  pub one_way : Apart Kind Next → (w v w' v' : List ℕ) → w ++ v ≡ w' ++ v' → Kind w → Kind w' → Next w v → Next w' v'
      → (w ≡ w') × (v ≡ v')
  one_way apart w v w' v' e k k' n n' =
      compare (length w) (length w')
      (λ h. absurd (not-shorter apart w v w' v' e k n k' h))
      (λ h. absurd (not-shorter apart w' v' w v (sym e) k' n' k h))
      (λ h. append-same w w' v v' h e)

  -- s has gone on by a word
  module _ (s : List ℕ) (k : ℕ) (g : Goes Kind s k) (apart : Apart Kind Next) where
    long : length (take k s) ≡ k
    long = length-take-le k s g.within

    -- a text that agrees with s for long enough has that word
    same_word : (j : ℕ) → k ≤ j → j ≤ length s → (u w v : List ℕ) → take j s ++ u ≡ w ++ v → Kind w → Next w v
        → (k < length w → k < j)
        → (take k s ≡ w) × (part s k j ++ u ≡ v)
    same_word j h l u w v e kind next f =
        compare (length w) k
        (λ t. absurd (not-shorter apart w v (take k s) (part s k j ++ u) (sym joined) kind next g.word
        (omega (arith, long))))
        (λ t. absurd (longer t))
        (λ t. append-same (take k s) w (part s k j ++ u) v (omega (arith, long)) joined)
      where
        joined : take k s ++ (part s k j ++ u) ≡ w ++ v
        joined = sym (append_assoc (take k s) (part s k j) u) ∙ ap (λ (l : List ℕ). l ++ u) (sym (take-end s k j h)) ∙ e

        longer : k < length w → ⊥
        longer h' =
            let less : k < j = f h' in
            let front : take (suc k) s ≡ take (suc k) w
            = sym (take-take (suc k) j s (omega arith))
            ∙ sym (take-append-le (suc k) (take j s) u (simp (length-take-le j s l) (omega arith)))
            ∙ ap (take (suc k)) e ∙ take-append-le (suc k) w v (omega arith) in
            g.furthest (suc k) (omega arith) (omega arith) (rw front (begins-take Kind w (suc k) kind))

    pub goes-only : Then Kind Next s → Next (take k s) (drop k s)
    goes-only t =
        let met = same_word (length s) g.within (omega arith) [] t.word t.rest (all-front s ∙ t.joined)
        t.is_word t.follows
        (λ h. omega (arith, word-within t)) in
        let left : drop k s ≡ t.rest = sym (append-nil (drop k s))
        ∙ ap (λ (l : List ℕ). l ++ []) (sym (lent-tail s k)) ∙ met.1 in
        rw (met.0, left) t.follows

    pub goes-longest : (i : ℕ) → Longest (Next (take k s)) (drop k s) i → Longest (Then Kind Next) s (k + i)
    goes-longest i f =
        record {
          within = room;
          begins = record {
            rest = f.begins.rest;
            whole = rw (take-add k i s, append_assoc)
                (word-then (take k s) (take i (drop k s) ++ f.begins.rest) g.word f.begins.whole);
          };
          furthest = λ j h l b.
              let t = b.whole in
              let met = same_word j (omega arith) l b.rest t.word t.rest t.joined t.is_word t.follows
              (λ _. omega arith) in
              f.furthest (j - k) (omega arith) (simp length-drop (omega arith))
              (record { rest = b.rest; whole = rw (met.0, met.1) t.follows });
        }
      where
        room : k + i ≤ length s
        room = omega (arith, g.within, f.within, length-drop k s)

  -- s stops in a word
  module _ (s : List ℕ) (k : ℕ) (g : Stops Kind s k) (opens : (w : List ℕ) → Kind w → Open (Next w)) where
    no_word : (u w v : List ℕ) (j : ℕ) → j ≤ length s → take j s ++ u ≡ w ++ v → length w ≤ j → Kind w → ⊥
    no_word u w v j h e l kind =
        let word : take (length w) s ≡ w = sym (take-take (length w) j s l)
        ∙ front_of w v (take j s) u (sym e) (simp (length-take-le j s h) l) in
        compare k (length w)
        (λ t. g.longest.furthest (length w) t (omega arith)
        (record { rest = []; whole = rw (append-nil, word) kind }))
        (λ t. g.never (length w) (omega arith) (rw word kind))
        (λ t. g.never (length w) (omega arith) (rw word kind))

    pub stops-refuses : Refuses (Then Kind Next) s k
    stops-refuses =
        record {
          other = λ t. no_word [] t.word t.rest (length s) (omega arith) (all-front s ∙ t.joined)
              (word-within t) t.is_word;
          longest = record {
            within = g.longest.within;
            begins = let b = g.longest.begins in let o = opens _ b.whole in
                record {
                  rest = b.rest ++ o.text;
                  whole = rw (← append_assoc (take k s) b.rest o.text)
                      (word-then (take k s ++ b.rest) o.text b.whole o.is-text);
                };
            furthest = further;
          };
        }
      where
        further : (j : ℕ) → k < j → j ≤ length s → Begins (Then Kind Next) (take j s) → ⊥
        further j h l b =
            let t = b.whole in
            by_cases (ltb (length t.word) j)
            (λ q. no_word b.rest t.word t.rest j l t.joined (omega (arith, ltb-true)) t.is_word)
            (λ q. let front : take j s ≡ take j t.word
            = sym (take_at (take j s) b.rest j (length-take-le j s l)) ∙ ap (take j) t.joined
            ∙ take-append-le j t.word t.rest (ltb-false _ _ q) in
            g.longest.furthest j h l (rw front (begins-take Kind t.word j t.is_word)))

-- where the end is, nothing more may stand
pub done-refuses : (s : List ℕ) → 0 < length s → Refuses Done s 0
done-refuses s h = search rules

-- two kinds of one meaning
module _ (L M : List ℕ → Type 0) (f : (t : List ℕ) → L t → M t) (g : (t : List ℕ) → M t → L t) (s : List ℕ)
    (i : ℕ) where
  pub longest-alike : Longest L s i → Longest M s i
  longest-alike r = search rules

  pub refuses-alike : Refuses L s i → Refuses M s i
  refuses-alike r = record { other = λ t. r.other (g s t); longest = longest-alike r.longest }

-- there is one longest prefix
pub longest-once : (Kind : List ℕ → Type 0) (text : List ℕ) (i j : ℕ) → Longest Kind text i → Longest Kind text j
    → i ≡ j
longest-once Kind text i j f g = search rules
