-- A text's layout as data: its words in their order, each by the values that it says.
use Prim.Native.Nat.{ℕ, ◌<◌, ◌≤◌}
use native.Mathlib.Omega.{arith}
use mathlib.Core.Path.{◌≡◌, refl, ◌∙◌, sym, ap, subst}
use mathlib.Core.Bool.{false}
use mathlib.Core.List.{List, [], ◌∷◌, ◌++◌}
use lib.ListN.{length, get_or, replicate, get_or-append}
use Rattle.alphabets.specs.Alphabets.{residue, digest_length}
use Rattle.decimals.specs.Decimal.{decimal}
use Rattle.decimals.proofs.Reading.{decimal_injective}
use Rattle.words.specs.Prefix.{Begins}
use Rattle.words.specs.Vocabulary.{Word, Digest, Residues, DecimalFrom}
use Rattle.words.proofs.Following.{Then, Apart, Open, word-then, then_is, one_way}
use Rattle.words.proofs.Vocabulary.{decimal-from, some-digest, no-residues, apart-word, apart-digest, digits-on}
use Rattle.words.proofs.Vocabulary.{residues-on}

-- words of a kind by their values: which values fit, and how they are written
pub record Sort : Type 1 where
  pub Value : Type 0
  pub Fits : Value → Type 0
  pub write : Value → List ℕ
  pub Kind : List ℕ → Type 0
  pub kind : (v : Value) → Fits v → Kind (write v)
  pub means : (w : List ℕ) → Kind w → (v : Value) × Fits v × (w ≡ write v)
  pub once : (v v' : Value) → write v ≡ write v' → v ≡ v'
  pub some : Value
  pub fits-some : Fits some

-- one word alone, which says nothing
abbrev pub word_sort : List ℕ → Sort
word_sort word =
    record {
      Value = Unit {0};
      Fits = λ _. Unit {0};
      write = λ _. word;
      Kind = Word word;
      kind = λ _ _. refl;
      means = λ _ e. (tt, tt, e);
      once = λ _ _ _. refl;
      some = tt;
      fits-some = tt;
    }

-- words that say themselves
abbrev spelt : (Kind : List ℕ → Type 0) (w : List ℕ) → Kind w → Sort
spelt Kind w k =
    record {
      Value = List ℕ;
      Fits = Kind;
      write = λ v. v;
      Kind = Kind;
      kind = λ _ k. k;
      means = λ w k. (w, k, refl);
      once = λ _ _ e. e;
      some = w;
      fits-some = k;
    }

abbrev pub digest_sort : Sort
digest_sort = spelt Digest (replicate digest_length 0x41) some-digest

abbrev pub residues_sort : ℕ → Sort
residues_sort most = spelt (Residues most) [] (no-residues most)

-- the decimals of numbers from a lower to an upper limit
abbrev pub number_sort : (least most : ℕ) → least ≤ most → Sort
number_sort least most ordered =
    record {
      Value = ℕ;
      Fits = λ n. (least ≤ n) × (n ≤ most);
      write = decimal;
      Kind = DecimalFrom least most;
      kind = λ n f. decimal-from n f.0 f.1;
      means = λ _ d. (d.number, (d.large, d.small), d.digits);
      once = decimal_injective;
      some = least;
      fits-some = (omega arith, ordered);
    }

-- word after word; what follows one may depend on what it says
pub data Layout : Type 1 where
  close : Layout
  then : (s : Sort) → (s.Value → Layout) → Layout

abbrev pub word : List ℕ → Layout → Layout
word w next = then (word_sort w) (λ _. next)

abbrev pub digest : Layout → Layout
digest next = then digest_sort (λ _. next)

abbrev pub residues : ℕ → Layout → Layout
residues most next = then (residues_sort most) (λ _. next)

abbrev pub number : (least most : ℕ) → least ≤ most → (ℕ → Layout) → Layout
number least most ordered next = then (number_sort least most ordered) next

-- what its words say
abbrev pub Values : Layout → Type 0
Values close = Unit {0}
Values (then s next) = (v : s.Value) × s.Fits v × Values (next v)

abbrev pub written : (l : Layout) → Values l → List ℕ
written close _ = []
written (then s next) v = s.write v.0 ++ written (next v.0) v.2

-- the texts of a layout
pub record Laid (l : Layout) (text : List ℕ) : Type 0 where
  pub values : Values l
  pub laid : text ≡ written l values

-- what may follow a word: what may follow the value that it says
pub record Next (s : Sort) (next : s.Value → Layout) (w text : List ℕ) : Type 0 where
  pub value : s.Value
  pub fits : s.Fits value
  pub means : w ≡ s.write value
  pub follows : Laid (next value) text

-- no word goes on where the next one may begin
abbrev pub Sound : Layout → Type 0
Sound close = Unit {0}
Sound (then s next) = Apart s.Kind (Next s next) × ((v : s.Value) → Sound (next v))

-- words of one length may stand before anything
pub sound-word : (w : List ℕ) (next : Layout) → Sound next → Sound (word w next)
sound-word w next so = (apart-word w _, λ _. so)

pub sound-digest : (next : Layout) → Sound next → Sound (digest next)
sound-digest next so = (apart-digest _, λ _. so)

-- others before a word that begins with none of their bytes
module _ (w : List ℕ) (nonempty : 0 < length w) where
  next-first : (s : Sort) (rest : s.Value → Layout) (v : List ℕ) (c : ℕ)
      → Begins (Next s (λ u. word w (rest u)) v) (c ∷ []) → c ≡ get_or w 0 0
  next-first s rest v c b =
      let l = b.whole.follows in
      ap (λ (t : List ℕ). get_or t 0 0) l.laid
      ∙ get_or-append w (written (rest b.whole.value) l.values.2) 0 0 nonempty

  pub sound-residues : (most : ℕ) → residue (get_or w 0 0) ≡ false → (rest : Layout) → Sound rest
      → Sound (residues most (word w rest))
  sound-residues most f rest so = (apart, λ _. sound-word w rest so)
    where
      apart : Apart (Residues most) (Next (residues_sort most) (λ _. word w rest))
      apart v c k b n =
          let among = residues-on v c most b in
          cc (among, next-first (residues_sort most) (λ _. rest) v c n)

  pub sound-number : (least most : ℕ) (ordered : least ≤ most) → (0x30 ≤ get_or w 0 0 → get_or w 0 0 ≤ 0x39 → ⊥)
      → (rest : ℕ → Layout)
      → ((n : ℕ) → Sound (rest n)) → Sound (number least most ordered (λ n. word w (rest n)))
  sound-number least most ordered f rest so = (apart, λ n. sound-word w (rest n) (so n))
    where
      apart : Apart (DecimalFrom least most) (Next (number_sort least most ordered) (λ n. word w (rest n)))
      apart v c k b n =
          let among = digits-on v c least most b in
          let first = next-first (number_sort least most ordered) rest v c n in
          f (omega (arith, among.0, first)) (omega (arith, among.1, first))

-- some values
some : (l : Layout) → Values l
some close = tt
some (then s next) = (s.some, s.fits-some, some (next s.some))

-- by one word, and then the rest
module _ (s : Sort) (next : s.Value → Layout) where
  after : (v : Values (then s next)) → Next s next (s.write v.0) (written (next v.0) v.2)
  after v = record { value = v.0; fits = v.1; means = refl; follows = record { values = v.2; laid = refl } }

  pub laid_then : (text : List ℕ) → Laid (then s next) text → Then s.Kind (Next s next) text
  laid_then text l =
      let v = l.values in
      rw l.laid (word-then (s.write v.0) (written (next v.0) v.2) (s.kind v.0 v.1) (after v))

  pub then-laid : (text : List ℕ) → Then s.Kind (Next s next) text → Laid (then s next) text
  then-laid text t =
      let n = t.follows in
      record { values = (n.value, n.fits, n.follows.values); laid = then_is t n.means n.follows.laid }

  pub opens : (w : List ℕ) → s.Kind w → Open (Next s next w)
  opens w k =
      let r = s.means w k in
      let v = some (next r.0) in
      record {
        text = written (next r.0) v;
        is-text = record { value = r.0; fits = r.1; means = r.2; follows = record { values = v; laid = refl } };
      }

  -- texts that are one have one first value, and then texts that are one
  pub then-once : Sound (then s next) → (x y : Values (then s next)) → written (then s next) x ≡ written (then s next) y
      → (s.write x.0 ≡ s.write y.0) × (written (next x.0) x.2 ≡ written (next y.0) y.2)
  then-once so x y e =
      one_way s.Kind (Next s next) so.0
      (s.write x.0) (written (next x.0) x.2) (s.write y.0) (written (next y.0) y.2) e
      (s.kind x.0 x.1) (s.kind y.0 y.1) (after x) (after y)

-- so they have the same words
abbrev pub words : (l : Layout) → Values l → List (List ℕ)
words close _ = []
words (then s next) v = s.write v.0 ∷ words (next v.0) v.2

pub words-once : (l : Layout) → Sound l → (x y : Values l) → written l x ≡ written l y → words l x ≡ words l y
words-once close so x y e = refl
words-once (then s next) so x y e =
    let cut = then-once s next so x y e in
    let front = words-once (next x.0) (so.1 x.0) x.2 in
    let rest = subst Rest (s.once x.0 y.0 cut.0) front y.2 cut.1 in
    λ i. cut.0 i ∷ rest i
  where
    Rest : s.Value → Type 0
    Rest u = (z : Values (next u)) → written (next x.0) x.2 ≡ written (next u) z
        → words (next x.0) x.2 ≡ words (next u) z

-- a kind of texts that has a layout
pub record LaidOut (Kind : List ℕ → Type 0) (l : Layout) : Type 0 where
  pub sound : Sound l
  pub values : (text : List ℕ) → Kind text → Values l
  pub laid : (text : List ℕ) (k : Kind text) → text ≡ written l (values text k)
  pub kind : (text : List ℕ) (v : Values l) → text ≡ written l v → Kind text

-- a text of the kind has its words in one way
pub word-once : {Kind : List ℕ → Type 0} {l : Layout} (out : LaidOut Kind l) (i : ℕ) (text : List ℕ) (a b : Kind text)
    → get_or (words l (out.values text a)) i [] ≡ get_or (words l (out.values text b)) i []
word-once {l = l} out i text a b =
    ap (λ (ws : List (List ℕ)). get_or ws i [])
    (words-once l out.sound (out.values text a) (out.values text b) (sym (out.laid text a) ∙ out.laid text b))
