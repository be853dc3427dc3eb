-- How far a text goes with a word, with a digest, with residues.
use Rattle.std.proofs.Common.{rules}
use Prim.Native.Nat.{ℕ, zero, suc, ◌+◌, ◌-◌, ◌≤◌, min}
use native.Mathlib.Nat.{add-sub_cancel_left}
use native.Mathlib.Omega.{arith}
use mathlib.Core.Path.{◌≡◌, refl, ◌∙◌, sym, ap}
use mathlib.Core.Bool.{Bool, true}
use mathlib.Core.List.{List, ◌++◌}
use lib.ListN.{length, take, drop, replicate, length-append, length-take, length-drop, length-replicate}
use lib.ListN.{take-append-drop}
use lib.Seq.{length-take-le, take_all, take-take}
use Rattle.stretch.specs.Common.{lcp}
use Rattle.stretch.proofs.Common.{lcp-le-left, lcp-le-right, lcp-take, lcp-past}
use Rattle.stretch.specs.Class.{every, first_outside}
use Rattle.alphabets.specs.Alphabets.{residue, base64url, foreign, digest_length}
use Rattle.stretch.proofs.Class.{every_append, every_front}
use Rattle.stretch.proofs.Outside.{first_outside-le, first_outside-take, first_outside-max}
use Rattle.words.specs.Prefix.{Begins}
use Rattle.words.specs.Vocabulary.{Word, Digest, Residues}
use Rattle.words.specs.Walk.{Goes, Stops}

-- the first so many bytes from a place on, as lending them shows it
pub lent-most : (l : List ℕ) (place most : ℕ)
    → take (place + min most (length l - place) - place) (drop place l) ≡ take most (drop place l)
lent-most l place most = search (rules, add-sub_cancel_left, take_all, length-drop)

-- one word: as far as the two agree
module _ (w s : List ℕ) (n : ℕ) (shared : n ≡ lcp w s) where
  begins-word : (j : ℕ) → j ≤ length s → Begins (Word w) (take j s) → j ≤ n
  begins-word j h b =
      let e : lcp w s ≡ length (take j s) + lcp b.rest (drop j s)
      = (λ i. lcp (sym b.whole i) (sym (take-append-drop j s) i)) ∙ lcp-past (take j s) b.rest (drop j s) in
      omega (arith, length-take-le j s h)

  pub goes-word : n ≡ length w → Goes (Word w) s n
  goes-word e =
      record {
        within = omega (arith, lcp-le-right w s);
        word = sym (lcp-take w s n (omega arith)) ∙ take_all n w (omega arith);
        furthest = λ j h g b. omega (arith, begins-word j g b);
      }

  pub stops-word : (n ≡ length w → ⊥) → Stops (Word w) s n
  stops-word f =
      record {
        longest = record {
          within = omega (arith, lcp-le-right w s);
          begins = record { rest = drop n w; whole = rw (← lcp-take w s n (omega arith)) (take-append-drop n w) };
          furthest = λ j h g b. omega (arith, begins-word j g b);
        };
        never = λ j h e. f (omega
            (arith, ap length e, length-take-le j s (omega (arith, lcp-le-right w s)), lcp-le-left w s));
      }

-- bytes of a class, among the first so many
module _ (p : ℕ → Bool) (most : ℕ) (s : List ℕ) (n : ℕ) (first : n ≡ first_outside p (take most s)) where
  first-within : n ≤ length s
  first-within = omega (arith, first_outside-le p (take most s), length-take most s)

  first-few : n ≤ most
  first-few = omega (arith, first_outside-le p (take most s), length-take most s)

  first-every : every p (take n s) ≡ true
  first-every =
      rw (← take-take n most s first-few, first) (first_outside-take p (take most s))

  first-max : (j : ℕ) (rest : List ℕ) → j ≤ length s → j ≤ most → every p (take j s ++ rest) ≡ true → j ≤ n
  first-max j rest h g e = search (rules, first_outside-max, length-take, take-take, every_front)

-- characters that make up a digest text
every-filled : (k : ℕ) → every base64url (replicate k 0x41) ≡ true
unfolding every base64url
every-filled zero = refl
every-filled (suc k) = every-filled k

module _ (s : List ℕ) (n : ℕ) (first : n ≡ first_outside base64url (take digest_length s)) where
  within : n ≤ length s
  within = first-within base64url digest_length s n first

  characters : every base64url (take n s) ≡ true
  characters = first-every base64url digest_length s n first

  begins-digest : (j : ℕ) → j ≤ length s → Begins Digest (take j s) → j ≤ n
  begins-digest j h b =
      let long : length (take j s) + length b.rest ≡ digest_length = rw length-append at b.whole.long in
      first-max base64url digest_length s n first j b.rest h
      (omega (arith, length-take-le j s h)) b.whole.characters

  pub goes-digest : n ≡ digest_length → Goes Digest s n
  goes-digest e =
      record {
        within = within;
        word = record { long = length-take-le n s within ∙ e; characters = characters };
        furthest = λ j h g b. omega (arith, begins-digest j g b);
      }

  pub stops-digest : (n ≡ digest_length → ⊥) → Stops Digest s n
  stops-digest f =
      record {
        longest = record {
          within = within;
          begins = record {
            rest = replicate (digest_length - n) 0x41;
            whole = record {
              long =
                  rw (length-append, length-replicate, length-take-le n s within)
                  (omega (arith, first-few base64url digest_length s n first));
              characters = rw (every_append, characters) (every-filled (digest_length - n));
            };
          };
          furthest = λ j h g b. omega (arith, begins-digest j g b);
        };
        never = λ j h d.
            let few = first-few base64url digest_length s n first in
            f (omega (arith, d.long, length-take-le j s (omega (arith, within)), few));
      }

pub goes-residues : (most : ℕ) (s : List ℕ) (n : ℕ) → n ≡ foreign (take most s) → Goes (Residues most) s n
goes-residues most s n first =
    let inside : n ≤ length s = first-within residue most s n first in
    record {
      within = inside;
      word = record {
        few = rw (length-take-le n s inside) (first-few residue most s n first);
        residues = first-every residue most s n first;
      };
      furthest = λ j h g b.
          (let few : length (take j s) + length b.rest ≤ most = rw length-append at b.whole.few in
          let room : j ≤ most = omega (arith, length-take-le j s g) in
          omega (arith, first-max residue most s n first j b.rest g room b.whole.residues));
    }
