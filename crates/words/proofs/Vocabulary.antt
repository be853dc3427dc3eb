-- Kinds of words: some word of each, and that they are apart from what follows them, by their length or by the byte
-- that follows.
use Prim.Native.Nat.{ℕ, ◌+◌, ◌≤◌}
use native.Mathlib.Omega.{arith}
use mathlib.Core.Path.{◌≡◌, refl, ◌∙◌, sym, ap}
use mathlib.Core.Bool.{true}
use mathlib.Core.List.{List, [], ◌∷◌, ◌++◌}
use lib.ListN.{length, get_or, replicate, length-append}
use lib.Seq.{append_snoc, get_or_at}
use Rattle.alphabets.specs.Alphabets.{residue, base64url, digest_length}
use Rattle.stretch.specs.Class.{every}
use Rattle.stretch.proofs.Class.{every-at}
use Rattle.decimals.specs.Decimal.{decimal}
use Rattle.decimals.proofs.Digits.{decimal-digits}
use Rattle.words.specs.Prefix.{Begins}
use Rattle.words.specs.Vocabulary.{Word, Digest, Residues, DecimalFrom}
use Rattle.words.proofs.Following.{Apart}

pub decimal-from : {least most : ℕ} (n : ℕ) → least ≤ n → n ≤ most → DecimalFrom least most (decimal n)
decimal-from n l h = record { number = n; large = l; small = h; digits = refl }

pub some-digest : Digest (replicate digest_length 0x41)
unfolding every base64url
some-digest = record { long = refl; characters = refl }

pub no-residues : (most : ℕ) → Residues most []
unfolding every
no-residues most = record { few = omega arith; residues = refl }

longer : (w r : List ℕ) (c : ℕ) → length (w ++ (c ∷ []) ++ r) ≡ length w + 1 + length r
longer w r c = simp length-append

at-seam : (w r : List ℕ) (c : ℕ) → get_or (w ++ (c ∷ []) ++ r) (length w) 0 ≡ c
at-seam w r c = rw append_snoc (get_or_at w c r 0 (length w) refl)

-- words of one length
module _ (Kind : List ℕ → Type 0) (n : ℕ) (long : (w : List ℕ) → Kind w → length w ≡ n)
    (Next : List ℕ → List ℕ → Type 0) where
  pub apart-length : Apart Kind Next
  apart-length w c k b _ = omega (arith, long w k, long _ b.whole, longer w b.rest c)

pub apart-word : (word : List ℕ) (Next : List ℕ → List ℕ → Type 0) → Apart (Word word) Next
apart-word word = apart-length (Word word) (length word) (λ w e. ap length e)

pub apart-digest : (Next : List ℕ → List ℕ → Type 0) → Apart Digest Next
apart-digest = apart-length Digest digest_length (λ w d. d.long)

-- words of digits, and of residues, go on with one
module _ (w : List ℕ) (c : ℕ) where
  pub digits-on : (least most : ℕ) → Begins (DecimalFrom least most) (w ++ (c ∷ [])) → (0x30 ≤ c) × (c ≤ 0x39)
  digits-on least most b =
      let d = b.whole in
      let there : get_or (decimal d.number) (length w) 0 ≡ c
      = ap (λ (l : List ℕ). get_or l (length w) 0) (sym d.digits) ∙ at-seam w b.rest c in
      let among = decimal-digits d.number (length w) (omega (arith, ap length d.digits, longer w b.rest c)) in
      (omega (arith, among.0, there), omega (arith, among.1, there))

  pub residues-on : (most : ℕ) → Begins (Residues most) (w ++ (c ∷ [])) → residue c ≡ true
  residues-on most b =
      ap residue (sym (at-seam w b.rest c))
      ∙ every-at residue (w ++ (c ∷ []) ++ b.rest) (length w) b.whole.residues
      (omega (arith, longer w b.rest c))
