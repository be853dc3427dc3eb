-- The allele text as a layout, and what a walk over its words has read.
use Prim.Native.Nat.{ℕ, ◌+◌, ◌-◌}
use native.Mathlib.Omega.{arith}
use mathlib.Core.Logic.{◌⊎◌}
use mathlib.Core.Path.{◌≡◌, refl}
use mathlib.Core.Bool.{true, false}
use mathlib.Core.List.{List}
use lib.ListN.{length}
use Rattle.refusal.specs.Limits.{sequence_limit}
use Rattle.alphabets.specs.Alphabets.{letter, residue, digest_length}
use Rattle.text.specs.Layout.{before_location, before_sequence, after_sequence, allele_text}
use Rattle.words.specs.Vocabulary.{Word, Digest, Residues}
use Rattle.words.specs.Walk.{Walk, Onward}
use Rattle.words.proofs.Layouts.{Layout, close, word, digest, residues, sound-word, sound-digest, sound-residues}
use Rattle.words.proofs.Layouts.{LaidOut, word-once}
use Rattle.words.proofs.Walked.{begun, Walked, step-word, step-digest, step-residues, walked-placed, walked-reads}
use Rattle.words.proofs.Walked.{walked-refuses, stopped-refuses}
use Rattle.std.specs.Prelude.{Ok, Err}
use Rattle.refusal.specs.declared.Reason.TheVariants.{TextNotAccepted}
use Rattle.text_reader.specs.Accepted.{AlleleText, ReadsAllele, accepts_allele, refuses_allele}

abbrev behind_sequence : Layout
behind_sequence = word after_sequence close

abbrev before_residues : Layout
before_residues = residues sequence_limit behind_sequence

abbrev behind_head : Layout
behind_head = digest (word before_sequence before_residues)

abbrev layout : Layout
layout = word before_location behind_head

unfoldable allele : LaidOut AlleleText layout
unfolding allele_text residue letter
allele =
    record {
      sound =
          sound-word before_location _ (sound-digest _ (
          sound-word before_sequence _ (sound-residues after_sequence (omega arith) sequence_limit refl close tt)));
      values = λ _ a. (tt, tt, (a.location, a.digests, (tt, tt, (a.sequence, a.residues, (tt, tt, tt)))));
      laid = λ _ a. a.laid;
      kind = λ _ v e.
          let d = v.2 in
          let x = d.2.2 in
          record { location = d.0; sequence = x.0; digests = d.1; residues = x.1; laid = e };
    }

abbrev Stopped : List ℕ → Walk → Type 0
Stopped text a = ReadsAllele text (Err (record { reason = TextNotAccepted; value = a.at }))

-- a walk over its words, as far as it goes on
module _ {text : List ℕ} {location : Walk} (o₁ : Onward (Word before_location) text begun location) where
  abbrev from_location : {b : Walk} → Walked behind_head text location b → Walked layout text begun b
  from_location w = (location, tt, step-word o₁, w)

  pub location-refuses : location.on ≡ false → Stopped text location
  location-refuses f =
      refuses_allele location.at (stopped-refuses allele text behind_head location from_location o₁.within f)

  module _ {middle sequence : Walk} (o₂ : Onward Digest text location middle)
      (o₃ : Onward (Word before_sequence) text middle sequence) where
    abbrev from_sequence : {b : Walk} → Walked before_residues text sequence b → Walked layout text begun b
    from_sequence w = from_location (middle, _, step-digest o₂, (sequence, tt, step-word o₃, w))

    pub sequence-refuses : sequence.on ≡ false → Stopped text sequence
    sequence-refuses f =
        refuses_allele sequence.at (stopped-refuses allele text before_residues sequence from_sequence o₃.within f)

    module _ {behind : Walk} (o₄ : Onward (Residues sequence_limit) text sequence behind) where
      abbrev from_behind : {b : Walk} → Walked behind_sequence text behind b → Walked layout text begun b
      from_behind w = from_sequence (behind, _, step-residues o₄, w)

      pub behind-refuses : behind.on ≡ false → Stopped text behind
      behind-refuses f =
          refuses_allele behind.at (stopped-refuses allele text behind_sequence behind from_behind o₄.within f)

      module _ {last : Walk} (o₅ : Onward (Word after_sequence) text behind last) where
        abbrev walk : Walked layout text begun last
        walk = from_behind (last, tt, step-word o₅, refl)

        pub allele-accepts : last.on ≡ true → last.at ≡ length text
            → ReadsAllele text (Ok
            (record { location = location.at; sequence = sequence.at; length = behind.at - sequence.at }))
        unfolding allele
        allele-accepts e h =
            let a = walked-reads allele text last walk e h in
            let p = walked-placed text layout begun last walk e in
            accepts-parts a p.0 (omega (arith, p.0, p.1.0, p.1.1.0, a.digests.long)) (omega (arith, p.1.1.1.0))
          where
            accepts-parts : (a : AlleleText text) {l s n : ℕ} → l ≡ length before_location
                → s ≡ length before_location + digest_length + length before_sequence → n ≡ length a.sequence
                → ReadsAllele text (Ok (record { location = l; sequence = s; length = n }))
            accepts-parts a p q r = rw (p, q, r) (accepts_allele a)

        pub allele-refuses : (last.on ≡ false) ⊎ (last.at ≡ length text → ⊥) → Stopped text last
        allele-refuses f = refuses_allele last.at (walked-refuses allele text last walk f)

-- a text is the allele text of one digest and one sequence
module _ (text : List ℕ) (a b : AlleleText text) where
  pub allele-location : a.location ≡ b.location
  unfolding allele
  allele-location = word-once allele 1 text a b

  pub allele-sequence : a.sequence ≡ b.sequence
  unfolding allele
  allele-sequence = word-once allele 3 text a b
