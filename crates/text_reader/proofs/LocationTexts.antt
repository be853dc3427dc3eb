-- The location text as a layout, and what a walk over its words has read.
use Prim.Native.Nat.{ℕ, ◌+◌}
use native.Mathlib.Omega.{arith}
use mathlib.Core.Logic.{◌⊎◌}
use mathlib.Core.Path.{◌≡◌, refl}
use mathlib.Core.Bool.{true, false}
use mathlib.Core.List.{List}
use lib.ListN.{length}
use Rattle.refusal.specs.Limits.{reference_limit}
use Rattle.decimals.specs.Decimal.{decimal}
use Rattle.decimals.proofs.Reading.{decimal_injective}
use Rattle.text.specs.Layout.{before_end, before_start, before_digest, after_digest, location_text}
use Rattle.words.specs.Vocabulary.{Word, Digest}
use Rattle.words.specs.Walk.{Walk, Onward, Counts}
use Rattle.words.proofs.Layouts.{Layout, close, word, digest, number, sound-word, sound-digest, sound-number, LaidOut}
use Rattle.words.proofs.Layouts.{word-once}
use Rattle.words.proofs.Walked.{begun, Walked, step-word, step-digest, step-number, walked-placed, walked-reads}
use Rattle.words.proofs.Walked.{walked-refuses, stopped-refuses}
use Rattle.std.specs.Prelude.{Ok, Err}
use Rattle.refusal.specs.declared.Reason.TheVariants.{TextNotAccepted}
use Rattle.text_reader.specs.Accepted.{LocationText, ReadsLocation, accepts, refuses}

abbrev behind_digest : Layout
behind_digest = digest (word after_digest close)

abbrev behind_start : Layout
behind_start = word before_digest behind_digest

abbrev behind_end : ℕ → Layout
behind_end end = word before_start (number 0 end (omega arith) (λ _. behind_start))

abbrev layout : Layout
layout = word before_end (number 0 reference_limit (omega arith) behind_end)

unfoldable location : LaidOut LocationText layout
unfolding location_text
location =
    record {
      sound =
          sound-word before_end _
          (sound-number before_start (omega arith) 0 reference_limit _ (λ h g. omega arith) _ (λ end.
          sound-number before_digest (omega arith) 0 end _ (λ h g. omega arith) _ (λ _.
          sound-digest _ (sound-word after_digest close tt))));
      values = λ _ a. (
        tt,
        tt,
        (
          a.end,
          (omega arith, a.inside),
          (
            tt,
            tt,
            (
              a.start,
              (omega arith, a.ordered),
              (tt, tt, (a.digest, a.digests, (tt, tt, tt))),
            ),
          ),
        ),
      );
      laid = λ _ a. a.laid;
      kind = λ _ v e.
          let n = v.2 in
          let m = n.2.2 in
          let d = m.2.2 in
          record {
            start = m.0;
            end = n.0;
            digest = d.0;
            ordered = m.1.1;
            inside = n.1.1;
            digests = d.1;
            laid =
                e;
          };
    }

abbrev Stopped : List ℕ → Walk → Type 0
Stopped text a = ReadsLocation text (Err (record { reason = TextNotAccepted; value = a.at }))

-- a walk over its words, as far as it goes on
module _ {text : List ℕ} {end_number : ℕ} {head end : Walk}
    (o₁ : Onward (Word before_end) text begun head) (o₂ : Counts 0 reference_limit text head end end_number) where
  abbrev from_end : {b : Walk} → Walked (behind_end end_number) text end b → Walked layout text begun b
  from_end w = (head, tt, step-word o₁, (end, end_number, step-number o₂, w))

  pub end-refuses : end.on ≡ false → Stopped text end
  end-refuses f =
      refuses end.at (stopped-refuses location text (behind_end end_number) end from_end o₂.onward.within f)

  module _ {start_number : ℕ} {middle start : Walk} (o₃ : Onward (Word before_start) text end middle)
      (o₄ : Counts 0 end_number text middle start start_number) where
    abbrev from_start : {b : Walk} → Walked behind_start text start b → Walked layout text begun b
    from_start w = from_end (middle, tt, step-word o₃, (start, start_number, step-number o₄, w))

    pub start-refuses : start.on ≡ false → Stopped text start
    start-refuses f =
        refuses start.at (stopped-refuses location text behind_start start from_start o₄.onward.within f)

    module _ {digest : Walk} (o₅ : Onward (Word before_digest) text start digest) where
      abbrev from_digest : {b : Walk} → Walked behind_digest text digest b → Walked layout text begun b
      from_digest w = from_start (digest, tt, step-word o₅, w)

      pub digest-refuses : digest.on ≡ false → Stopped text digest
      digest-refuses f =
          refuses digest.at (stopped-refuses location text behind_digest digest from_digest o₅.within f)

      module _ {behind last : Walk} (o₆ : Onward Digest text digest behind)
          (o₇ : Onward (Word after_digest) text behind last) where
        abbrev walk : Walked layout text begun last
        walk = from_digest (behind, _, step-digest o₆, (last, tt, step-word o₇, refl))

        pub location-accepts : last.on ≡ true → last.at ≡ length text
            → ReadsLocation text (Ok (record { start = start_number; end = end_number; digest = digest.at }))
        unfolding location
        location-accepts e h =
            let p = walked-placed text layout begun last walk e in
            let place : digest.at
            ≡ length before_end + length (decimal end_number) + length before_start
            + length (decimal start_number) + length before_digest
            = omega (arith, p.0, p.1.0, p.1.1.0, p.1.1.1.0, p.1.1.1.1.0) in
            rw place (accepts (walked-reads location text last walk e h))

        pub location-refuses : (last.on ≡ false) ⊎ (last.at ≡ length text → ⊥) → Stopped text last
        location-refuses f = refuses last.at (walked-refuses location text last walk f)

-- a text is the location text of one start, one end and one digest
module _ (text : List ℕ) (a b : LocationText text) where
  pub location-end : a.end ≡ b.end
  unfolding location
  location-end = decimal_injective a.end b.end (word-once location 1 text a b)

  pub location-start : a.start ≡ b.start
  unfolding location
  location-start = decimal_injective a.start b.start (word-once location 3 text a b)

  pub location-digest : a.digest ≡ b.digest
  unfolding location
  location-digest = word-once location 5 text a b
