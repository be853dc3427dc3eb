-- Each export has one answer and leaves one content of what was lent.
use Prim.Native.Nat.{ℕ}
use mathlib.Core.Path.{◌≡◌, ◌∙◌, sym, ap}
use mathlib.Core.List.{List}
use Rattle.refusal.specs.Verdict.{Verdict}
use Rattle.refusal.specs.Writes.{Writes, WritesUnless}
use Rattle.refusal.proofs.Keeps.{keeps-once}
use Rattle.normal_form_calls.specs.Calls.{Normalises}
use Rattle.normal_form_calls.proofs.Promises.{normalises-once}
use Rattle.text_reader.specs.Accepted.{ReadsLocation, ReadsAllele}
use Rattle.text_reader.proofs.Promises.{reads-location-once, reads-allele-once}
use Rattle.vcf_line.specs.Calls.{counted}
use Rattle.vcf_line.proofs.Promises.{counts-once}
use Rattle.vcf_form.specs.Calls.{VcfForms}
use Rattle.vcf_form.proofs.Promises.{vcf-forms-once}
use Rattle.sha512.specs.declared.Running.{Running}
use Rattle.sequence_identifier.specs.Calls.{Identifies, Finishes}
use Rattle.running_digest.specs.Calls.{Feeds}
use Rattle.running_digest.proofs.Promises.{feeds-once}
use Rattle.location_identifier.specs.Calls.{WritesLocation, IdentifiesLocation}
use Rattle.allele_identifier.specs.Calls.{WritesAllele, IdentifiesAllele}
use Rattle.allele_identifier.proofs.Promises.{identifies-allele-once}
use Rattle.entry.specs.Calls.{Enters}
use Rattle.blank.specs.Calls.{Blanks}
use Rattle.record_reader.specs.Calls.{checked, record_read}
use Rattle.register.specs.Calls.{Withdraws, Undoes, Seals}
use Rattle.entry.proofs.Promises.{enters-once}
use Rattle.blank.proofs.Promises.{blanks-once}
use Rattle.record_reader.proofs.Promises.{checks-once, reads-record-once}
use Rattle.register.proofs.Promises.{withdraws-once, undoes-once, seals-once}
use Rattle.c_answers.specs.declared.FvAllele.{FvAllele}
use Rattle.c_answers.specs.declared.FvCounted.{FvCounted}
use Rattle.c_answers.specs.declared.FvEntered.{FvEntered}
use Rattle.c_answers.specs.declared.FvForm.{FvForm}
use Rattle.c_answers.specs.declared.FvIdentified.{FvIdentified}
use Rattle.c_answers.specs.declared.FvLocation.{FvLocation}
use Rattle.c_answers.specs.declared.FvOutcome.{FvOutcome}
use Rattle.c_answers.specs.declared.FvRecord.{FvRecord}
use Rattle.c_answers.specs.declared.FvUndone.{FvUndone}
use Rattle.c_answers.specs.declared.FvWritten.{FvWritten}
use Rattle.c_answers.specs.Flat.{flat_written, flat_form, flat_location, flat_allele, flat_outcome, flat_entered}
use Rattle.c_answers.specs.Flat.{flat_undone, flat_identified, flat_counted, flat_record, Flattened}

-- one answer below is one answer above
flat-once : {A B : Type 0} (flatten : A → B) (P Q : A → Type 0) (a₁ a₂ : B) (p : Flattened flatten P a₁)
    (q : Flattened flatten Q a₂) → p.below ≡ q.below → a₁ ≡ a₂
flat-once flatten P Q a₁ a₂ p q e = p.flat ∙ ap flatten e ∙ sym q.flat

-- a call that has one answer and leaves one content
flat-left-once : {A B L : Type 0} (flatten : A → B) (P : L → A → Type 0) (a₁ a₂ : B) (l₁ l₂ : L)
    → ((x y : A) → P l₁ x → P l₂ y → (x ≡ y) × (l₁ ≡ l₂)) → Flattened flatten (P l₁) a₁ → Flattened flatten (P l₂) a₂
    → (a₁ ≡ a₂) × (l₁ ≡ l₂)
flat-left-once flatten P a₁ a₂ l₁ l₂ once p q =
    let same = once p.below q.below p.promised q.promised in
    (flat-once flatten (P l₁) (P l₂) a₁ a₂ p q same.0, same.1)

pub flat-feeds-once : (state : Running) (part : List ℕ) (a₁ a₂ : FvOutcome) (s₁ s₂ : Running)
    → Flattened flat_outcome (λ a. Feeds state part a s₁) a₁ → Flattened flat_outcome (λ a. Feeds state part a s₂) a₂
    → (a₁ ≡ a₂) × (s₁ ≡ s₂)
flat-feeds-once state part a₁ a₂ s₁ s₂ =
    flat-left-once flat_outcome (λ s a. Feeds state part a s) a₁ a₂ s₁ s₂ (λ x y. feeds-once state part x y s₁ s₂)

module _ (out : List ℕ) (place : ℕ) (a₁ a₂ : FvWritten) (l₁ l₂ : List ℕ) where
  flat-writes-once : (v : Verdict) (text : List ℕ)
      → Flattened flat_written (λ w. Writes v text out place w l₁) a₁
      → Flattened flat_written (λ w. Writes v text out place w l₂) a₂ → (a₁ ≡ a₂) × (l₁ ≡ l₂)
  flat-writes-once v text =
      flat-left-once flat_written (λ l w. Writes v text out place w l) a₁ a₂ l₁ l₂
      (λ x y. keeps-once _ _ _ _ x y l₁ l₂)

  pub flat-identifies-once : (reference : List ℕ)
      → Flattened flat_written (λ w. Identifies reference out place w l₁) a₁
      → Flattened flat_written (λ w. Identifies reference out place w l₂) a₂ → (a₁ ≡ a₂) × (l₁ ≡ l₂)
  flat-identifies-once reference = flat-writes-once _ _

  pub flat-finishes-once : (state : Running)
      → Flattened flat_written (λ w. Finishes state out place w l₁) a₁
      → Flattened flat_written (λ w. Finishes state out place w l₂) a₂ → (a₁ ≡ a₂) × (l₁ ≡ l₂)
  flat-finishes-once state = flat-writes-once _ _

  module _ (residues start end : ℕ) (digest : List ℕ) where
    pub flat-writes-location-once :
        Flattened flat_written (λ w. WritesLocation residues start end digest out place w l₁) a₁
        → Flattened flat_written (λ w. WritesLocation residues start end digest out place w l₂) a₂ → (a₁ ≡ a₂)
        × (l₁ ≡ l₂)
    unfolding WritesUnless
    flat-writes-location-once = flat-writes-once _ _

    pub flat-identifies-location-once :
        Flattened flat_written (λ w. IdentifiesLocation residues start end digest out place w l₁) a₁
        → Flattened flat_written (λ w. IdentifiesLocation residues start end digest out place w l₂) a₂ → (a₁ ≡ a₂)
        × (l₁ ≡ l₂)
    unfolding WritesUnless
    flat-identifies-location-once = flat-writes-once _ _

  module _ (r : List ℕ) (start end : ℕ) (x digest : List ℕ) where
    pub flat-writes-allele-once :
        Flattened flat_written (λ w. WritesAllele r start end x digest out place w l₁) a₁
        → Flattened flat_written (λ w. WritesAllele r start end x digest out place w l₂) a₂ → (a₁ ≡ a₂) × (l₁ ≡ l₂)
    unfolding WritesUnless
    flat-writes-allele-once = flat-writes-once _ _

pub flat-identifies-allele-once : (r : List ℕ) (start end : ℕ) (x digest out : List ℕ) (place : ℕ)
    (a₁ a₂ : FvIdentified) (l₁ l₂ : List ℕ)
    → Flattened flat_identified (λ a. IdentifiesAllele r start end x digest out place a l₁) a₁
    → Flattened flat_identified (λ a. IdentifiesAllele r start end x digest out place a l₂) a₂ → (a₁ ≡ a₂) × (l₁ ≡ l₂)
flat-identifies-allele-once r start end x digest out place a₁ a₂ l₁ l₂ =
    flat-left-once flat_identified (λ l a. IdentifiesAllele r start end x digest out place a l) a₁ a₂ l₁ l₂
    (λ u w. identifies-allele-once out place l₁ l₂ r start end x digest u w)

pub flat-normalises-once : (r : List ℕ) (start end : ℕ) (x out : List ℕ) (place : ℕ) (a₁ a₂ : FvForm) (l₁ l₂ : List ℕ)
    → Flattened flat_form (λ a. Normalises r start end x out place a l₁) a₁
    → Flattened flat_form (λ a. Normalises r start end x out place a l₂) a₂ → (a₁ ≡ a₂) × (l₁ ≡ l₂)
flat-normalises-once r start end x out place a₁ a₂ l₁ l₂ =
    flat-left-once flat_form (λ l a. Normalises r start end x out place a l) a₁ a₂ l₁ l₂
    (λ u w. normalises-once r start end x out place u w l₁ l₂)

pub flat-vcf-forms-once : (r line : List ℕ) (alternate : ℕ) (out : List ℕ) (place : ℕ) (a₁ a₂ : FvForm)
    (l₁ l₂ : List ℕ) → Flattened flat_form (λ a. VcfForms r line alternate out place a l₁) a₁
    → Flattened flat_form (λ a. VcfForms r line alternate out place a l₂) a₂ → (a₁ ≡ a₂) × (l₁ ≡ l₂)
flat-vcf-forms-once r line alternate out place a₁ a₂ l₁ l₂ =
    flat-left-once flat_form (λ l a. VcfForms r line alternate out place a l) a₁ a₂ l₁ l₂
    (λ u w. vcf-forms-once r alternate out place line u w l₁ l₂)

pub flat-counts-once : (r line : List ℕ) (a₁ a₂ : FvCounted) → Flattened flat_counted (λ a. a ≡ counted r line) a₁
    → Flattened flat_counted (λ a. a ≡ counted r line) a₂ → a₁ ≡ a₂
flat-counts-once r line a₁ a₂ p q = flat-once _ _ _ _ _ p q (counts-once r line _ _ p.promised q.promised)

module _ (text : List ℕ) where
  pub flat-reads-location-once : (a₁ a₂ : FvLocation) → Flattened flat_location (ReadsLocation text) a₁
      → Flattened flat_location (ReadsLocation text) a₂ → a₁ ≡ a₂
  flat-reads-location-once a₁ a₂ p q =
      flat-once _ _ _ _ _ p q (reads-location-once text _ _ p.promised q.promised)

  pub flat-reads-allele-once : (a₁ a₂ : FvAllele) → Flattened flat_allele (ReadsAllele text) a₁
      → Flattened flat_allele (ReadsAllele text) a₂ → a₁ ≡ a₂
  flat-reads-allele-once a₁ a₂ p q = flat-once _ _ _ _ _ p q (reads-allele-once text _ _ p.promised q.promised)

module _ (b l₁ l₂ : List ℕ) where
  module _ (a₁ a₂ : FvOutcome) where
    pub flat-blanks-once : (n : ℕ) (digest : List ℕ) (records journal pool : ℕ)
        → Flattened flat_outcome (λ a. Blanks b n digest records journal pool a l₁) a₁
        → Flattened flat_outcome (λ a. Blanks b n digest records journal pool a l₂) a₂ → (a₁ ≡ a₂) × (l₁ ≡ l₂)
    flat-blanks-once n digest records journal pool =
        flat-left-once flat_outcome (λ l a. Blanks b n digest records journal pool a l) a₁ a₂ l₁ l₂
        (λ x y. blanks-once b l₁ l₂ x y n digest records journal pool)

    pub flat-withdraws-once : (i : ℕ) → Flattened flat_outcome (λ a. Withdraws b i a l₁) a₁
        → Flattened flat_outcome (λ a. Withdraws b i a l₂) a₂ → (a₁ ≡ a₂) × (l₁ ≡ l₂)
    flat-withdraws-once i =
        flat-left-once flat_outcome (λ l a. Withdraws b i a l) a₁ a₂ l₁ l₂ (λ x y. withdraws-once b l₁ l₂ x y i)

    pub flat-seals-once : Flattened flat_outcome (λ a. Seals b a l₁) a₁ → Flattened flat_outcome (λ a. Seals b a l₂) a₂
        → (a₁ ≡ a₂) × (l₁ ≡ l₂)
    flat-seals-once = flat-left-once flat_outcome (λ l a. Seals b a l) a₁ a₂ l₁ l₂ (λ x y. seals-once b l₁ l₂ x y)

  pub flat-enters-once : (a₁ a₂ : FvEntered) (digest r : List ℕ) (start end : ℕ) (x : List ℕ)
      → Flattened flat_entered (λ a. Enters b digest r start end x a l₁) a₁
      → Flattened flat_entered (λ a. Enters b digest r start end x a l₂) a₂ → (a₁ ≡ a₂) × (l₁ ≡ l₂)
  flat-enters-once a₁ a₂ digest r start end x =
      flat-left-once flat_entered (λ l a. Enters b digest r start end x a l) a₁ a₂ l₁ l₂
      (λ u w. enters-once b l₁ l₂ u w digest r start end x)

  pub flat-undoes-once : (a₁ a₂ : FvUndone) → Flattened flat_undone (λ a. Undoes b a l₁) a₁
      → Flattened flat_undone (λ a. Undoes b a l₂) a₂ → (a₁ ≡ a₂) × (l₁ ≡ l₂)
  flat-undoes-once a₁ a₂ = flat-left-once flat_undone (λ l a. Undoes b a l) a₁ a₂ l₁ l₂ (λ x y. undoes-once b l₁ l₂ x y)

module _ (b : List ℕ) where
  pub flat-checks-once : (a₁ a₂ : FvOutcome) → Flattened flat_outcome (λ a. a ≡ checked b) a₁
      → Flattened flat_outcome (λ a. a ≡ checked b) a₂ → a₁ ≡ a₂
  flat-checks-once a₁ a₂ p q = flat-once _ _ _ _ _ p q (checks-once b _ _ p.promised q.promised)

  pub flat-reads-record-once : (i : ℕ) (a₁ a₂ : FvRecord) → Flattened flat_record (λ a. a ≡ record_read b i) a₁
      → Flattened flat_record (λ a. a ≡ record_read b i) a₂ → a₁ ≡ a₂
  flat-reads-record-once i a₁ a₂ p q =
      flat-once _ _ _ _ _ p q (reads-record-once b i _ _ p.promised q.promised)
