-- What reading promises: a text has one answer, what is written is read back, and what is read is what the text says.
use Prim.Native.Nat.{ℕ, ◌+◌, ◌≤◌}
use native.Mathlib.Omega.{arith}
use mathlib.Core.Path.{◌≡◌, refl, ◌∙◌, sym, ap}
use mathlib.Core.List.{List, [], ◌++◌, append_assoc}
use lib.ListN.{length, length-append}
use Rattle.std.specs.Prelude.{Result, Ok, Err, MatchResult, IsOkAnd}
use Rattle.stretch.specs.Part.{part}
use Rattle.refusal.specs.Limits.{reference_limit, sequence_limit}
use Rattle.refusal.specs.declared.Refusal.{Refusal}
use Rattle.alphabets.specs.Alphabets.{digest_length}
use Rattle.decimals.specs.Decimal.{decimal}
use Rattle.text.specs.Layout.{before_end, before_start, before_digest, after_digest, location_text, before_location}
use Rattle.text.specs.Layout.{before_sequence, after_sequence, allele_text}
use Rattle.words.specs.Vocabulary.{Digest, Residues}
use Rattle.words.proofs.Following.{longest-once}
use Rattle.refusal.specs.declared.Reason.TheVariants.{TextNotAccepted}
use Rattle.text_reader.specs.declared.AlleleParts.{AlleleParts}
use Rattle.text_reader.specs.declared.LocationParts.{LocationParts}
use Rattle.text_reader.specs.declared.part.Part.{Part}
use Rattle.text_reader.specs.Accepted.{LocationText, AlleleText, ReadsLocation, accepts, refuses, ReadsAllele}
use Rattle.text_reader.specs.Accepted.{accepts_allele, refuses_allele, HandsBack, hands, nothing}
use Rattle.text_reader.proofs.Lies.{Lies, lies-between}
use Rattle.text_reader.proofs.LocationTexts.{location-start, location-end, location-digest}
use Rattle.text_reader.proofs.AlleleTexts.{allele-location, allele-sequence}

-- one answer
pub reads-location-once : (text : List ℕ) (a₁ a₂ : Result LocationParts Refusal) → ReadsLocation text a₁
    → ReadsLocation text a₂ → a₁ ≡ a₂
reads-location-once text _ _ (accepts a) (accepts b) =
    λ i. Ok (record {
      start = location-start text a b i;
      end = location-end text a b i;
      digest = length before_end + length (decimal (location-end text a b i)) + length before_start
          + length (decimal (location-start text a b i)) + length before_digest;
    })
reads-location-once text _ _ (accepts a) (refuses j r) = absurd (r.other a)
reads-location-once text _ _ (refuses i r) (accepts b) = absurd (r.other b)
reads-location-once text _ _ (refuses i r) (refuses j q) =
    ap (λ (k : ℕ). Err (record { reason = TextNotAccepted; value = k }))
    (longest-once LocationText text i j r.longest q.longest)

pub reads-allele-once : (text : List ℕ) (a₁ a₂ : Result AlleleParts Refusal) → ReadsAllele text a₁
    → ReadsAllele text a₂ → a₁ ≡ a₂
reads-allele-once text _ _ (accepts_allele a) (accepts_allele b) =
    ap
    (λ (s : List ℕ). Ok (record {
      location = length before_location;
      sequence = length before_location + digest_length + length before_sequence;
      length = length s;
    }))
    (allele-sequence text a b)
reads-allele-once text _ _ (accepts_allele a) (refuses_allele j r) = absurd (r.other a)
reads-allele-once text _ _ (refuses_allele i r) (accepts_allele b) = absurd (r.other b)
reads-allele-once text _ _ (refuses_allele i r) (refuses_allele j q) =
    ap (λ (k : ℕ). Err (record { reason = TextNotAccepted; value = k }))
    (longest-once AlleleText text i j r.longest q.longest)

pub hands-once : (Kind : List ℕ → Type 0) (stretch : (text : List ℕ) → Kind text → List ℕ)
    → ((text : List ℕ) (a b : Kind text) → stretch text a ≡ stretch text b)
    → (text s₁ s₂ : List ℕ) → HandsBack Kind stretch text s₁ → HandsBack Kind stretch text s₂ → s₁ ≡ s₂
hands-once Kind stretch one text _ _ (hands a) (hands b) = one text a b
hands-once Kind stretch one text _ _ (hands a) (nothing f) = absurd (f a)
hands-once Kind stretch one text _ _ (nothing f) (hands b) = absurd (f b)
hands-once Kind stretch one text _ _ (nothing f) (nothing g) = refl

-- the empty stretch, of a text of another kind
pub hands_none : (Kind : List ℕ → Type 0) (stretch : (text : List ℕ) → Kind text → List ℕ) (text s : List ℕ)
    → (Kind text → ⊥) → s ≡ part text 0 0 → HandsBack Kind stretch text s
hands_none Kind stretch text s other e = rw e (nothing other)

pub digest-of-once : (text s₁ s₂ : List ℕ) → HandsBack LocationText (λ t a. a.digest) text s₁
    → HandsBack LocationText (λ t a. a.digest) text s₂ → s₁ ≡ s₂
digest-of-once = hands-once LocationText (λ t a. a.digest) location-digest

pub location-of-once : (text s₁ s₂ : List ℕ) → HandsBack AlleleText (λ t a. a.location) text s₁
    → HandsBack AlleleText (λ t a. a.location) text s₂ → s₁ ≡ s₂
location-of-once = hands-once AlleleText (λ t a. a.location) allele-location

pub sequence-of-once : (text s₁ s₂ : List ℕ) → HandsBack AlleleText (λ t a. a.sequence) text s₁
    → HandsBack AlleleText (λ t a. a.sequence) text s₂ → s₁ ≡ s₂
sequence-of-once = hands-once AlleleText (λ t a. a.sequence) allele-sequence

-- what is written is read back
module _ (start end : ℕ) (digest : List ℕ) (ordered : start ≤ end) (inside : end ≤ reference_limit)
    (d : Digest digest) where
  written : LocationText (location_text start end digest)
  written = record {
    start = start;
    end = end;
    digest = digest;
    ordered = ordered;
    inside = inside;
    digests = d;
    laid =
        refl;
  }

  pub reads-location-back : (answer : Result LocationParts Refusal)
      → ReadsLocation (location_text start end digest) answer
      → answer ≡ Ok (record {
        start = start;
        end = end;
        digest = length before_end + length (decimal end) + length before_start + length (decimal start)
            + length before_digest;
      })
  unfolding written
  reads-location-back answer r = reads-location-once (location_text start end digest) answer _ r (accepts written)

  pub digest-of-back : (s : List ℕ) → HandsBack LocationText (λ t a. a.digest) (location_text start end digest) s
      → s ≡ digest
  unfolding written
  digest-of-back s h = digest-of-once (location_text start end digest) s digest h (hands written)

module _ (location sequence : List ℕ) (d : Digest location) (l : Residues sequence_limit sequence) where
  written-allele : AlleleText (allele_text location sequence)
  written-allele = record { location = location; sequence = sequence; digests = d; residues = l; laid = refl }

  pub reads-allele-back : (answer : Result AlleleParts Refusal) → ReadsAllele (allele_text location sequence) answer
      → answer ≡ Ok (record {
        location = length before_location;
        sequence = length before_location + digest_length + length before_sequence;
        length = length sequence;
      })
  unfolding written-allele
  reads-allele-back answer r =
      reads-allele-once (allele_text location sequence) answer _ r (accepts_allele written-allele)

  pub location-of-back : (s : List ℕ) → HandsBack AlleleText (λ t a. a.location) (allele_text location sequence) s
      → s ≡ location
  unfolding written-allele
  location-of-back s h = location-of-once (allele_text location sequence) s location h (hands written-allele)

  pub sequence-of-back : (s : List ℕ) → HandsBack AlleleText (λ t a. a.sequence) (allele_text location sequence) s
      → s ≡ sequence
  unfolding written-allele
  sequence-of-back s h = sequence-of-once (allele_text location sequence) s sequence h (hands written-allele)

-- what is read is what the text says
pub record LocationMeans (text : List ℕ) (p : LocationParts) : Type 0 where
  pub is : LocationText text
  pub start : p.start ≡ is.start
  pub end : p.end ≡ is.end
  pub digest : Lies text p.digest digest_length is.digest

pub record AlleleMeans (text : List ℕ) (p : AlleleParts) : Type 0 where
  pub is : AlleleText text
  pub location : Lies text p.location digest_length is.location
  pub sequence : Lies text p.sequence p.length is.sequence

regroup : (b c d e f x : List ℕ) → b ++ (c ++ (d ++ (e ++ f))) ++ x ≡ b ++ (c ++ (d ++ (e ++ (f ++ x))))
regroup b c d e f x = simp append_assoc

pub reads-location-means : (text : List ℕ) (p : LocationParts) → ReadsLocation text (Ok p) → LocationMeans text p
unfolding location_text
reads-location-means text p (accepts a) =
    let front = before_end ++ (decimal a.end ++ (before_start ++ (decimal a.start ++ before_digest))) in
    let whole : text ≡ front ++ (a.digest ++ after_digest)
    = a.laid ∙ sym (regroup before_end (decimal a.end) before_start (decimal a.start) before_digest
    (a.digest ++ after_digest)) in
    record {
      is = a;
      start = refl;
      end = refl;
      digest =
          lies-between text front a.digest after_digest _ digest_length whole
          (simp length-append (omega arith)) a.digests.long;
    }

pub reads-allele-means : (text : List ℕ) (p : AlleleParts) → ReadsAllele text (Ok p) → AlleleMeans text p
unfolding allele_text
reads-allele-means text p (accepts_allele a) =
    let front = before_location ++ (a.location ++ before_sequence) in
    let whole : text ≡ front ++ (a.sequence ++ after_sequence)
    = a.laid ∙ ap (λ (l : List ℕ). before_location ++ l)
    (sym (append_assoc a.location before_sequence (a.sequence ++ after_sequence))) in
    record {
      is = a;
      location =
          lies-between text before_location a.location (before_sequence ++ (a.sequence ++ after_sequence))
          _ digest_length a.laid refl a.digests.long;
      sequence = lies-between text front a.sequence after_sequence _ _ whole
          (simp length-append (omega (arith, a.digests.long))) refl;
    }

-- where a part of a text lies that is of the kind, or that it is none
pub record Points (Kind : List ℕ → Type 0) (stretch : (text : List ℕ) → Kind text → List ℕ) (text : List ℕ)
    (read : Result Part Refusal) : Type 0 where
  pub lies : MatchResult read (λ p. (is : Kind text) × Lies text p.from p.length (stretch text is))
      (λ _. Kind text → ⊥)

-- the same part of what each reading answers
abbrev Maps : {P : Type 0} → Result P Refusal → (P → Part) → Result Part Refusal → Type 0
Maps answer f read = MatchResult answer (λ p. IsOkAnd read (λ q. q ≡ f p)) (λ e. read ≡ Err e)

module _ {P : Type 0} (Kind : List ℕ → Type 0) (stretch : (text : List ℕ) → Kind text → List ℕ) (text : List ℕ)
    (Reads : Result P Refusal → Type 0) (f : P → Part)
    (lies : (p : P) → Reads (Ok p) → (is : Kind text) × Lies text (f p).from (f p).length (stretch text is))
    (other : (why : Refusal) → Reads (Err why) → Kind text → ⊥) where
  points : (answer : Result P Refusal) (read : Result Part Refusal) → Reads answer → Maps answer f read
      → Points Kind stretch text read
  points (Ok p) (Ok q) r m = record { lies = rw m (lies p r) }
  points (Ok p) (Err why) r m = absurd m
  points (Err why) read r m = record { lies = rw m (other why r) }

not-location : (text : List ℕ) (why : Refusal) → ReadsLocation text (Err why) → LocationText text → ⊥
not-location text _ (refuses i r) = r.other

not-allele : (text : List ℕ) (why : Refusal) → ReadsAllele text (Err why) → AlleleText text → ⊥
not-allele text _ (refuses_allele i r) = r.other

module _ {text : List ℕ} {read : Result Part Refusal} where
  pub digest-points : (answer : Result LocationParts Refusal) → ReadsLocation text answer
      → Maps answer (λ p. record { from = p.digest; length = digest_length }) read
      → Points LocationText (λ t a. a.digest) text read
  digest-points answer =
      points LocationText (λ t a. a.digest) text (ReadsLocation text) _
      (λ p r. let means = reads-location-means text p r in (means.is, means.digest)) (not-location text) answer read

  pub location-points : (answer : Result AlleleParts Refusal) → ReadsAllele text answer
      → Maps answer (λ p. record { from = p.location; length = digest_length }) read
      → Points AlleleText (λ t a. a.location) text read
  location-points answer =
      points AlleleText (λ t a. a.location) text (ReadsAllele text) _
      (λ p r. let means = reads-allele-means text p r in (means.is, means.location)) (not-allele text) answer read

  pub sequence-points : (answer : Result AlleleParts Refusal) → ReadsAllele text answer
      → Maps answer (λ p. record { from = p.sequence; length = p.length }) read
      → Points AlleleText (λ t a. a.sequence) text read
  sequence-points answer =
      points AlleleText (λ t a. a.sequence) text (ReadsAllele text) _
      (λ p r. let means = reads-allele-means text p r in (means.is, means.sequence)) (not-allele text) answer read

-- so a part of the text is handed back where it is accepted, and nothing where it is not
module _ {Kind : List ℕ → Type 0} {stretch : (text : List ℕ) → Kind text → List ℕ} {text : List ℕ} where
  pub points-within : {read : Result Part Refusal} → Points Kind stretch text read → (p : Part) → read ≡ Ok p
      → p.from + p.length ≤ length text
  points-within h p e = (rw e at h.lies).1.within

  pub points-hands : (read : Result Part Refusal) (s : List ℕ) → Points Kind stretch text read
      → MatchResult read (λ p. s ≡ part text p.from (p.from + p.length)) (λ _. s ≡ [])
      → HandsBack Kind stretch text s
  points-hands (Ok p) s h e = rw (e, h.lies.1.stretch) (hands h.lies.0)
  points-hands (Err e) s h empty = rw empty (nothing h.lies)
