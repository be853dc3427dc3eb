-- An image in which the next number was issued is well formed.
use Prim.Native.Nat.{ℕ, suc, ◌+◌, ◌<◌, ◌≤◌}
use native.Mathlib.Nat.{eq-or-lt_of_le}
use native.Mathlib.Numerals.{add-one}
use native.Mathlib.Omega.{arith}
use mathlib.Core.Logic.{⊎_elim}
use mathlib.Core.Path.{◌≡◌, ◌∙◌, sym, subst}
use mathlib.Core.Bool.{true}
use mathlib.Core.List.{List}
use lib.ListN.{length}
use Rattle.stretch.specs.Class.{every}
use Rattle.alphabets.specs.Alphabets.{residue}
use Rattle.normal_form.specs.Form.{Normal}
use Rattle.image.specs.Fields.{record_capacity, issued, journal_capacity, journal_count, pool_capacity, pool_used}
use Rattle.image.specs.Fields.{reference_length}
use Rattle.image.specs.Formed.{lengths, well_formed}
use Rattle.image.proofs.WellFormed.{FormedRecord, well_formed-formed}
use Rattle.effects.proofs.Seen.{Issues}
use Rattle.effects.proofs.StayFormed.{lengths-stay, record-stays, header-stays, entries_next, stay-formed}

module _ (b c : List ℕ) (w : well_formed b ≡ true) (f : Normal) (r : Issues b c f) where
  lengths-before : lengths c (issued b) ≡ pool_used b
  lengths-before = lengths-stay b c (well_formed-formed b w) r.stays (issued b) (omega arith)
      ∙ (well_formed-formed b w).used

  lengths-all : lengths c (issued c) ≡ pool_used c
  unfolding lengths
  lengths-all = rw (r.numbers, add-one (issued b), lengths-before, ← add-one (issued b), r.residues, r.used)

  new-record : f.start ≤ f.end → f.end ≤ reference_length b → every residue f.replacement ≡ true
      → FormedRecord c (issued b)
  new-record order inside residues =
      record {
        ordered = rw (← add-one (issued b)) (omega (arith, r.start, r.end));
        inside = rw (← add-one (issued b)) (omega (arith, r.end, r.stays.frame.reference));
        status = rw (← add-one (issued b), r.now) (omega arith);
        offset = rw (← add-one (issued b)) (r.offset ∙ sym lengths-before);
        residues = rw (← add-one (issued b), r.replacement) residues;
      }

  records-next : FormedRecord c (issued b) → (k : ℕ) → k < issued c → FormedRecord c k
  records-next new k l =
      let g = well_formed-formed b w in
      ⊎_elim
      (λ e. subst (FormedRecord c) (sym e) new)
      (λ h. let status = r.statuses (suc k) (omega arith) h in
      record-stays b c g r.stays k h (omega (arith, status, (g.records k h).status)))
      (eq-or-lt_of_le (let h : k ≤ issued b = omega (arith, r.numbers) in h))

  pub issues-formed : f.start ≤ f.end → f.end ≤ reference_length b → every residue f.replacement ≡ true
      → issued b < record_capacity b
      → journal_count b < journal_capacity b
      → pool_used b + length f.replacement ≤ pool_capacity b
      → well_formed c ≡ true
  issues-formed order inside residues records journal pool =
      let g = well_formed-formed b w in
      let s = r.stays in
      stay-formed b c g s
      (header-stays b c g s (omega arith) (omega (arith, r.count)) (omega (arith, r.used)))
      (records-next (new-record order inside residues))
      lengths-all
      (entries_next b c g s (issued b + 1) (omega arith) (omega arith) (omega arith) r.count r.last)
