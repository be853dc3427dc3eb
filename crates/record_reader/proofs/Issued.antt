-- The grounds 10 and 16: none holds exactly where the image is well formed and has issued the number.
use Prim.Native.Nat.{ℕ, ◌≤◌}
use native.Mathlib.Omega.{arith}
use mathlib.Core.Path.{◌≡◌}
use mathlib.Core.Bool.{true}
use mathlib.Core.List.{List, [], ◌∷◌}
use Rattle.std.specs.Prelude.{Ok}
use borrow.Author.Tests.{not-false, ltb-false, eqb-false, ne_eqb, le-ltb}
use Rattle.refusal.specs.Verdict.{accepted, verdict}
use Rattle.refusal.proofs.Verdict.{none-holds, told-accepted}
use Rattle.image.specs.Fields.{issued}
use Rattle.image.specs.Formed.{well_formed}
use Rattle.changes.specs.Grounds.{not_well_formed}
use Rattle.record_reader.specs.Calls.{checked, number_grounds}
use Rattle.record_reader.specs.Inner.{number_answer}

pub record Issued (b : List ℕ) (i : ℕ) : Type 0 where
  pub formed : well_formed b ≡ true
  pub from : 1 ≤ i
  pub to : i ≤ issued b

pub accepted-issued : (b : List ℕ) (i : ℕ) → verdict (number_grounds b i) ≡ accepted → Issued b i
unfolding number_grounds
accepted-issued b i v =
    record {
      formed = not-false _ (none-holds (number_grounds b i) v 0);
      from = let e = eqb-false i 0 (none-holds (number_grounds b i) v 1) in omega (arith, e);
      to = ltb-false _ _ (none-holds (number_grounds b i) v 2);
    }

pub issued-accepted : (b : List ℕ) (i : ℕ) → Issued b i → verdict (number_grounds b i) ≡ accepted
unfolding number_grounds
issued-accepted b i k = rw (k.formed, ne_eqb i 0 (λ e. omega (arith, e, k.from)), le-ltb (issued b) i k.to)

-- what the tests tell where they pass
pub checked-formed : (b : List ℕ) (u : Unit {0}) → Ok u ≡ checked b → well_formed b ≡ true
checked-formed b u e =
    let ten = not_well_formed b ∷ [] in
    not-false _ (none-holds ten (told-accepted (verdict ten) tt u e).0 0)

pub answered-issued : (b : List ℕ) (i : ℕ) (u : Unit {0}) → Ok u ≡ number_answer b i → Issued b i
answered-issued b i u e = accepted-issued b i (told-accepted (verdict (number_grounds b i)) tt u e).0
