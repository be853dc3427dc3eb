-- Wherever a reference is cut into parts, the parts are taken where the whole is, and its identifier is that of the
-- whole call.
use Prim.Native.Nat.{ℕ, ◌+◌, ◌≤◌}
use native.Mathlib.Omega.{arith}
use mathlib.Core.Path.{◌≡◌, refl, sym}
use mathlib.Core.Bool.{true, false}
use mathlib.Core.List.{List, [], ◌∷◌, ◌++◌, append_assoc, append-nil}
use lib.Dec.{ltb}
use lib.ListN.{length, length-append}
use borrow.Author.Tests.{ltb-false, le-ltb}
use Rattle.refusal.specs.Limits.{reference_limit}
use Rattle.std.specs.Prelude.{Result, Ok}
use Rattle.refusal.specs.declared.Refusal.{Refusal}
use Rattle.refusal.specs.Verdict.{accepted, verdict}
use Rattle.refusal.proofs.Verdict.{none-holds, told-accepted}
use Rattle.stretch.specs.Class.{every}
use Rattle.alphabets.specs.Alphabets.{residue, foreign}
use Rattle.stretch.proofs.Class.{every_append, every_front}
use Rattle.stretch.proofs.Outside.{first_outside-every}
use Rattle.alphabets.proofs.Foreign.{foreign-le, foreign-none}
use Rattle.sha512.specs.declared.Running.{Running}
use Rattle.sha512.specs.Feeding.{begun, joined}
use Rattle.sha512.proofs.Join.{Fed, fed-begun, fed-on, finished-is}
use Rattle.digest_text.specs.Digest.{sha512t24u}
use Rattle.sequence_identifier.specs.Identifier.{sequence_identifier}
use Rattle.sequence_identifier.specs.Calls.{reference_grounds, part_grounds, part_answer}
use Rattle.sequence_identifier.specs.Calls.{feeding, feeding_all, AllTaken}
use Rattle.sequence_identifier.specs.Calls.{Identifies, Finishes}

-- a state of so many residues, within the limit
record Taken (state : Running) (m : List ℕ) : Type 0 where
  fed-is : Fed state m
  residues : every residue m ≡ true
  within : length m ≤ reference_limit

taken-on : (state : Running) (m part : List ℕ) → Taken state m → part_answer state.total part ≡ Ok tt
    → Taken (feeding state part) (m ++ part)
taken-on state m part t e =
    let v : verdict (part_grounds state.total part) ≡ accepted =
    (told-accepted (verdict (part_grounds state.total part)) tt tt (sym e)).0 in
    let passed = none-holds (part_grounds state.total part) v in
    let total : state.total ≡ length m = t.fed-is.total-is in
    let few : state.total + length part ≤ reference_limit =
    ltb-false reference_limit (state.total + length part) (passed 0) in
    let long : length (m ++ part) ≡ length m + length part = length-append m part in
    let all : foreign part ≡ length part =
    omega (arith, ltb-false (foreign part) (length part) (passed 1), foreign-le part) in
    rw v
    (record {
      fed-is = fed-on state m part t.fed-is (omega arith);
      residues = rw (every_append residue m part, t.residues) (foreign-none part all);
      within = omega arith;
    })

all-taken : (parts : List (List ℕ)) (state : Running) (m : List ℕ) → Taken state m → AllTaken state parts
    → Taken (feeding_all state parts) (m ++ joined parts)
all-taken [] state m t a = rw append-nil t
all-taken (part ∷ parts) state m t a =
    rw (← append_assoc m part (joined parts))
    (all-taken parts (feeding state part) (m ++ part) (taken-on state m part t a.0) a.1)

begun-taken : Taken begun []
unfolding every
begun-taken = record { fed-is = fed-begun; residues = refl; within = omega arith }

-- residues after those of a state are taken, as long as all of them are within the limit
taken_next : (state : Running) (m part : List ℕ) → Taken state m → length (m ++ part) ≤ reference_limit
    → every residue part ≡ true → part_answer state.total part ≡ Ok tt
taken_next state m part t few all =
    let total : state.total ≡ length m = t.fed-is.total-is in
    let long : length (m ++ part) ≡ length m + length part = length-append m part in
    let within : ltb reference_limit (state.total + length part) ≡ false =
    le-ltb reference_limit (state.total + length part) (omega arith) in
    let none : ltb (foreign part) (length part) ≡ false =
    le-ltb (foreign part) (length part) (omega (arith, first_outside-every residue part all)) in
    rw (within, none)

taken-each : (parts : List (List ℕ)) (state : Running) (m : List ℕ) → Taken state m
    → length (m ++ joined parts) ≤ reference_limit → every residue (joined parts) ≡ true → AllTaken state parts
taken-each [] state m t few all = tt
taken-each (part ∷ parts) state m t few all =
    let front : every residue part ≡ true = every_front residue part (joined parts) all in
    let split : (m ++ part) ++ joined parts ≡ m ++ (part ++ joined parts) = append_assoc m part (joined parts) in
    let long : length ((m ++ part) ++ joined parts) ≡ length (m ++ part) + length (joined parts) =
    length-append (m ++ part) (joined parts) in
    let few' : length ((m ++ part) ++ joined parts) ≤ reference_limit = rw split few in
    let here : part_answer state.total part ≡ Ok tt = taken_next state m part t (omega arith) front in (
      here,
      taken-each parts (feeding state part) (m ++ part) (taken-on state m part t here) few'
          (rw (every_append residue part (joined parts), front) at all),
    )

-- wherever a reference is cut that is within its limit and has no foreign byte, each part is taken, one after another
pub cut-taken : (parts : List (List ℕ)) → verdict (reference_grounds (joined parts)) ≡ accepted → AllTaken begun parts
cut-taken parts v =
    let whole = joined parts in
    let passed = none-holds (reference_grounds whole) v in
    let none : foreign whole ≡ length whole =
    omega (arith, ltb-false (foreign whole) (length whole) (passed 1), foreign-le whole) in
    taken-each parts begun [] begun-taken (ltb-false reference_limit (length whole) (passed 0))
    (foreign-none whole none)

-- what finish promises after parts that were all taken is what the whole reference's call promises
pub cut-anywhere : (parts : List (List ℕ)) → AllTaken begun parts
    → (out : List ℕ) (place : ℕ) (answer : Result ℕ Refusal) (left : List ℕ)
    → Finishes (feeding_all begun parts) out place answer left → Identifies (joined parts) out place answer left
unfolding sequence_identifier sha512t24u
cut-anywhere parts a out place answer left f =
    let t : Taken (feeding_all begun parts) (joined parts) = all-taken parts begun [] begun-taken a in
    let total : (feeding_all begun parts).total ≡ length (joined parts) = t.fed-is.total-is in
    let few : ltb reference_limit (length (joined parts)) ≡ false =
    le-ltb reference_limit (length (joined parts)) t.within in
    let none : ltb (foreign (joined parts)) (length (joined parts)) ≡ false =
    le-ltb (foreign (joined parts)) (length (joined parts))
    (omega (arith, first_outside-every residue (joined parts) t.residues)) in
    let whole = finished-is (feeding_all begun parts) (joined parts) t.fed-is in
    rw (few, none) (rw (total, few, whole) at f)
