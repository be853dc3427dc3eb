-- What is known of the place where a walk stopped is known where `?` hands it back.
use mathlib.Core.Path.{◌≡◌}
use Rattle.std.specs.Prelude.{Result, Ok, Err, IfErr, IsErrAnd}
use Rattle.words.specs.declared.Stopped.{Stopped}

pub at_exit : {T : Type 0} {s : Stopped} (Q : Stopped → Type 0) (r : Result T Stopped) → IsErrAnd r (λ t. t ≡ s)
    → Q s → IfErr r Q
at_exit Q (Ok x) e q = absurd e
at_exit Q (Err t) e q = rw e q
