-- 1 to 5, and 12 after them.
use mathlib.Core.Path.{◌≡◌, ◌∙◌}
use mathlib.Core.Bool.{true, false}
use Rattle.std.proofs.Common.{rules}
use Rattle.refusal.proofs.HandedOn.{handed_on}
use Rattle.entry.specs.Inner.{unchanged}
use Rattle.entry.proofs.EntryTests.{unchanged-not, change-none, change-found, change-unfound}
use Rattle.entry.proofs.allele.check_change.Goals as goal
use Rattle.entry.proofs.allele.check_change.Goals.{in-Unchanged, in_default}

pub returns-in_err-w : goal.returns-in_err-w
returns-in_err-w c = handed_on _ _ c.from_residual.ensures.1 ∙ change-unfound _ _ _ _ _ c.in_err-w.ensures

pub returns-then-matches : goal.returns-then-matches
returns-then-matches c =
    let kind : unchanged c.in_ok-w.w.kind ≡ true =
    elim c.match-matches.branch [
      | in-Unchanged w ↦ search rules
      | in_default w ↦ cc
    ] in
    rw c.refuse.ensures (change-none _ _ _ _ _ c.in_ok-w.ensures kind)

pub returns : goal.returns
returns c =
    let kind : unchanged c.in_ok-w.w.kind ≡ false =
    elim c.match-matches.branch [
      | in-Unchanged w ↦ cc
      | in_default w ↦ unchanged-not _ w.in_default.not-Unchanged
    ] in
    change-found _ _ _ _ _ c.in_ok-w.ensures kind
