use Rattle.std.proofs.Common.{arith}
use Rattle.decimals.proofs.Leads.{read-on, read-end}
use Rattle.decimals.proofs.decimal.leading_digits.Goals as goal
use Rattle.decimals.proofs.decimal.leading_digits.Goals.{then-most-d-via-then-most-d}
use Rattle.decimals.proofs.decimal.leading_digits.Goals.{then-most-d-via-else-most-d+then-most-d-2}

pub returns-then-not-is_ascii_digit : goal.returns-then-not-is_ascii_digit
returns-then-not-is_ascii_digit c = let l = c.loop-length in
    read-end _ _ l.length l.number l.invariant
    (λ h t. omega (arith, c.if-not-is_ascii_digit.ensures.cases))

pub returns-then-number-eq0 : goal.returns-then-number-eq0
returns-then-number-eq0 c = let l = c.loop-length in
    read-end _ _ l.length l.number l.invariant (λ h t. omega (arith, t.leads (omega arith)))

pub returns-then-most-d : goal.returns-then-most-d
returns-then-most-d c = let l = c.loop-length in
    read-end _ _ l.length l.number l.invariant
    (λ h t. elim c.then-most-d.branch [
      | then-most-d-via-then-most-d w ↦ omega (arith, c.from-d.ensures)
      | then-most-d-via-else-most-d+then-most-d-2 w ↦ omega (arith, c.from-d.ensures)
    ])

pub loop-length-preserved : goal.loop-length-preserved
loop-length-preserved c = let l = c.loop-length in
    rw c.from-d.ensures (read-on _ _ l.length l.number l.invariant (omega arith)
    (record {
      least = omega (arith, c.if-not-is_ascii_digit.ensures.cases);
      greatest = omega (arith, c.if-not-is_ascii_digit.ensures.cases);
      leads = λ h. omega (arith, c.else-length-gt0.either);
      small = omega arith;
    }))
