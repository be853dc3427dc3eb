-- Each step goes on in the input, and its answer lies in the buffer.
use Rattle.std.proofs.Common.{length, ◌-◌, ◌<◌, ◌≡◌}
use Rattle.lines_main.proofs.print_answers.Given as goal

abbrev pub invariant-loop-step : goal.invariant-loop-step
invariant-loop-step g l = (l.step.reference < l.step.next) × (length l.out ≡ length l.initial.out)

abbrev pub decreases-loop-step : goal.decreases-loop-step
decreases-loop-step g l = length l.input - l.step.next
