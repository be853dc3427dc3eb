-- After i turns the characters of the first i groups stand at the front.
use Rattle.std.proofs.Common.{◌≡◌, ◌*◌, take}
use Rattle.stretch.specs.Over.{over}
use Rattle.digest_text.specs.Base64.{encoded}
use Rattle.digest_text.proofs.base64.write_digest_text.Given as goal

abbrev pub invariant-loop-i : goal.invariant-loop-i
invariant-loop-i l = l.out ≡ over l.initial.out 0 (encoded (take (l.i * 3) l.digest))
