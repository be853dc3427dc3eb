use Rattle.std.proofs.Common.{arith}
use Rattle.alphabets.proofs.Ranges.{alphanumeric-base64url}
use Rattle.alphabets.proofs.base64.Base64urlClass.contains.Goals as goal

pub returns : goal.returns
returns c = rw c.is_ascii_alphanumeric.ensures.value (alphanumeric-base64url c.args.b (omega arith))
