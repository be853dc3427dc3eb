-- One part is the whole message.
use Rattle.std.proofs.Common.{arith}
use Rattle.sha512.proofs.Join.{finished-fed}
use Rattle.sha512.proofs.last_block.of_message.Goals as goal

pub returns : goal.returns
returns c = cc (finished-fed c.args.message.now (omega arith))
