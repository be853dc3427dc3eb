-- The bytes that wait and their padding, laid over the front of zeros, are whole blocks.
use Rattle.std.proofs.Common.{◌≡◌, ◌∙◌, ℕ, ◌+◌, ◌-◌, ◌%◌, List, length, take, replicate, arith, length-take-le, rules}
use Rattle.std.proofs.lemmas.List.{take-replicate}
use Rattle.sha512_block.specs.Blocks.{block_size}
use Rattle.sha512_padding.specs.Padding.{padding}
use Rattle.sha512_padding.proofs.Padding.{zeros-for}
use Rattle.sha512.specs.Feeding.{finished, waiting}
use Rattle.sha512.proofs.last_block.finish.Goals as goal

blank : (block : List ℕ) (n k : ℕ) → length block ≡ block_size
    → k ≡ n % block_size + 17 + (block_size - (n % block_size + 17) % block_size) % block_size
    → take k (replicate {A = ℕ} 256 0) ≡ replicate (length (take (n % block_size) block) + length (padding n)) 0
blank block n k e q = take-replicate k 256 0 (omega arith)
    ∙ zeros-for _ n k (length-take-le _ _ (omega arith)) (omega arith)

pub pad-requires-clause-out_value : goal.pad-requires-clause-out_value
pad-requires-clause-out_value c =
    let s = c.args.state in
    let long : length s.block ≡ block_size = search rules in
    blank s.block s.total c.next_multiple_of-end.result long c.next_multiple_of-end.ensures.value

pub returns : goal.returns
unfolding finished waiting
returns c = cc
