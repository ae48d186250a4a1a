use Rattle.std.proofs.Common.{◌+◌, ◌/◌, ◌∙◌, ap, arith}
use Rattle.std.specs.List.{concat}
use Rattle.chunked_list.proofs.ChunkLaws.{AreChunks-empty, concat-empty}
use Rattle.chunked_list.proofs.ChunkedList.new.Goals as goal

pub invariant_of-result : goal.invariant_of-result
invariant_of-result g c =
    rw c.in_ok-empty_chunks.ensures
    (AreChunks-empty (c.args.capacity / 1024 + 1) c.args.capacity (omega arith))

pub returns : goal.returns
returns g c =
    ap (λ xss. record { items = concat xss; room = c.args.capacity }) c.in_ok-empty_chunks.ensures
    ∙ ap (λ xs. record { items = xs; room = c.args.capacity }) (concat-empty (c.args.capacity / 1024 + 1))
