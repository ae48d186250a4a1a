use Rattle.std.proofs.Common.{◌<◌, ◌∙◌, [], ap, length, get_or, arith, ◌/◌, ◌%◌}
use Rattle.std.proofs.lemmas.List.{get_or_default}
use Rattle.chunked_list.specs.List.{ListState}
use Rattle.chunked_list.proofs.ChunkLaws.{get_or-chunks, chunk_within}
use Rattle.chunked_list.proofs.ChunkedList.get.Goals as goal

pub returns : goal.returns
returns g c =
    let are = c.self.invariant in
    let less : c.args.place < c.self.inside.count =
    omega (arith, c.requires, ap (λ (l : ListState). length l.items) c.self.view_is, are.counted) in
    let k = c.args.place / 1024 in
    c.get.ensures
    ∙ ap (λ xs. get_or xs (c.args.place % 1024) 0)
    (c.index.ensures ∙ get_or_default c.self.inside.chunks.items k c.index.result.now []
    (chunk_within _ _ _ are c.args.place (omega (arith, less))))
    ∙ get_or-chunks _ _ _ are c.args.place 0 less
    ∙ ap (λ (l : ListState). get_or l.items c.args.place 0) c.self.view_is
