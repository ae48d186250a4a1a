use Rattle.std.proofs.Common.{◌∙◌, ap, length, arith}
use Rattle.std.specs.List.{insert}
use Rattle.chunked_list.specs.List.{ListState}
use Rattle.chunked_list.proofs.ChunkLaws.{inserted}
use Rattle.chunked_list.proofs.ChunkedList.insert.Goals as goal

pub invariant_of-self : goal.invariant_of-self
invariant_of-self g c =
    let are = c.self.invariant in
    let size = ap (λ (l : ListState). length l.items) c.self.view_is in
    let room = ap (λ (l : ListState). l.room) c.self.view_is in
    (inserted c.open_at.new.chunks.items c.self.inside.count c.self.inside.capacity c.args.place c.args.value
    c.index_mut.result.now c.insert.new.self c.open_at.ensures.hole
    (ap length c.open_at.ensures.same ∙ are.counted)
    (omega (arith, c.requires.within, size, are.counted)) (omega (arith, c.requires.room, size, room, are.counted))
    (omega (arith, are.enough, c.open_at.ensures.chunks)) c.index_mut.ensures.value c.insert.ensures).0

pub returns : goal.returns
returns g c =
    let are = c.self.invariant in
    let size = ap (λ (l : ListState). length l.items) c.self.view_is in
    let room = ap (λ (l : ListState). l.room) c.self.view_is in
    let all = (inserted c.open_at.new.chunks.items c.self.inside.count c.self.inside.capacity c.args.place c.args.value
    c.index_mut.result.now c.insert.new.self c.open_at.ensures.hole
    (ap length c.open_at.ensures.same ∙ are.counted)
    (omega (arith, c.requires.within, size, are.counted)) (omega (arith, c.requires.room, size, room, are.counted))
    (omega (arith, are.enough, c.open_at.ensures.chunks)) c.index_mut.ensures.value c.insert.ensures).1 in
    ap (λ xs. record { items = xs; room = c.self.inside.capacity })
    (all ∙ ap (λ xs. insert xs c.args.place c.args.value) c.open_at.ensures.same)
    ∙ ap (λ (l : ListState). record { items = insert l.items c.args.place c.args.value; room = l.room }) c.self.view_is
