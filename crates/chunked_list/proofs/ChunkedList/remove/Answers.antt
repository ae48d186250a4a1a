use Rattle.std.proofs.Common.{◌≡◌, ◌<◌, ◌∙◌, ◌+◌, ◌-◌, ◌/◌, ap, set, subst, length, arith}
use Rattle.std.specs.List.{concat, remove}
use Rattle.chunked_list.specs.List.{ListState}
use Rattle.std.proofs.lemmas.List.{length-set}
use Rattle.std.proofs.lemmas.List.Edits.{length-remove}
use Rattle.chunked_list.specs.inside.Chunks.{HasHole}
use Rattle.chunked_list.proofs.ChunkLaws.{removed, AreChunks-hole}
use Rattle.chunked_list.proofs.ChunkedList.remove.Goals as goal

pub invariant_of-self : goal.invariant_of-self
invariant_of-self g c =
    let are = c.self.invariant in
    let count = c.self.inside.count in
    let less : c.args.place < count =
    omega (arith, c.requires, ap (λ (l : ListState). length l.items) c.self.view_is, are.counted) in
    let gone = removed c.self.inside.chunks.items count c.self.inside.capacity c.args.place c.index_mut.result.now
    c.remove.new.self are less c.index_mut.ensures.value c.remove.ensures in
    let all = c.close_at.ensures.same ∙ gone.1 in
    let size = length-remove (concat c.self.inside.chunks.items) c.args.place (omega (arith, less, are.counted)) in
    AreChunks-hole c.close_at.new.chunks.items (count - 1) c.self.inside.capacity c.close_at.ensures.hole
    (omega (arith, ap length all, size, are.counted)) (omega (arith, are.few))
    (omega (
      arith,
      are.enough,
      c.close_at.ensures.chunks,
      length-set c.self.inside.chunks.items (c.args.place / 1024) c.remove.new.self,
    ))

pub returns : goal.returns
returns g c =
    let are = c.self.invariant in
    let less : c.args.place < c.self.inside.count =
    omega (arith, c.requires, ap (λ (l : ListState). length l.items) c.self.view_is, are.counted) in
    let gone = removed c.self.inside.chunks.items c.self.inside.count c.self.inside.capacity c.args.place
    c.index_mut.result.now c.remove.new.self are less c.index_mut.ensures.value c.remove.ensures in
    ap (λ xs. record { items = xs; room = c.self.inside.capacity }) (c.close_at.ensures.same ∙ gone.1)
    ∙ ap (λ (l : ListState). record { items = remove l.items c.args.place; room = l.room }) c.self.view_is

pub close_at-requires-clause-hole : goal.close_at-requires-clause-hole
close_at-requires-clause-hole g c =
    let are = c.self.invariant in
    let less : c.args.place < c.self.inside.count =
    omega (arith, c.requires, ap (λ (l : ListState). length l.items) c.self.view_is, are.counted) in
    let gone = removed c.self.inside.chunks.items c.self.inside.count c.self.inside.capacity c.args.place
    c.index_mut.result.now c.remove.new.self are less c.index_mut.ensures.value c.remove.ensures in
    let back : c.self.inside.count ≡ c.self.inside.count - 1 + 1 = omega (arith, less) in
    subst
    (λ n. HasHole (set c.self.inside.chunks.items (c.args.place / 1024) c.remove.new.self) n (c.args.place / 1024))
    back gone.0
