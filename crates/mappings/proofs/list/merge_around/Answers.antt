use Rattle.std.proofs.Common.{◌≡◌, ◌+◌, ◌-◌, ◌≤◌, length, drop, min, arith, ◌∙◌}
use Rattle.std.proofs.lemmas.List.{length-take, length-drop}
use Rattle.mappings.proofs.Merging.{merged-written}
use Rattle.mappings.proofs.Lists.{IsOrdered-between}
use Rattle.mappings.proofs.list.merge_around.Goals as goal

pub merge-kept-requires : goal.merge-kept-requires
merge-kept-requires g c =
    let a = c.saturating_sub-from.result in
    rw c.deref_mut.ensures.value (IsOrdered-between 0 0 a (c.min-to.result - a) c.args.list.now.items c.requires.ordered
    (λ d some within. omega arith))

pub returns-clause-items : goal.returns-clause-items
returns-clause-items g c =
    let list = c.args.list.now in
    let now = c.deref_mut.result.now in
    let a = c.saturating_sub-from.result in
    let b = c.min-to.result in
    let whole = list.ok.0 in
    let front : a ≡ c.args.places.start - 1 = c.saturating_sub-from.ensures in
    let back : b ≡ min (c.args.places.end + 1) (length list.items) =
    omega (arith, c.min-to.ensures, c.len.ensures, c.saturating_add.ensures, c.requires.within) in
    let size : length c.merge-kept.new.list ≡ b - a = omega (
      arith,
      c.merge-kept.auto.list,
      length-take (b - a) (drop a now),
      length-drop a now,
      c.deref_mut.ensures.len,
    ) in
    let few : c.merge-kept.result ≤ length c.merge-kept.new.list =
    omega (arith, c.merge-kept.auto.list, c.merge-kept.ensures.within) in
    c.remove_range.ensures.items
    ∙ merged-written list now c.merge-kept.new.list c.args.places.start c.args.places.end a b c.merge-kept.result
    c.deref_mut.ensures.value c.requires.ordered c.requires.forward (omega (arith, c.requires.within)) c.requires.before
    c.requires.after front back size few c.merge-kept.ensures.merged
