use Rattle.std.proofs.Common.{◌≤◌, ◌*◌, ◌∙◌, arith}
use Rattle.spaces.proofs.Public.{ClearsPast-refl}
use Rattle.checkpoint.specs.inside.Resized.{BeginBefore}
use Rattle.checkpoint.proofs.BackingLaws.{Holds-within}
use Rattle.checkpoint.proofs.Dropped.{Drops-more, Drops-cleared, BeginBefore-none}
use Rattle.checkpoint.proofs.resizing.drop_past.Goals as goal

-- no page of the file is past the end, since there is none in a volume
pub returns-then-whole-clause-cleared : goal.returns-then-whole-clause-cleared
returns-then-whole-clause-cleared g c = λ checkpoint backed.
    let file = c.args.file in
    let before : BeginBefore c.args.frames.now file c.args.end =
    λ frame owner holds same. let less = c.requires.before frame owner holds same in
    omega (arith, c.pages_in-whole.ensures, c.if-whole.true, less) in
    Drops-cleared file c.args.end c.args.spaces.now.map c.args.frames.now checkpoint c.args.spaces.now.map
    (ClearsPast-refl file c.args.end c.args.spaces.now.map) backed before

pub pages-preserved : goal.pages-preserved
pages-preserved g c =
    let now = c.pages.frames in
    let frame = c.in-Some.frame in
    let from = c.in-Some.ensures.found in
    let past : c.args.end ≤ 4096 * from.owner.page =
    (let low = from.from in omega (arith, c.pages_in-whole.ensures, low)) in
    let within = Holds-within now frame from.owner from.has in
    let drops = c.pages.invariant.drops in
    record {
      drops =
          rw (c.drop_page.ensures.frames, c.drop_page.ensures.notes)
          (Drops-more c.args.file c.args.end c.args.frames.now c.args.notes.now c.args.spaces.now.map now
          c.pages.notes c.pages.spaces.map frame from.owner c.drop_page.new.spaces.map from.same_file past from.has
          (omega (arith, within, drops.dropped.same_count, drops.dropped.same_notes, c.requires.sized)) drops
          (c.drop_page.ensures.cleared from.owner from.has));
      prepared = c.drop_page.ensures.prepared ∙ c.pages.invariant.prepared;
    }

pub returns-clause-cleared : goal.returns-clause-cleared
returns-clause-cleared g c = λ checkpoint backed.
    let drops = c.pages.invariant.drops in
    Drops-cleared c.args.file c.args.end c.args.spaces.now.map c.pages.frames checkpoint c.pages.spaces.map drops.clears
    (drops.backed checkpoint backed)
    (BeginBefore-none c.pages.frames c.args.file c.args.end c.pages_in-whole.result c.pages_in-whole.ensures
    c.in_default.ensures.none)
