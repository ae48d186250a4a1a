use Rattle.std.proofs.Common.{set, true, ap, ◌∙◌, arith}
use Rattle.page_entry.specs.Entry.{frame_of}
use Rattle.checkpoint.proofs.Noting.{AreNoted-walked}
use Rattle.checkpoint.proofs.Listed.{dirty_range, dirty_range-next, walk-end, AreNoted-range}
use Rattle.checkpoint.proofs.notes.note_range.Goals as goal

pub note-requires : goal.note-requires
note-requires g c =
    let next = dirty_range-next c.args.spaces.now.map c.args.pcid c.args.range c.loop-page.yielded
    c.loop-page.page-iterator c.in-Some.page c.next.new.self c.loop-page.invariant.listed c.in-Some.ensures.steps in
    let frame = ap frame_of (c.entry.ensures.entry ∙ next.0.present) in
    let below = c.requires.notes c.args.pcid c.in-Some.page next.0.entry next.0.present in
    omega (arith, frame, below, c.loop-page.auto.notes)

pub loop-page-preserved : goal.loop-page-preserved
loop-page-preserved g c =
    let next = dirty_range-next c.args.spaces.now.map c.args.pcid c.args.range c.loop-page.yielded
    c.loop-page.page-iterator c.in-Some.page c.next.new.self c.loop-page.invariant.listed c.in-Some.ensures.steps in
    let frame = ap frame_of (c.entry.ensures.entry ∙ next.0.present) in
    let below = c.requires.notes c.args.pcid c.in-Some.page next.0.entry next.0.present in
    record {
      can = tt;
      finite = tt;
      listed = next.1;
      noted = AreNoted-walked c.args.spaces.now.map c.args.pcid c.loop-page.yielded c.in-Some.page
          c.args.notes.now c.loop-page.notes c.note.new.notes c.loop-page.invariant.noted next.0
          (omega (arith, below, c.loop-page.auto.notes))
          (c.note.ensures ∙ ap (λ f. set c.loop-page.notes f true) frame);
    }

pub returns : goal.returns
returns g c =
    let all = walk-end (dirty_range c.args.spaces.now.map c.args.pcid c.args.range) c.loop-page.yielded
    c.loop-page.page-iterator c.loop-page.invariant.listed c.in-None.ensures.steps.0 in
    AreNoted-range c.args.spaces.now.map c.args.pcid c.args.range c.loop-page.yielded c.args.notes.now c.loop-page.notes
    all c.loop-page.invariant.noted
