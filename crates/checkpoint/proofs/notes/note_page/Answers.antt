use Rattle.std.proofs.Common.{◌≡◌, false, [], ◌∷◌, ◌++◌, set, true, sym, ap, ◌∙◌, arith}
use Rattle.page_entry.specs.Entry.{frame_of, is_dirty}
use Rattle.spaces.specs.Spaces.{entry_at}
use Rattle.spaces.specs.Changes.{entries_of}
use Rattle.checkpoint.proofs.Noting.{AreNoted-start, is_dirty-at, AreNoted-came, AreNoted-passed}
use Rattle.checkpoint.proofs.Listed.{entries_of-next, walk-end, AreNoted-mappings}
use Rattle.checkpoint.proofs.notes.note_page.Goals as goal
use Rattle.checkpoint.proofs.notes.note_page.Goals.{After-dirty}

pub loop-pcid-init : goal.loop-pcid-init
loop-pcid-init g c = record {
  can = tt;
  finite = tt;
  listed = c.into_iter-pcid-iterator.ensures.into_iter_gives ∙ c.entries_of-pcid-items.ensures;
  noted = AreNoted-start c.args.spaces.now.map c.args.notes.now;
}

-- the page that the walk comes to is walked then
next : (g : _) (c : After-dirty g) → (c.loop-pcid.yielded ++ (c.in-Some.pcid, c.in-Some.q) ∷ []) ++ c.next.new.self
    ≡ entries_of c.args.spaces.now.map c.args.page
next g c =
    (entries_of-next c.args.spaces.now.map c.args.page c.loop-pcid.yielded c.loop-pcid.pcid-iterator
    (c.in-Some.pcid, c.in-Some.q) c.next.new.self c.loop-pcid.invariant.listed c.in-Some.ensures.steps).1

pub note-requires : goal.note-requires
note-requires g c =
    let d = is_dirty-at c.args.spaces.now.map c.in-Some.pcid c.in-Some.q
    (sym (c.dirty.ensures ∙ ap is_dirty c.entry-entry.ensures.entry) ∙ c.if-dirty.true) in
    let frame = ap frame_of (c.entry-entry.ensures.entry ∙ d.present) in
    let below = c.requires c.in-Some.pcid c.in-Some.q d.entry d.present in
    omega (arith, frame, below, c.loop-pcid.auto.notes)

pub loop-pcid-preserved-then-dirty : goal.loop-pcid-preserved-then-dirty
loop-pcid-preserved-then-dirty g c =
    let spaces = c.args.spaces.now.map in
    let d = is_dirty-at spaces c.in-Some.pcid c.in-Some.q
    (sym (c.dirty.ensures ∙ ap is_dirty c.entry-entry.ensures.entry) ∙ c.if-dirty.true) in
    let frame = ap frame_of (c.entry-entry.ensures.entry ∙ d.present) in
    let below = c.requires c.in-Some.pcid c.in-Some.q d.entry d.present in
    record {
      can = tt;
      finite = tt;
      listed = next g (goal.at.loop-pcid-preserved-then-dirty g c).After-dirty;
      noted = AreNoted-came spaces c.loop-pcid.yielded c.in-Some.pcid c.in-Some.q c.args.notes.now c.loop-pcid.notes
          c.note.new.notes c.loop-pcid.invariant.noted d (omega (arith, below, c.loop-pcid.auto.notes))
          (c.note.ensures ∙ ap (λ f. set c.loop-pcid.notes f true) frame);
    }

pub loop-pcid-preserved : goal.loop-pcid-preserved
loop-pcid-preserved g c =
    let spaces = c.args.spaces.now.map in
    let clean : is_dirty (entry_at spaces c.in-Some.pcid c.in-Some.q) ≡ false =
    sym (c.dirty.ensures ∙ ap is_dirty c.entry-entry.ensures.entry)
    ∙ c.if-dirty.false in
    record {
      can = tt;
      finite = tt;
      listed = next g (goal.at.loop-pcid-preserved g c).After-dirty;
      noted = AreNoted-passed spaces c.loop-pcid.yielded c.in-Some.pcid c.in-Some.q c.args.notes.now c.loop-pcid.notes
          c.loop-pcid.invariant.noted clean;
    }

pub returns : goal.returns
returns g c =
    let all = walk-end (entries_of c.args.spaces.now.map c.args.page) c.loop-pcid.yielded c.loop-pcid.pcid-iterator
    c.loop-pcid.invariant.listed c.in-None.ensures.steps.0 in
    AreNoted-mappings c.args.spaces.now.map c.args.page c.loop-pcid.yielded c.args.notes.now c.loop-pcid.notes all
    c.loop-pcid.invariant.noted
