use Rattle.std.proofs.Common.{◌≡◌, ℕ, false, [], ◌∷◌, ◌++◌, sym, ap, ◌∙◌, refl, ⊎_elim}
use Rattle.std.proofs.lemmas.List.Elements.{Contains-push_cases}
use Rattle.page_entry.specs.Entry.{is_dirty}
use Rattle.spaces.specs.Spaces.{entry_at}
use Rattle.spaces.specs.Changes.{entries_of}
use Rattle.checkpoint.specs.Checkpoint.{IsMappingOf}
use Rattle.checkpoint.proofs.Noting.{is_dirty-at}
use Rattle.checkpoint.proofs.Listed.{entries_of-next, walk-end, dirty_mapping, no_dirty_mapping}
use Rattle.checkpoint.proofs.notes.has_dirty_entry.Goals as goal
use Rattle.checkpoint.proofs.notes.has_dirty_entry.Goals.{After-dirty}

-- the page that the walk comes to maps the file's page, and is walked then
next : (g : _) (c : After-dirty g) → IsMappingOf c.args.spaces.now.map c.args.page c.in-Some.pcid c.in-Some.q
    × ((c.loop-pcid.yielded ++ (c.in-Some.pcid, c.in-Some.q) ∷ []) ++ c.next.new.self
    ≡ entries_of c.args.spaces.now.map c.args.page)
next g c =
    entries_of-next c.args.spaces.now.map c.args.page c.loop-pcid.yielded c.loop-pcid.pcid-iterator
    (c.in-Some.pcid, c.in-Some.q) c.next.new.self c.loop-pcid.invariant.listed c.in-Some.ensures.steps

pub returns-then-dirty : goal.returns-then-dirty
returns-then-dirty g c =
    let spaces = c.args.spaces.now.map in
    let d = is_dirty-at spaces c.in-Some.pcid c.in-Some.q
    (sym (c.dirty.ensures ∙ ap is_dirty c.entry.ensures.entry) ∙ c.if-dirty.true) in (
      λ _. dirty_mapping spaces c.args.page c.in-Some.pcid c.in-Some.q
          (next g (goal.at.returns-then-dirty g c).After-dirty).0 d,
      λ _. refl,
    )

pub loop-pcid-preserved : goal.loop-pcid-preserved
loop-pcid-preserved g c =
    let spaces = c.args.spaces.now.map in
    let clean : is_dirty (entry_at spaces c.in-Some.pcid c.in-Some.q) ≡ false =
    sym (c.dirty.ensures ∙ ap is_dirty c.entry.ensures.entry)
    ∙ c.if-dirty.false in
    record {
      can = tt;
      finite = tt;
      listed = (next g (goal.at.loop-pcid-preserved g c).After-dirty).1;
      clean = λ q p there. ⊎_elim (c.loop-pcid.invariant.clean q p)
          (λ here. ap (λ (at : ℕ × ℕ). is_dirty (entry_at spaces at.0 at.1)) (sym here) ∙ clean)
          (Contains-push_cases c.loop-pcid.yielded (c.in-Some.pcid, c.in-Some.q) (q, p) there);
    }

pub returns : goal.returns
returns g c =
    let all = walk-end (entries_of c.args.spaces.now.map c.args.page) c.loop-pcid.yielded c.loop-pcid.pcid-iterator
    c.loop-pcid.invariant.listed c.in-None.ensures.steps.0 in (
      λ never. absurd (cc),
      λ h. absurd (no_dirty_mapping c.args.spaces.now.map c.args.page c.loop-pcid.yielded all
          c.loop-pcid.invariant.clean h.0 h.1),
    )
