use Rattle.std.proofs.Common.{sym, ◌∙◌}
use Rattle.checkpoint.proofs.Dirtiness.{IsDirty-mapping, IsDirty-free}
use Rattle.checkpoint.proofs.checkpoint.Checkpoint.is_dirty.Goals as goal

pub returns-in-Some : goal.returns-in-Some
returns-in-Some g c =
    let same = IsDirty-mapping c.args.frames.now c.args.self.now c.args.spaces.now.map c.in-Some.page
    c.args.frame c.requires c.owner.ensures.are.one_frame (sym c.owner.ensures.owner ∙ c.in-Some.is)
    (sym c.is_noted.ensures ∙ c.if-is_noted.false) in
    (λ is. same.0 (c.has_dirty_entry.ensures.0 is), λ dirty. c.has_dirty_entry.ensures.1 (same.1 dirty))

pub returns-in-None : goal.returns-in-None
returns-in-None g c = (
  λ never. absurd (cc),
  λ dirty. absurd (IsDirty-free c.args.frames.now c.args.self.now c.args.spaces.now.map c.args.frame c.requires
      (sym c.owner.ensures.owner ∙ c.in-None.is) (sym c.is_noted.ensures ∙ c.if-is_noted.false) dirty),
)
