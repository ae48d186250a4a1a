use Rattle.std.proofs.Common.{◌≡◌, true, false, not, [], length, sym, ap, ◌∙◌, subst}
use Rattle.std.specs.List.{list_any}
use Rattle.checkpoint.specs.Checkpoint.{CheckpointState}
use Rattle.checkpoint.proofs.Fresh.{none_set, set_none, none_left, not_true}
use Rattle.checkpoint.proofs.checkpoint.Checkpoint.is_fresh.Goals as goal

module _ (g : _) (c : goal.After-has_note g) where
  -- the notes of its value
  noted : c.has_note.result ≡ list_any (λ note. note) c.args.self.now.notes
  noted =
      c.has_note.ensures
      ∙ ap (list_any (λ note. note)) (c.deref.ensures.value ∙ ap (λ (s : CheckpointState). s.notes) c.self.view_is)

  frozen : c.args.self.now.frozen ≡ []
  frozen = sym c.frozen.ensures.frozen ∙ none_left c.frozen.result.now (sym c.if-is_empty.ensures)

pub returns-then-is_empty : goal.returns-then-is_empty
returns-then-is_empty g c = (
  (λ unset. let none : list_any (λ note. note) c.args.self.now.notes ≡ false =
      sym (noted g c) ∙ not_true c.has_note.result unset in
      λ i. record { notes = none_set c.args.self.now.notes none i; frozen = frozen g c i }),
  (λ fresh. subst (λ b. not b ≡ true) (sym (noted g c
      ∙ ap (λ (s : CheckpointState). list_any (λ note. note) s.notes) fresh ∙ set_none (length c.args.self.now.notes)))
      (λ i. true)),
)
