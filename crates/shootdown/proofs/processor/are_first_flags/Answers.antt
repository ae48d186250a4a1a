use Rattle.std.proofs.Common.{false, not, get_or, sym, ap, ◌∙◌}
use Rattle.std.proofs.lemmas.Bool.{false≢true, not-false}
use Rattle.shootdown.proofs.Flags.{get_or-first_flags}
use Rattle.shootdown.proofs.Fresh.{are_first, first_alone}
use Rattle.shootdown.proofs.processor.are_first_flags.Goals as goal

pub returns-then-has_flag : goal.returns-then-has_flag
returns-then-has_flag c = (
  (λ unset. are_first c.args.flags.now c.first_set.result c.first_set.ensures
      (sym c.has_flag.ensures ∙ c.if-has_flag.true) (c.is_none.ensures ∙ ap not unset)),
  (λ same.
      not-false _ (sym c.is_none.ensures ∙ first_alone c.args.flags.now c.first_set.result c.first_set.ensures same)),
)

pub returns-else-has_flag : goal.returns-else-has_flag
returns-else-has_flag c = (
  (λ set. absurd (false≢true (sym c.if-has_flag.false ∙ set))),
  (λ same. c.has_flag.ensures ∙ ap (λ flags. get_or flags 0 false) same ∙ get_or-first_flags),
)
