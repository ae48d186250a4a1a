use Rattle.std.proofs.Common.{sym, ap, ◌∙◌, subst}
use Rattle.page_entry.specs.inside.Flags.{with_flag_of}
use Rattle.page_entry.proofs.Bits.{Makes, after_set, makes_with_flag}
use Rattle.page_entry.proofs.entry.Entry.with_flag.Goals as goal

made : (c : goal.After-bits) → Makes c.bits.result (with_flag_of c.args.flag c.args.self c.args.set)
made c = subst (λ n. Makes n (with_flag_of c.args.flag c.args.self c.args.set))
    (sym (c.bits.ensures tt ∙ c.set.ensures tt ∙ ap (λ w. after_set c.self.inside.0 w c.args.set) c.bit_of.ensures))
    (makes_with_flag c.args.flag c.args.set c.self.inside.0 c.args.self c.self.invariant c.self.view_is
    (sym c.if-not-present.ensures))

pub invariant_of-result-2 : goal.invariant_of-result-2
invariant_of-result-2 c = (made c).is

pub returns : goal.returns
returns c = (made c).value
