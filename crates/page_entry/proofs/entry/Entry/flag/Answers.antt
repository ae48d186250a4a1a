use Rattle.std.proofs.Common.{◌==◌, ◌^◌, sym, ap, ◌∙◌}
use Rattle.std.specs.Int.RustNames.{bit_and}
use Rattle.page_entry.specs.Entry.{entry_of}
use Rattle.page_entry.specs.inside.Flags.{bit_of, flag_of}
use Rattle.page_entry.proofs.Bits.{test_flag}
use Rattle.page_entry.proofs.entry.Entry.flag.Goals as goal

pub returns : goal.returns
returns c =
    let weight = 2 ^ bit_of c.args.flag in
    c.contains.ensures tt
    ∙ ap (λ w. bit_and c.self.inside.0 w == w) c.bit_of.ensures
    ∙ ap (λ n. bit_and n weight == weight) (sym c.self.invariant.named)
    ∙ test_flag c.args.flag (entry_of c.self.inside.0)
    ∙ ap (flag_of c.args.flag) c.self.view_is
