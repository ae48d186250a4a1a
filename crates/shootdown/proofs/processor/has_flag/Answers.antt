use Rattle.std.proofs.Common.{sym, ◌∙◌}
use Rattle.std.proofs.lemmas.Bool.{le-ltb}
use Rattle.shootdown.proofs.Words.{get_or-flags_of, get_or-flags_of_past, bit_test}
use Rattle.shootdown.proofs.processor.has_flag.Goals as goal

pub returns-then-pcid-lt-PCIDS : goal.returns-then-pcid-lt-PCIDS
returns-then-pcid-lt-PCIDS c =
    bit_test c.args.flags.now c.args.pcid
    ∙ sym (get_or-flags_of c.args.flags.now c.args.pcid c.if-pcid-lt-PCIDS.true)

pub returns-else-pcid-lt-PCIDS : goal.returns-else-pcid-lt-PCIDS
returns-else-pcid-lt-PCIDS c =
    le-ltb _ _ c.if-pcid-lt-PCIDS.false
    ∙ sym (get_or-flags_of_past c.args.flags.now c.args.pcid c.if-pcid-lt-PCIDS.false)
