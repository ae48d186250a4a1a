use Rattle.std.proofs.Common.{List, Option, sym, ap, ◌∙◌}
use Rattle.frames.specs.Frames.{Frame}
use Rattle.checkpoint.proofs.PagesInUse.{freed_one, freed_none}
use Rattle.checkpoint.proofs.copies.free_copy.Goals as goal

pub returns-in-Some : goal.returns-in-Some
returns-in-Some g c =
    let memory = c.args.frames.now in
    let found = c.in-Some.ensures.found in
    c.give_copy.ensures ∙ ap (λ (copies : List (Option Frame)). record memory { copies = copies })
    (sym (freed_one c.args.page memory.copies c.in-Some.copy found
    (λ j other. c.count-frames.ensures.are.one_copy j c.in-Some.copy c.args.page other found)))

pub returns-in_default : goal.returns-in_default
returns-in_default g c =
    let memory = c.args.frames.now in
    ap (λ (copies : List (Option Frame)). record memory { copies = copies })
    (sym (freed_none c.args.page memory.copies c.in_default.ensures.none))
