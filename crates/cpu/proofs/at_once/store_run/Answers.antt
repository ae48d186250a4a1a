use Rattle.std.proofs.Common.{true, sym, ◌∙◌}
use Rattle.cpu.proofs.Translations.{cached_in_use}
use Rattle.cpu.proofs.at_once.store_run.Goals as goal

pub write-requires-clause-in_use : goal.write-requires-clause-in_use
write-requires-clause-in_use g c =
    cached_in_use c.args.shootdown.now c.requires.0 c.args.frames.now c.args.p c.args.va true c.in-Some.frame
    c.requires.1 (sym c.frame_cached.ensures.frame ∙ c.in-Some.is)
