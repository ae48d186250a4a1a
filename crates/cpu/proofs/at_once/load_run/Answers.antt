use Rattle.std.proofs.Common.{false, sym, ◌∙◌}
use Rattle.cpu.proofs.Translations.{cached_in_use}
use Rattle.cpu.proofs.at_once.load_run.Goals as goal

pub bytes-requires : goal.bytes-requires
bytes-requires g c =
    cached_in_use c.args.shootdown.now c.requires.0 c.args.frames.now c.args.p c.args.va false c.in-Some.frame
    c.requires.1 (sym c.frame_cached.ensures.frame ∙ c.in-Some.is)
