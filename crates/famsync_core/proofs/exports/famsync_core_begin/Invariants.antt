-- The content is what the host knows of the volume.
use Rattle.famsync_core.proofs.exports.famsync_core_begin.Given as goal

abbrev pub ghost-begin : goal.ghost-begin
ghost-begin g a = g.content
