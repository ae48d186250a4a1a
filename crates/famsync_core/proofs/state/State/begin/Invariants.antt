-- The content is what the host knows of the volume.
use Rattle.famsync_core.proofs.state.State.begin.Given as goal

abbrev pub ghost-disk_of : goal.ghost-disk_of
ghost-disk_of g a = g.content
