use Rattle.deferred_disk.proofs.deferred.DeferredDisk.new.Given as goal

abbrev pub ghost-begin : goal.ghost-begin
ghost-begin g a = g.content
