use Rattle.std.proofs.Common.{◌≡◌}
use Rattle.slab.specs.Slab.{slab_len}
use Rattle.frames.proofs.pages.give_out_all.Given as goal

abbrev pub invariant-loop : goal.invariant-loop
invariant-loop g l = record {
  given : slab_len l.pages ≡ l.counter;
  room : l.pages.capacity ≡ l.end;
}
