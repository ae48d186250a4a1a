use Rattle.std.proofs.Common.{◌≡◌, replicate, vec_len, vec_capacity}
use Rattle.frames.specs.Frames.{zero_page}
use Rattle.frames.proofs.pages.zero_pages.Given as goal

abbrev pub invariant-loop : goal.invariant-loop
invariant-loop g l = record {
  pages : l.pages.items ≡ replicate l.counter zero_page;
  len : vec_len l.pages ≡ l.counter;
  room : vec_capacity l.pages ≡ l.count;
}
