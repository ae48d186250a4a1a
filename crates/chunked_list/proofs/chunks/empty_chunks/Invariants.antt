use Rattle.std.proofs.Common.{◌≡◌, [], replicate, vec_len, vec_capacity}
use Rattle.chunked_list.proofs.chunks.empty_chunks.Given as goal

abbrev pub invariant-loop : goal.invariant-loop
invariant-loop g l = record {
  chunks : l.chunks.items ≡ replicate l.counter [];
  len : vec_len l.chunks ≡ l.counter;
  room : vec_capacity l.chunks ≡ l.count;
}
