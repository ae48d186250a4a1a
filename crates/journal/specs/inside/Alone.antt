-- A single write-out, as a list of one.
use Rattle.std.specs.Prelude.{List, [], ◌∷◌}
use Rattle.std.specs.Option.{option_map_or}
use Rattle.journal.specs.WriteOut.{WriteOut, FlushValue, next_stage}
use Rattle.journal.specs.WriteOuts.{WriteOutsValue, following}

-- The list with this write-out, or the empty list once it is done.
abbrev pub unless_done : WriteOut → List WriteOut
unless_done w = option_map_or (λ stage. w ∷ []) (next_stage w) []

-- The write-outs of a volume that has only this one.
abbrev pub alone_of : FlushValue → WriteOutsValue
alone_of flush = record {
  geometry = flush.geometry;
  next = following flush.geometry.layout flush.write_out.batch.journal;
  batches = unless_done flush.write_out;
  broken = flush.broken;
}
