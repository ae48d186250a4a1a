use Rattle.std.proofs.Common.{◌≡◌, count_by, is_some}
use Rattle.checkpoint.proofs.Dropped.{Drops}
use Rattle.checkpoint.proofs.resizing.drop_past.Given as goal

abbrev pub invariant-pages : goal.invariant-pages
invariant-pages g l = record {
  drops : Drops l.file l.end l.initial.frames l.initial.notes l.initial.spaces.map l.frames l.notes l.spaces.map;
  prepared : l.spaces.prepared ≡ l.initial.spaces.prepared;
}

-- the frames in use become fewer
abbrev pub decreases-pages : goal.decreases-pages
decreases-pages g l = count_by is_some l.frames.frames
