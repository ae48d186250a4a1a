use Rattle.std.proofs.Common.{◌+◌, ◌≤◌, count_by, is_none}
use Rattle.checkpoint.specs.inside.Resized.{AddsPages}
use Rattle.checkpoint.proofs.resizing.add_pages.Given as goal

abbrev pub invariant-loop-page : goal.invariant-loop-page
invariant-loop-page g l = record {
  adds : AddsPages l.file l.first l.page l.initial.frames l.frames;
  room : l.end ≤ l.page + count_by is_none l.frames.frames;
}
