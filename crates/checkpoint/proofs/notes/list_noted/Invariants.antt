use Rattle.std.proofs.Common.{◌≡◌, ◌≤◌, vec_capacity, vec_len}
use Rattle.checkpoint.specs.inside.Notes.{noted_at}
use Rattle.checkpoint.proofs.Gathering.{in_turn}
use Rattle.checkpoint.proofs.notes.list_noted.Given as goal

abbrev pub invariant-loop-frame : goal.invariant-loop-frame
invariant-loop-frame g l = record {
  listed : l.pages.items ≡ noted_at l.frames l.notes (λ frame. frame) l.frame;
  few : vec_len l.pages ≤ l.frame;
  room : vec_capacity l.pages ≡ vec_capacity l.initial.pages;
}

abbrev pub invariant-loop-place : goal.invariant-loop-place
invariant-loop-place g l = record {
  listed : l.pages.items ≡ noted_at l.frames l.notes (in_turn l.order.items) l.place;
  few : vec_len l.pages ≤ l.place;
  room : vec_capacity l.pages ≡ vec_capacity l.initial.pages;
}
