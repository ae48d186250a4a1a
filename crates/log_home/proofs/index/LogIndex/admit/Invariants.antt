use Rattle.std.proofs.Common.{◌≡◌, ℕ, take}
use Rattle.std.specs.List.{Contains}
use Rattle.log_home.specs.Index.{find_in, indexed_homes}
use Rattle.log_home.proofs.index.LogIndex.admit.Given as goal

abbrev pub invariant-loop-home : goal.invariant-loop-home
invariant-loop-home g l = record {
  same : (b : ℕ) → find_in l.self b ≡ find_in l.initial.self b;
  room : (b : ℕ) → Contains (take l.home-index l.homes) b → Contains (indexed_homes l.self) b;
}
