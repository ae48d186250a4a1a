use Rattle.std.proofs.Common.{◌≡◌, ℕ, ◌+◌, ◌≤◌, length, drop, true, is_some}
use Rattle.std.specs.List.{Contains}
use Rattle.std.specs.Map.{lookup}
use Rattle.std.specs.BTreeMap.{is_at}
use Rattle.std.specs.Ordering.{nat_cmp}
use Rattle.log_home.specs.Index.{find_in, recorded_or}
use Rattle.log_home.proofs.index.LogIndex.note.Given as goal

abbrev pub invariant-loop-place : goal.invariant-loop-place
invariant-loop-place g l = record {
  most : l.place ≤ length l.homes;
  found : (b : ℕ) → find_in l.self-inside.tree.entries b
      ≡ recorded_or l.log.ring (find_in l.initial.self-inside.tree.entries b) (l.records + l.place) l.number
      (drop l.place l.homes) b;
  room : (b : ℕ) → Contains l.homes b → is_some (lookup (is_at (nat_cmp b)) l.self-inside.tree.entries) ≡ true;
}
